use Rattle.sqlite.specs.Held.{state}
use Rattle.gate_schema.proofs.NeedTable.{drops_needs}
use Rattle.gate_rows.proofs.RanLemmas.{ran_so}
use Rattle.gate_rows.proofs.changes.drop_needs.Goals as goal

pub returns-clause-changes : goal.returns-clause-changes
returns-clause-changes g c clean ready =
    ran_so _ (λ ran. drops_needs c.args.n (state g.S.Store c.args.tx.now.conn.now) (state g.S.Store c.run.new.tx.conn.now) ran.0 ready
    (rw (c.change.ensures) at ran.1)) (c.run.ensures.ran clean ready)
