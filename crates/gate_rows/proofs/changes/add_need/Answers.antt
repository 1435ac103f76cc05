use Rattle.sqlite.specs.Held.{state}
use Rattle.gate_schema.proofs.NeedTable.{adds_need}
use Rattle.gate_rows.proofs.RanLemmas.{ran_so}
use Rattle.gate_rows.proofs.changes.add_need.Goals as goal

pub returns-clause-changes : goal.returns-clause-changes
returns-clause-changes g c clean ready =
    ran_so _ (λ ran. adds_need (record { change = c.args.n; place = c.args.index; needed = c.args.needed }) (state g.S.Store c.args.tx.now.conn.now) (state g.S.Store c.run.new.tx.conn.now) ran.0 ready
    (rw (c.change.ensures, c.change-2.ensures, c.number.ensures) at ran.1)) (c.run.ensures.ran clean ready)
