use Rattle.sqlite.specs.Held.{state}
use Rattle.gate_schema.proofs.ChangeTable.{sets_stage}
use Rattle.gate_rows.proofs.RanLemmas.{ran_so}
use Rattle.gate_rows.proofs.changes.set_stage.Goals as goal

pub returns-clause-changes : goal.returns-clause-changes
returns-clause-changes g c clean ready =
    ran_so _ (λ ran. sets_stage c.args.n c.args.stage (state g.S.Store c.args.tx.now.conn.now) (state g.S.Store c.run.new.tx.conn.now) ran.0 ready
    (rw (c.change.ensures, c.text.ensures, c.word.ensures) at ran.1)) (c.run.ensures.ran clean ready)
