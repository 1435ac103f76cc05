use Rattle.sqlite.specs.Held.{state}
use Rattle.gate_schema.proofs.BuildTable.{sets_outcome}
use Rattle.gate_rows.proofs.RanLemmas.{ran_so}
use Rattle.gate_rows.proofs.builds.set_outcome.Goals as goal

pub returns-clause-changes : goal.returns-clause-changes
returns-clause-changes g c clean ready =
    ran_so _ (λ ran. sets_outcome c.args.n c.args.outcome (state g.S.Store c.args.tx.now.conn.now) (state g.S.Store c.run.new.tx.conn.now) ran.0 ready
    (rw (c.build.ensures, c.text.ensures, c.word.ensures) at ran.1)) (c.run.ensures.ran clean ready)
