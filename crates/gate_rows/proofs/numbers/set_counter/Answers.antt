use Rattle.sqlite.specs.Held.{state}
use Rattle.gate_schema.proofs.CounterTable.{sets_counter}
use Rattle.gate_rows.proofs.RanLemmas.{ran_so}
use Rattle.gate_rows.proofs.numbers.set_counter.Goals as goal

pub returns-clause-changes : goal.returns-clause-changes
returns-clause-changes g c clean ready =
    ran_so _ (λ ran. sets_counter c.args.counter c.args.drawn (state g.S.Store c.args.tx.now.conn.now) (state g.S.Store c.run.new.tx.conn.now) ran.0 ready
    (rw (c.text.ensures, c.word.ensures, c.in-Some.ensures) at ran.1)) (c.run.ensures.ran clean ready)
