use Rattle.sqlite.specs.Held.{state}
use Rattle.gate_file_changes.proofs.FillLemmas.{fills_counter}
use Rattle.gate_file_changes.proofs.filling.fill_counter.Goals as goal

pub returns-clause-made : goal.returns-clause-made
returns-clause-made g c settings clean had =
    fills_counter settings (state g.S.Store c.args.tx.now.conn.now) (state g.S.Store c.execute.new.self.conn.now) _ had
    (c.in_ok-execute.ensures.runs clean had.ready.inside)
