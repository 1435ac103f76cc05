use Rattle.sqlite.specs.Held.{state}
use Rattle.gate_file_changes.proofs.BareLemmas.{makes_bare}
use Rattle.gate_file_changes.proofs.making.make_one.Goals as goal

pub returns-clause-made : goal.returns-clause-made
returns-clause-made g c s t makes clean bare =
    makes_bare c.args.text.now s t makes (state g.S.Store c.args.tx.now.conn.now) (state g.S.Store c.execute.new.self.conn.now) _ bare
    (c.in_ok-execute.ensures.runs clean bare.inside)
