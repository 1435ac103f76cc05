use Rattle.sqlite.specs.Held.{state}
use Rattle.gate_file_changes.proofs.FillLemmas.{fills_meta}
use Rattle.gate_file_changes.proofs.filling.fill_meta.Goals as goal

pub returns-clause-made : goal.returns-clause-made
returns-clause-made g c clean bare =
    fills_meta c.args.settings.now (state g.S.Store c.args.tx.now.conn.now) (state g.S.Store c.execute.new.self.conn.now) _ bare
    (rw c.to_sql.ensures at (c.in_ok-execute.ensures.runs clean bare.inside))
