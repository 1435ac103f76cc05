use Rattle.sqlite.specs.Held.{state}
use Rattle.gate_migration.proofs.UpgradeLemmas.{makes_fast_table}
use Rattle.gate_migration.proofs.upgrading.make_fast_table.Goals as goal

pub returns-clause-made : goal.returns-clause-made
returns-clause-made g c b clean had =
    makes_fast_table b (state g.S.Store c.args.tx.now.conn.now) (state g.S.Store c.execute.new.self.conn.now) _ had
    (c.in_ok-execute.ensures.runs clean had.inside)
