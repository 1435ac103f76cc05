use Rattle.sqlite.specs.Held.{state}
use Rattle.gate_migration.proofs.UpgradeLemmas.{sets_version}
use Rattle.gate_migration.proofs.upgrading.set_version.Goals as goal

pub returns-clause-made : goal.returns-clause-made
returns-clause-made g c b clean had =
    sets_version b (state g.S.Store c.args.tx.now.conn.now) (state g.S.Store c.execute.new.self.conn.now) _ had
    (c.in_ok-execute.ensures.runs clean had.inside)
