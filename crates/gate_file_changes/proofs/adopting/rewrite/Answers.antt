use Rattle.std.proofs.Common.{arith}
use Rattle.sqlite.specs.State.{HasCleanDisk}
use Rattle.sqlite.specs.Held.{state}
use Rattle.gate_file_changes.proofs.adopting.rewrite.Goals as goal

pub returns-clause-made : goal.returns-clause-made
returns-clause-made g c b clean had =
    let two : HasCleanDisk (state g.S.Store c.add_queues.new.tx.conn.now) = omega (arith, c.set_settings.ensures.crash.clean) in
    let one : HasCleanDisk (state g.S.Store c.drop_queues.new.tx.conn.now) = omega (arith, c.add_queues.ensures.crash.clean) in
    c.set_settings.ensures.made _ clean (c.in_ok-add_queues.ensures.made b two (c.in_ok-drop_queues.ensures.made b one had))
