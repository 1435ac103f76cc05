use Rattle.std.proofs.Common.{[], arith}
use Rattle.sqlite.specs.State.{HasCleanDisk}
use Rattle.sqlite.specs.Held.{state}
use Rattle.gate_file_changes.specs.Making.{first_stored}
use Rattle.gate_file_changes.proofs.filling.write_first.Goals as goal

pub returns-clause-made : goal.returns-clause-made
returns-clause-made g c clean bare =
    let two : HasCleanDisk (state g.S.Store c.fill_counter.new.tx.conn.now) = omega (arith, c.add_queues.ensures.crash.clean) in
    let one : HasCleanDisk (state g.S.Store c.fill_meta.new.tx.conn.now) = omega (arith, c.fill_counter.ensures.crash.clean) in
    c.add_queues.ensures.made (first_stored c.args.settings.now []) clean (c.in_ok-fill_counter.ensures.made c.args.settings.now two (c.in_ok-fill_meta.ensures.made one bare))
