use Rattle.std.proofs.Common.{arith}
use Rattle.sqlite.specs.State.{HasCleanDisk}
use Rattle.sqlite.specs.Held.{state}
use Rattle.gate_migration.proofs.upgrading.widen.Goals as goal

pub returns-clause-made : goal.returns-clause-made
returns-clause-made g c b clean first =
    let two : HasCleanDisk (state g.S.Store c.make_fast_table.new.tx.conn.now) = omega (arith, c.set_version.ensures.crash.clean) in
    let one : HasCleanDisk (state g.S.Store c.make_job_table.new.tx.conn.now) = omega (arith, c.make_fast_table.ensures.crash.clean) in
    c.set_version.ensures.made b clean (c.in_ok-make_fast_table.ensures.made b two (c.in_ok-make_job_table.ensures.made b one first))
