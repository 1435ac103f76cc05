use Rattle.std.proofs.Common.{inr}
use Rattle.sqlite.specs.Held.{state}
use Rattle.gated_cli.proofs.BlameLemmas.{LeftBy, migrating_closes}
use Rattle.gated_cli.proofs.OfFileLemmas.{closed_led, upgraded_led}
use Rattle.gated_cli.proofs.machine.AnyGateFiles.migrate.Goals as goal

pub returns-clause-made : goal.returns-clause-made
returns-clause-made g c =
    closed_led _ _ c.migrate-conn.result.1 c.close.result c.closed.result _ c.closed.ensures.fault c.closed.ensures.well
    c.closed.ensures.unclosed
    (upgraded_led (state g.S.Store c.in_ok-conn.conn) (state g.S.Store c.migrate-conn.result.0) c.args.config.now
    c.migrate-conn.result.1 _ _ c.migrate-conn.ensures.done c.migrate-conn.ensures.already)
    c.close.ensures.closed (λ u is shut. (c.in_ok-conn.conn, c.migrate-conn.result.0, c.in_ok-conn.ensures.of, shut, is))

pub returns-clause-why : goal.returns-clause-why
returns-clause-why g c =
    let old = state g.S.Store c.in_ok-conn.conn in
    let new = state g.S.Store c.migrate-conn.result.0 in
    let said = c.migrate-conn.ensures in
    migrating_closes (LeftBy g.M.Databases.IsUnopened g.M.Databases.IsOf g.M.Databases.IsGivenBack (state g.S.Store) c.args.file.now)
    c.args.config.now old new
    (λ U R so. inr (c.in_ok-conn.conn, c.migrate-conn.result.0, c.in_ok-conn.ensures.of, c.close.ensures.given, so))
    c.migrate-conn.result.1 c.closed.result c.closed.ensures.fault c.closed.ensures.store
    (λ tables indexes views version kept schema meta clean. said.judged clean tables indexes views version kept schema meta)
    (upgraded_led old new c.args.config.now c.migrate-conn.result.1 _ _ said.done said.already) said.fault
