use Rattle.std.proofs.Common.{inr}
use Rattle.sqlite.specs.Held.{state}
use Rattle.gated_cli.proofs.BlameLemmas.{LeftBy, making_closes}
use Rattle.gated_cli.proofs.FileLemmas.{made_ends}
use Rattle.gated_cli.proofs.OfFileLemmas.{closed_led, made_led}
use Rattle.gated_cli.proofs.machine.AnyGateFiles.make.Goals as goal

pub returns-clause-made : goal.returns-clause-made
returns-clause-made g c =
    closed_led _ _ c.make-conn.result.1 c.close.result c.closed.result _ c.closed.ensures.fault c.closed.ensures.well
    c.closed.ensures.unclosed
    (made_led (state g.S.Store c.in_ok-conn.conn) (state g.S.Store c.make-conn.result.0) c.args.config.now c.make-conn.result.1
    c.make-conn.ensures.made c.make-conn.ensures.settled)
    c.close.ensures.closed (λ u is shut. (c.in_ok-conn.conn, c.make-conn.result.0, c.in_ok-conn.ensures.of, shut, is))

pub returns-clause-fault : goal.returns-clause-fault
returns-clause-fault g c = made_ends c.make-conn.result.1 c.closed.result c.closed.ensures.fault c.closed.ensures.store c.make-conn.ensures.fault

pub returns-clause-why : goal.returns-clause-why
returns-clause-why g c =
    let old = state g.S.Store c.in_ok-conn.conn in
    let new = state g.S.Store c.make-conn.result.0 in
    making_closes (LeftBy g.M.Databases.IsUnopened g.M.Databases.IsOf g.M.Databases.IsGivenBack (state g.S.Store) c.args.file.now)
    c.args.config.now old new
    (λ U R so. inr (c.in_ok-conn.conn, c.make-conn.result.0, c.in_ok-conn.ensures.of, c.close.ensures.given, so))
    c.make-conn.result.1 c.closed.result c.closed.ensures.fault c.closed.ensures.store c.make-conn.ensures.faults
    (made_led old new c.args.config.now c.make-conn.result.1 c.make-conn.ensures.made c.make-conn.ensures.settled)
    c.make-conn.ensures.fault
