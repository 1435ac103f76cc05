use Rattle.std.proofs.Common.{◌≡◌, [], inl, inr, refl}
use Rattle.sqlite.specs.Held.{state}
use Rattle.gate_types.specs.Tap.{inside}
use Rattle.gated_cli.specs.OfFile.{TextOf}
use Rattle.gated_cli.specs.Showing.{Writes}
use Rattle.gated_cli.specs.Blame.{IsNotShown}
use Rattle.gated_cli.specs.OverFile.{GoesOver, LeavesAfter}
use Rattle.gated_cli.proofs.BlameLemmas.{LeftBy, why_closes}
use Rattle.gated_cli.proofs.ShowLemmas.{closed_well, show_closes, shows, told_of}
use Rattle.gated_cli.proofs.OfFileLemmas.{closed_led, printed_led}
use Rattle.gated_cli.proofs.machine.AnyGateFiles.show.Goals as goal

pub returns-clause-ok : goal.returns-clause-ok
returns-clause-ok g c = closed_well c.show-conn.result.1 c.closed.result c.closed.ensures.fault c.show-conn.ensures.ok
    (shows c.args.shown g.W.Write.contents c.args.output.now c.show-conn.new.output)

pub returns-clause-err : goal.returns-clause-err
returns-clause-err g c = show_closes c.args.shown g.W.Write.contents c.args.output.now c.show-conn.new.output
    c.show-conn.result.1 c.closed.result c.closed.ensures.fault c.closed.ensures.store c.show-conn.ensures.ok
    c.show-conn.ensures.err

pub returns-clause-made : goal.returns-clause-made
returns-clause-made g c =
    let old = state g.S.Store c.in_ok-conn.conn in
    let new = state g.S.Store c.show-conn.result.0 in
    let k = c.args.config in
    let held = g.W.Write.contents in
    let from = c.args.output.now in
    let to = c.show-conn.new.output in
    closed_led _ _ c.show-conn.result.1 c.close.result c.closed.result _ c.closed.ensures.fault c.closed.ensures.well
    c.closed.ensures.unclosed
    (printed_led old new k (TextOf c.args.shown) (held (inside from)) (held (inside to))
    (λ gate r. Writes c.args.shown gate held from to r) c.show-conn.result.1
    (λ gate u. told_of c.args.shown gate held from to u)
    (λ none clean gate file. let went = c.show-conn.ensures.gate none clean gate file in (went.0, went.1, (went.2.0, went.2.1))))
    c.close.ensures.closed (λ u is shut. (c.in_ok-conn.conn, c.show-conn.result.0, c.in_ok-conn.ensures.of, shut, is))

pub returns-clause-why : goal.returns-clause-why
returns-clause-why g c =
    let old = state g.S.Store c.in_ok-conn.conn in
    let new = state g.S.Store c.show-conn.result.0 in
    let k = c.args.config in
    let held = g.W.Write.contents in
    let from = c.args.output.now in
    let to = c.show-conn.new.output in
    why_closes (LeftBy g.M.Databases.IsUnopened g.M.Databases.IsOf g.M.Databases.IsGivenBack (state g.S.Store) c.args.file.now)
    k (IsNotShown k c.args.shown held from to) old new
    (λ r. GoesOver old new k (λ gate after. (after ≡ gate) × Writes c.args.shown gate held from to r × LeavesAfter new k gate []))
    c.show-conn.result.1 c.closed.result c.closed.ensures.fault c.closed.ensures.store
    (λ U R so. inr (c.in_ok-conn.conn, c.show-conn.result.0, c.in_ok-conn.ensures.of, c.close.ensures.given, so))
    c.show-conn.ensures.judged c.show-conn.ensures.gate
    (λ f did clean gate file. let went = did clean gate file in (went.0, went.1, (went.2.0, inl went.2.1, went.2.2)))
    (λ u did clean gate file. let went = did clean gate file in (went.0, went.1, (went.2.0, inr (refl, went.2.1), went.2.2)))
