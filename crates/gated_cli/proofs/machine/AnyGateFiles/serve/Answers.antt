use Rattle.sqlite.specs.Held.{state}
use Rattle.gated_cli.specs.Ending.{most_served}
use Rattle.gated_cli.specs.OverFile.{GoesOver, ServesOver}
use Rattle.std.proofs.Common.{inr, refl}
use Rattle.std.specs.Prelude.{Err}
use Rattle.gated_cli.specs.Doing.{beside}
use Rattle.gated_cli.proofs.BlameLemmas.{LeftBy, why_closes}
use Rattle.gated_cli.proofs.FileLemmas.{serving_ends}
use Rattle.gated_cli.proofs.TalkLemmas.{none_so_far}
use Rattle.gated_cli.proofs.OfFileLemmas.{closed_led, opened_led}
use Rattle.gated_cli.proofs.machine.AnyGateFiles.serve.Goals as goal

pub returns-clause-err : goal.returns-clause-err
returns-clause-err g c = serving_ends c.args.port c.serve-conn.result.1 c.closed.result
    (λ left failed. beside g.W.Write.contents left failed c.args.output.now)
    (λ left failed. beside g.W.Write.contents left failed c.serve-conn.new.output)
    c.closed.ensures.fault c.closed.ensures.store c.serve-conn.ensures.ok c.serve-conn.ensures.err

pub returns-in_err-conn-clause-told : goal.returns-in_err-conn-clause-told
returns-in_err-conn-clause-told g c =
    none_so_far g.E.Write.contents c.args.count c.args.errors.now c.args.errors.now c.requires.teller refl

pub returns-clause-made : goal.returns-clause-made
returns-clause-made g c =
    let old = state g.S.Store c.in_ok-conn.conn in
    let new = state g.S.Store c.serve-conn.result.0 in
    closed_led _ _ c.serve-conn.result.1 c.close.result c.closed.result _ c.closed.ensures.fault c.closed.ensures.well
    c.closed.ensures.unclosed
    (opened_led (λ r. GoesOver old new c.args.config (ServesOver new c.args.config (most_served r c.args.count))) c.serve-conn.result.1
    c.serve-conn.ensures.gate)
    c.close.ensures.closed (λ u is shut. (c.in_ok-conn.conn, c.serve-conn.result.0, c.in_ok-conn.ensures.of, shut, is))

pub returns-clause-why : goal.returns-clause-why
returns-clause-why g c =
    let old = state g.S.Store c.in_ok-conn.conn in
    let new = state g.S.Store c.serve-conn.result.0 in
    let k = c.args.config in
    why_closes (LeftBy g.M.Databases.IsUnopened g.M.Databases.IsOf g.M.Databases.IsGivenBack (state g.S.Store) c.args.file.now)
    k (λ f o n. GoesOver o n k (ServesOver n k (most_served (Err f) c.args.count))) old new
    (λ r. GoesOver old new k (ServesOver new k (most_served r c.args.count))) c.serve-conn.result.1 c.closed.result
    c.closed.ensures.fault c.closed.ensures.store
    (λ U R so. inr (c.in_ok-conn.conn, c.serve-conn.result.0, c.in_ok-conn.ensures.of, c.close.ensures.given, so))
    c.serve-conn.ensures.judged c.serve-conn.ensures.gate (λ f did. did) (λ u did. did)
