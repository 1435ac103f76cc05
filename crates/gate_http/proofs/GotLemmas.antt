-- What a GET of a path asks for.
use Rattle.std.proofs.Common.{◌≡◌, ℕ, ◌≤◌, true, cond, List, length, Option, Some, Result, refl, sym, ap, ◌∙◌}
use Rattle.std.proofs.lemmas.Bool.{le-ltb}
use Rattle.gate_http.specs.declared.response.Extent.TheVariants as extent
use Rattle.gate_http.specs.declared.fault.HttpFault.{HttpFault}
use Rattle.gate_http.specs.declared.fault.HttpFault.TheVariants as fault
use Rattle.gate_http.specs.declared.request.Wanted.{Wanted}
use Rattle.gate_http.specs.declared.routes.Route.{Route}
use Rattle.gate_http.specs.Got.{is_target, get_head, got}
use Rattle.gate_http.specs.Parts.{read_or, reading}
use Rattle.gate_http.specs.Routes.{route_of, path_of}
use Rattle.gate_http.specs.Way.{refused, extent_of, on_route, decided_of}
use Rattle.gate_http.proofs.RequestLemmas.{reads_on}

-- what is read at a path that a head can hold is what a GET of it asks for
pub got_read : (path before : List ℕ) (r : Option Route) (read : Result Wanted HttpFault) → length path ≤ 8175
    → is_target path ≡ true → before ≡ path_of path → r ≡ route_of before
    → read_or (extent_of (get_head path).method) read ≡ reading (get_head path) before r
    → read_or extent.Whole read ≡ got path
got_read path before r read short fits cuts routed reads =
    let h = get_head path in
    let asked = decided_of (Some h) in
    let at : on_route h before r ≡ asked =
    ap (on_route h before) routed ∙ ap (λ p. on_route h p (route_of p)) cuts in
    let small : got path ≡ cond (is_target path) asked (refused fault.BadRequest extent.Whole) =
    ap (λ t. cond t (refused fault.HeadTooLarge extent.Whole)
    (cond (is_target path) asked (refused fault.BadRequest extent.Whole)))
    (le-ltb 8175 (length path) short) in
    let good : cond (is_target path) asked (refused fault.BadRequest extent.Whole) ≡ asked =
    ap (λ t. cond t asked (refused fault.BadRequest extent.Whole)) fits in
    reads ∙ reads_on h before r (λ _. refl) (λ _. refl) ∙ at ∙ sym (small ∙ good)
