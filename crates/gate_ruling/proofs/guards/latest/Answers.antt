use Rattle.std.proofs.Common.{◌≡◌, ◌∙◌, ◌<◌, ◌≤◌, Some, refl, sym, ap, arith, rules}
use Rattle.gate_types.specs.State.{known_change}
use Rattle.gate_types.specs.Step.{settled_step}
use Rattle.gate_book_trait.proofs.ReadingLemmas.{is_read}
use Rattle.gate_ruling.specs.Guards.{unless_past}
use Rattle.gate_ruling.proofs.Latest.{unknown, ahead, past, at_latest}
use Rattle.gate_ruling.proofs.guards.latest.Goals as goal

pub returns-in_default : goal.returns-in_default
returns-in_default g c = is_read (λ trusted s x holds lawful.
    let r = c.args.revision in
    let none = sym (c.in_ok-known.ensures.found trusted s x holds lawful) ∙ c.in_default.is in
    λ f d e. (ap (settled_step s) (e ∙ unknown x.state c.args.change r (unless_past x.state r f) none), refl))
    (search rules) (search rules)

pub returns-then-get : goal.returns-then-get
returns-then-get g c = is_read (λ trusted s x holds lawful.
    let r = c.args.revision in
    let k = c.in-Some.known in
    let known = sym (c.in_ok-known.ensures.found trusted s x holds lawful) ∙ c.in-Some.is in
    let less : k.revision < r = omega arith in
    λ f d e. (ap (settled_step s) (e ∙ ahead x.state c.args.change r (unless_past x.state r f) k known less), refl))
    (search rules) (search rules)

pub returns-then-get-2 : goal.returns-then-get-2
returns-then-get-2 g c = is_read (λ trusted s x holds lawful.
    let k = c.in-Some.known in
    let known = sym (c.in_ok-known.ensures.found trusted s x holds lawful) ∙ c.in-Some.is in
    let less : c.args.revision < k.revision = omega arith in
    λ f d e. e ∙ past x.state c.args.change c.args.revision f k known less)
    (search rules) (search rules)

pub returns : goal.returns
returns g c = is_read (λ trusted s x holds lawful.
    let r = c.args.revision in
    let k = c.in-Some.known in
    let known : known_change x.state c.args.change ≡ Some k =
    sym (c.in_ok-known.ensures.found trusted s x holds lawful) ∙ c.in-Some.is in
    let up : r ≤ k.revision = omega arith in
    let down : k.revision ≤ r = omega arith in
    (known, at_latest x.state c.args.change r k known up down))
    (search rules) (search rules)
