-- The state after calls is that of the deliveries that act, one after another.
use Rattle.std.proofs.Common.{◌≡◌, Bool, true, false, ◌&&◌, List, [], ◌∷◌, ◌++◌, map, refl, ◌∙◌, ap}
use Rattle.std.specs.Bool.{if◌then◌else◌}
use Rattle.gate_types.specs.Settings.{Settings}
use Rattle.gate_types.specs.declared.deliveries.Delivery.{Delivery}
use Rattle.gate_types.specs.Step.{Stepped, accepted, refused, step}
use Rattle.gate_types.specs.Once.{Content, Call, may_act, is_accepted, content_after, once, acting, state_of_step}
use Rattle.gate_types.specs.Once.{state_after}

abbrev pub deliveries : List Call → List Delivery
deliveries ks = map (λ k. k.delivery) ks

-- what the law says of some calls in a content
abbrev pub Agrees : Settings → List Call → Content → Type 0
Agrees c ks x = (once c x ks).state ≡ state_after c x.state (deliveries (acting c x ks))

abbrev pub content_by : Bool → Content → Call → Stepped → Content
content_by b x k st = if b then content_after x k st else x

-- one call more, by cases on whether it may act and on what its delivery does
pub at_call : (c : Settings) (x : Content) (k : Call) (ks : List Call) → ((y : Content) → Agrees c ks y) → (b : Bool) (st : Stepped) → st ≡ step c x.state k.delivery →
    (once c (content_by b x k st) ks).state ≡ state_after c x.state (deliveries ((if b && is_accepted st then k ∷ [] else []) ++ acting c (content_by b x k st) ks))
at_call c x k ks rest false st e = rest x
at_call c x k ks rest true (accepted r t) e =
    let y = content_after x k (accepted r t) in
    rest y ∙ ap (λ u. state_after c (state_of_step x.state u) (deliveries (acting c y ks))) e
at_call c x k ks rest true (refused r) e = rest x

pub state-once : (c : Settings) (ks : List Call) (x : Content) → Agrees c ks x
state-once c [] x = refl
state-once c (k ∷ ks) x = at_call c x k ks (state-once c ks) (may_act x k) (step c x.state k.delivery) refl
