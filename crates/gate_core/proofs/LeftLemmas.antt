-- What a crash leaves after one call, and after calls in turn.
use Rattle.std.proofs.Common.{◌≡◌, Bool, true, false, List, [], ◌∷◌, ◌++◌, Result, Ok, Err, refl, sym, subst}
use Rattle.std.specs.Bool.{if◌then◌else◌}
use Rattle.std.proofs.lemmas.List.Concat.{flat_map-append}
use Rattle.gate_types.specs.declared.records.Id.{Id}
use Rattle.gate_types.specs.declared.deliveries.Delivery.{Delivery}
use Rattle.gate_types.specs.declared.deliveries.Refusal.{Refusal}
use Rattle.gate_types.specs.Settings.{Settings}
use Rattle.gate_types.specs.Once.{Content, Call, acts, next_content, once}
use Rattle.gate_types.specs.Gated.{Gated}
use Rattle.gate_core.specs.Answered.{CallLeaves, spared}
use Rattle.gate_core.specs.declared.gate.Gate.{Gate}
use Rattle.gate_core.specs.Left.{LeavesBy, left_after, left_by}
use Rattle.gate_core.specs.Replies.{Marked, call_of, call_read, calls_of_lines, gate_after_lines}

-- more contents may be named
abbrev pub MayLeaveMore : {B : Type 0} → (B → Settings → List Content → Type 0) → Type 0
MayLeaveMore {B} leaves =
    (b : B) (c : Settings) (ys : List Content) (y : Content) → leaves b c ys → leaves b c (ys ++ y ∷ [])

-- without a call, what was left before
pub leaves_none : {B : Type 0} (leaves : B → Settings → List Content → Type 0) (gate : Gate B) (g : Gated) →
    LeavesBy leaves gate gate g []
leaves_none leaves gate g = λ ys was. was

-- after one call
pub leaves_call : {B : Type 0} (leaves : B → Settings → List Content → Type 0) (old new : Gate B) (g : Gated)
    (k : Call) → CallLeaves g.settings g.content k (leaves old.book g.settings) (leaves new.book g.settings) →
    LeavesBy leaves old new g (k ∷ [])
leaves_call leaves old new g k h =
    λ ys was. by_marks ys was (acts g.settings g.content k) refl k.unavailable refl
  where
    by_marks : (ys : List Content) → leaves old.book g.settings ys → (t : Bool) → acts g.settings g.content k ≡ t →
        (u : Bool) → k.unavailable ≡ u → leaves new.book g.settings
        (if t then next_content g.settings g.content k ∷ [] else
        if u then ys ++ spared g.settings g.content k ∷ [] else ys)
    by_marks ys was true e u f = h.acted e
    by_marks ys was false e true f = h.failed f ys was
    by_marks ys was false e false f = h.stood f e ys was

-- a line that is answered `unavailable` before it was read
pub leaves_unheard : {B : Type 0} (leaves : B → Settings → List Content → Type 0) → MayLeaveMore leaves →
    (gate : Gate B) (g : Gated) (r : Result (Id × Delivery) Refusal) → LeavesBy leaves gate gate g (call_read true r ++ [])
leaves_unheard leaves more gate g (Err e) = leaves_none leaves gate g
leaves_unheard leaves more gate g (Ok x) =
    let k : Call = record { id = x.0; delivery = x.1; unavailable = true } in
    λ ys was. more gate.book g.settings ys (spared g.settings g.content k) was

-- calls in two parts
left_append : (c : Settings) (x : Content) (ks ls : List Call) (ys : List Content) →
    left_after c x (ks ++ ls) ys ≡ left_after c (once c x ks) ls (left_after c x ks ys)
left_append c x [] ls ys = refl
left_append c x (k ∷ ks) ls ys = left_append c (next_content c x k) ks ls (left_by c x k ys)

-- after calls, and calls behind them
pub leaves_more_calls : {B : Type 0} (leaves : B → Settings → List Content → Type 0) (old between new : Gate B)
    (g mid : Gated) (ks ls : List Call) → mid ≡ record g { content = once g.settings g.content ks } →
    LeavesBy leaves old between g ks → LeavesBy leaves between new mid ls → LeavesBy leaves old new g (ks ++ ls)
leaves_more_calls leaves old between new g mid ks ls stands first next =
    let on = subst (λ h. LeavesBy leaves between new h ls) stands next in
    λ ys was. subst (leaves new.book g.settings) (sym (left_append g.settings g.content ks ls ys))
    (on (left_after g.settings g.content ks ys) (first ys was))

-- after lines, and lines behind them
pub leaves_then : {B : Type 0} (leaves : B → Settings → List Content → Type 0) (old between new : Gate B)
    (g mid : Gated) (ms ns : List Marked) → mid ≡ gate_after_lines g ms →
    LeavesBy leaves old between g (calls_of_lines ms) → LeavesBy leaves between new mid (calls_of_lines ns) →
    LeavesBy leaves old new g (calls_of_lines (ms ++ ns))
leaves_then leaves old between new g mid ms ns stands first next =
    subst (LeavesBy leaves old new g) (sym (flat_map-append call_of ms ns))
    (leaves_more_calls leaves old between new g mid (calls_of_lines ms) (calls_of_lines ns) stands first next)
