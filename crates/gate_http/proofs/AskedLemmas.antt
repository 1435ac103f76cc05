-- What a gate tells to what is asked of it, by what its book says.
use Rattle.std.proofs.Common.{◌≡◌, ℕ, Bool, List, [], Option, Some, None, Result, Ok, Err, inl, inr, IfOk, IfErr}
use Rattle.std.proofs.Common.{refl, sym, ap, ◌∙◌, subst}
use Rattle.std.specs.Prelude.{◌⊎◌, MatchResult, if◌then◌else◌, option_map, option_and_then, unwrap_or}
use Rattle.gate_types.specs.declared.records.Build.{Build}
use Rattle.gate_types.specs.declared.deliveries.Answer.{Answer}
use Rattle.gate_types.specs.declared.deliveries.Answer.TheVariants.{Said, Refused}
use Rattle.gate_types.specs.declared.deliveries.Refusal.{Refusal}
use Rattle.gate_types.specs.declared.deliveries.Refusal.TheVariants as refusal
use Rattle.gate_types.specs.BuildText.{build_text}
use Rattle.gate_http.specs.declared.respond.AnswerIfAny.{AnswerIfAny}
use Rattle.gate_http.specs.declared.respond.AnswerIfAny.TheVariants as told
use Rattle.gate_http.specs.Asked.{tells_unavailable}
use Rattle.gate_http.specs.Answer.{answer_found, answer_known, told_item}

-- what is told, by its mark
abbrev pub marked : Bool → AnswerIfAny → AnswerIfAny
marked u t = if u then told.Answer (Refused refusal.Unavailable) else t

-- this is told, unless `unavailable` is
abbrev pub Tells : AnswerIfAny → AnswerIfAny → Type 0
Tells t said = t ≡ marked (tells_unavailable t) said

-- a text that was shown
pub shown_is : {T : Type 0} (bytes : T → List ℕ) (r : Result T Refusal) (a : Answer) (text : List ℕ)
    → MatchResult r (λ t. a ≡ Said (bytes t)) (λ e. a ≡ Refused e) → IfOk r (λ t. bytes t ≡ text)
    → IfErr r (λ e. e ≡ refusal.Unavailable) → Tells (told.Answer a) (told.Answer (Said text))
shown_is bytes (Ok t) a text h k u =
    subst (λ b. Tells (told.Answer b) (told.Answer (Said text))) (sym (h ∙ ap Said k)) refl
shown_is bytes (Err e) a text h k u =
    subst (λ b. Tells (told.Answer b) (told.Answer (Said text))) (sym (h ∙ ap Refused u)) refl

-- a build that was looked for
pub found_is : {T : Type 0} (bytes : T → List ℕ) (r : Result T Refusal) (a : Answer) (found : Option Build)
    → MatchResult r (λ t. a ≡ Said (bytes t)) (λ e. a ≡ Refused e)
    → MatchResult r (λ t. option_map build_text found ≡ Some (bytes t))
    (λ e. (e ≡ refusal.Unavailable) ⊎ ((e ≡ refusal.UnknownBuild) × (found ≡ None)))
    → Tells (told.Answer a) (told.Answer (answer_found found))
found_is bytes (Ok t) a None h k = cc
found_is bytes (Ok t) a (Some b) h k =
    let e : build_text b ≡ bytes t = ap (λ o. unwrap_or o []) k in
    subst (λ c. Tells (told.Answer c) (told.Answer (Said (build_text b)))) (sym (h ∙ ap Said (sym e))) refl
found_is bytes (Err e) a found h (inl u) =
    subst (λ b. Tells (told.Answer b) (told.Answer (answer_found found))) (sym (h ∙ ap Refused u)) refl
found_is bytes (Err e) a found h (inr v) =
    subst (λ f. Tells (told.Answer a) (told.Answer (answer_found f))) (sym v.1)
    (subst (λ b. Tells (told.Answer b) (told.Answer (Refused refusal.UnknownBuild))) (sym (h ∙ ap Refused v.0)) refl)

-- a change that was looked for
pub known_is : {T K : Type 0} (bytes : T → List ℕ) (text : K → List ℕ) (r : Result T Refusal) (a : Answer)
    (known : Option K) → MatchResult r (λ t. a ≡ Said (bytes t)) (λ e. a ≡ Refused e)
    → MatchResult r (λ t. option_map text known ≡ Some (bytes t))
    (λ e. (e ≡ refusal.Unavailable) ⊎ ((e ≡ refusal.UnknownChange) × (known ≡ None)))
    → Tells (told.Answer a) (told.Answer (answer_known (option_map text known)))
known_is bytes text (Ok t) a known h k =
    subst (λ o. Tells (told.Answer a) (told.Answer (answer_known o))) (sym k)
    (subst (λ b. Tells (told.Answer b) (told.Answer (Said (bytes t)))) (sym h) refl)
known_is bytes text (Err e) a known h (inl u) =
    subst (λ b. Tells (told.Answer b) (told.Answer (answer_known (option_map text known)))) (sym (h ∙ ap Refused u))
    refl
known_is bytes text (Err e) a known h (inr v) =
    subst (λ k. Tells (told.Answer a) (told.Answer (answer_known (option_map text k)))) (sym v.1)
    (subst (λ b. Tells (told.Answer b) (told.Answer (Refused refusal.UnknownChange))) (sym (h ∙ ap Refused v.0)) refl)

-- an item is told of without a failure
item_told : (text : Option (List ℕ)) → Tells (told_item text) (told_item text)
item_told None = refl
item_told (Some text) = refl

-- an item that was looked for
pub item_is : {T : Type 0} (bytes : T → List ℕ) (r : Result (Option T) Refusal) (t : AnswerIfAny) (text : Option (List ℕ))
    → MatchResult r (λ o. t ≡ told_item (option_map bytes o)) (λ e. t ≡ told.Answer (Refused e))
    → IfOk r (λ o. option_map bytes o ≡ text) → IfErr r (λ e. e ≡ refusal.Unavailable) → Tells t (told_item text)
item_is bytes (Ok o) t text h k u =
    subst (λ b. Tells b (told_item text)) (sym (h ∙ ap told_item k)) (item_told text)
item_is bytes (Err e) t text h k u =
    subst (λ b. Tells b (told_item text)) (sym (h ∙ ap (λ q. told.Answer (Refused q)) u)) refl

-- by the number that its path says
pub named_is : {X : Type 0} (find : ℕ → Option X) (say : Option X → AnswerIfAny) (t : AnswerIfAny) (number said : Option ℕ)
    → number ≡ said → Tells t (say (option_and_then find number)) → Tells t (say (option_and_then find said))
named_is find say t number said e h = subst (λ o. Tells t (say (option_and_then find o))) e h
