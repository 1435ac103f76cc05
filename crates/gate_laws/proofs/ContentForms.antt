-- A content in form stays in form, call by call.
use Rattle.std.proofs.Common.{◌≡◌, ℕ, zero, suc, ◌<◌, ◌≤◌, true, false, not, ◌&&◌, Option, Some, None, List, [], ◌∷◌}
use Rattle.std.proofs.Common.{get_or, length, refl, sym, ap, ◌∙◌, inl, inr, arith, true≢false}
use Rattle.std.specs.Prelude.{AllPairs, ◌≢◌, is_some, max, nat_eq, nat_le}
use Rattle.std.specs.Str.{is_utf8}
use Rattle.std.proofs.lemmas.Bool.{and_parts, and_from, cond_both, not-true, le-leb, le-ltb, leb-true}
use Rattle.std.proofs.Math.Nat.{max-le}
use Rattle.std.proofs.lemmas.List.Elements.{All-nil, All-push}
use Rattle.std.proofs.lemmas.List.Quantifiers.{all_pairs_push}
use lib.Pointwise.{pointwise, bytes_decides}
use Rattle.gate_types.specs.declared.records.Id.{Id}
use Rattle.gate_types.specs.declared.records.Kept.{Kept}
use Rattle.gate_types.specs.declared.deliveries.Delivery.{Delivery}
use Rattle.gate_types.specs.declared.deliveries.Reply.{Reply}
use Rattle.gate_types.specs.Settings.{Settings, are_sound}
use Rattle.gate_types.specs.Counters.{Drawn, last_number}
use Rattle.gate_types.specs.State.{State, start}
use Rattle.gate_types.specs.Step.{Stepped, accepted, refused, step, is_exhausted}
use Rattle.gate_types.specs.Canonical.{canonical_text}
use Rattle.gate_types.specs.ReplyText.{reply_text}
use Rattle.gate_types.specs.Once.{Call, Content, empty, kept_for, may_act, content_after, next_content, once}
use Rattle.gate_types.specs.Lawful.{IsLawful}
use Rattle.gate_types.specs.Forms.{are_settings_in_form, are_counters_in_form, is_delivery_in_form, is_id_in_form}
use Rattle.gate_types.specs.Forms.{is_call_in_form, is_text_in_form, is_kept_in_form, is_reply_in_form, IsInForm}
use Rattle.gate_types.specs.Forms.{IsContentInForm}
use Rattle.gate_types.specs.Rising.{In}
use Rattle.gate_laws.specs.InForm.{EmptyIsInForm, NextContentIsInForm, NextContentIsLawful, RunIsInForm}
use Rattle.gate_laws.specs.Runs.{StartWithIsLawful}
use Rattle.gate_laws.proofs.Members.{every, not_found}
use Rattle.gate_laws.proofs.StartIsLawful.{start_at, start_at_lawful, start_lawful}
use Rattle.gate_laws.proofs.RunIsLawful.{next_lawful}
use Rattle.gate_laws.proofs.StepIsInForm.{start_at_in_form, start_is_in_form, step_is_in_form}
use Rattle.gate_laws.proofs.ReplyForms.{reply_is_in_form}
use Rattle.gate_laws.proofs.TextForms.{canonical_is_utf8, reply_is_utf8}
use Rattle.gate_laws.proofs.TextLengths.{said_short, reply_short}

-- ---- ids

pub is_none : {X : Type 0} (o : Option X) → is_some o ≡ false → o ≡ None
is_none None e = refl
is_none (Some x) e = absurd (true≢false e)

-- a call that acts has an id that isn't kept
new_id : (x : Content) (k : Call) → may_act x k ≡ true → (z : Kept) → In z x.kept → z.id ≢ k.id
new_id x k e z m same =
    let both = and_parts (not k.unavailable) (not (is_some (kept_for k.id x.kept))) e in
    let none = not_found (λ (y : Kept). pointwise nat_eq y.id.0 k.id.0) x.kept
    (is_none (kept_for k.id x.kept) (not-true (is_some (kept_for k.id x.kept)) both.1)) z m in
    true≢false (sym ((bytes_decides z.id.0 k.id.0).1 (ap (λ (i : Id). i.0) same)) ∙ none)

in_get : (xs : List Kept) (k : ℕ) (d : Kept) → k < length xs → In (get_or xs k d) xs
in_get [] k d h = absurd (omega (arith, h))
in_get (x ∷ xs) zero d h = inl refl
in_get (x ∷ xs) (suc k) d h = inr (in_get xs k d (omega (arith, h)))

none_kept : AllPairs (λ (k l : Kept). k.id ≢ l.id) []
none_kept i j d a b = absurd (omega (arith, a, b))

-- ---- texts

text_in_form : (text : List ℕ) → is_utf8 text ≡ true → length text ≤ 100000 → is_text_in_form text ≡ true
text_in_form text u l = and_from (is_utf8 text) (nat_le (length text) 100000) u (le-leb (length text) 100000 l)

said_in_form : (d : Delivery) → is_delivery_in_form d ≡ true → is_text_in_form (canonical_text d) ≡ true
said_in_form d h = text_in_form (canonical_text d) (canonical_is_utf8 d h) (said_short d h)

replied_in_form : (c : Settings) (r : Reply) → is_reply_in_form c r ≡ true → is_text_in_form (reply_text r) ≡ true
replied_in_form c r h = let few = reply_short c r h in
    text_in_form (reply_text r) (reply_is_utf8 c r h) (omega (arith, few))

-- ---- the laws

-- nothing is kept yet
none_kept_in_form : (c : Settings) (s : State) → IsInForm c s → IsContentInForm c (record { state = s; kept = [] })
none_kept_in_form c s h = record {
  state = h;
  kept = All-nil (λ k. is_kept_in_form k ≡ true);
  ids_differ = none_kept;
}

pub empty_is_in_form : EmptyIsInForm
empty_is_in_form c w f = none_kept_in_form c (start c) (start_is_in_form c w f)

-- counters in form aren't past the last number
not_past : (c : Settings) (d : Drawn) → are_counters_in_form d ≡ true → is_exhausted (start_at c d) ≡ false
not_past c d v =
    let both = and_parts _ _ v in
    let first = and_parts _ _ both.0 in
    le-ltb last_number (max d.approval (max d.build d.order))
    (max-le (leb-true d.approval last_number first.0)
    (max-le (leb-true d.build last_number first.1) (leb-true d.order last_number both.1)))

pub start_with_is_lawful : StartWithIsLawful
start_with_is_lawful c d w f v =
    let e = not_past c d v in
    record {
      lawful = start_at_lawful c d e;
      in_form = none_kept_in_form c (start_at c d) (start_at_in_form c d w f e);
    }

after_call : (c : Settings) (x : Content) (k : Call) → are_sound c ≡ true → are_settings_in_form c ≡ true →
    IsLawful c x.state → IsContentInForm c x → is_call_in_form k ≡ true → may_act x k ≡ true →
    (y : Stepped) → step c x.state k.delivery ≡ y → IsContentInForm c (content_after x k y)
after_call c x k w f l h v new (accepted r t) e =
    let both = and_parts (is_id_in_form k.id) (is_delivery_in_form k.delivery) v in
    let row : Kept = record { id = k.id; said = canonical_text k.delivery; reply = reply_text r } in
    record {
      state = step_is_in_form c x.state k.delivery r t w f l h.state both.1 e;
      kept = All-push (λ z. is_kept_in_form z ≡ true) x.kept row h.kept
          (and_from (is_id_in_form k.id && is_text_in_form (canonical_text k.delivery)) (is_text_in_form (reply_text r))
          (and_from (is_id_in_form k.id) (is_text_in_form (canonical_text k.delivery)) both.0
          (said_in_form k.delivery both.1))
          (replied_in_form c r (reply_is_in_form c x.state k.delivery r t w f l h.state both.1 e)));
      ids_differ = all_pairs_push (λ (z u : Kept). z.id ≢ u.id) x.kept row h.ids_differ
          (λ i d b. new_id x k new (get_or x.kept i d) (in_get x.kept i d b));
    }
after_call c x k w f l h v new (refused r) e = h

pub next_content_is_in_form : NextContentIsInForm
next_content_is_in_form c x k w f l h v =
    cond_both (may_act x k) (content_after x k (step c x.state k.delivery)) x (IsContentInForm c)
    (λ e. after_call c x k w f l h v e (step c x.state k.delivery) refl) (λ e. h)

pub next_content_is_lawful : NextContentIsLawful
next_content_is_lawful c x k w f v l = record {
  lawful = next_lawful c w x k l.lawful;
  in_form = next_content_is_in_form c x k w f l.lawful l.in_form v;
}

-- ---- any calls

from_in_form : (c : Settings) → are_sound c ≡ true → are_settings_in_form c ≡ true → (calls : List Call) (x : Content) →
    IsLawful c x.state → IsContentInForm c x → ((k : Call) → In k calls → is_call_in_form k ≡ true) →
    IsContentInForm c (once c x calls)
from_in_form c w f [] x l h v = h
from_in_form c w f (k ∷ ks) x l h v =
    from_in_form c w f ks (next_content c x k) (next_lawful c w x k l)
    (next_content_is_in_form c x k w f l h (v k (inl refl))) (λ z m. v z (inr m))

pub run_is_in_form : RunIsInForm
run_is_in_form c calls w f v = from_in_form c w f calls (empty c) (start_lawful c) (empty_is_in_form c w f)
    (every (λ k. is_call_in_form k ≡ true) calls v)
