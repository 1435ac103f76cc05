-- The answer to a call, by what is kept for its id and what its step gives.
use Rattle.std.proofs.Common.{◌≡◌, ℕ, true, false, None, List, [], ◌∷◌, ◌++◌, refl, sym, ap, ◌∙◌, subst, true≢false}
use Rattle.gate_types.specs.declared.records.Id.{Id}
use Rattle.gate_types.specs.declared.deliveries.Delivery.{Delivery}
use Rattle.gate_types.specs.declared.deliveries.Reply.{Reply}
use Rattle.gate_types.specs.declared.deliveries.Answer.{Answer}
use Rattle.gate_types.specs.declared.deliveries.Answer.TheVariants as answer
use Rattle.gate_types.specs.declared.deliveries.Refusal.{Refusal}
use Rattle.gate_types.specs.declared.deliveries.Refusal.TheVariants as refusal
use Rattle.gate_types.specs.Settings.{Settings}
use Rattle.gate_types.specs.State.{State}
use Rattle.gate_types.specs.Canonical.{canonical_text}
use Rattle.gate_types.specs.Step.{step, accepted, refused}
use Rattle.gate_types.specs.Once.{Content, Call, kept_for, next_content, acts}
use Rattle.gate_types.specs.Forms.{IsLawfulContent}
use Rattle.gate_core.specs.Answered.{Answered, call}
use Rattle.gate_core.specs.Ruled.{kept_on, IsAccepted, IsSpared}

-- what an accepted delivery under a new id leaves
next_is_kept : (c : Settings) (x : Content) (id : Id) (d : Delivery) (said : List ℕ) (r : Reply) (u : State) →
    kept_for id x.kept ≡ None → step c x.state d ≡ accepted r u → said ≡ canonical_text d →
    kept_on x u id said r ≡ next_content c x (call id d false)
next_is_kept c x id d said r u none e same = ap (λ text. kept_on x u id text r) same ∙ rw (none, e) refl

-- it is lawful where the call's content is
pub kept_is_lawful : (c : Settings) (x : Content) (id : Id) (d : Delivery) (said : List ℕ) (r : Reply) (u : State) →
    kept_for id x.kept ≡ None → step c x.state d ≡ accepted r u → said ≡ canonical_text d →
    IsLawfulContent c (next_content c x (call id d false)) → IsLawfulContent c (kept_on x u id said r)
kept_is_lawful c x id d said r u none e same lawful =
    subst (IsLawfulContent c) (sym (next_is_kept c x id d said r u none e same)) lawful

-- it is answered so
pub accepted_is_answered : (c : Settings) (x : Content) (id : Id) (d : Delivery) (said : List ℕ) (r : Reply) (u : State)
    (a : Answer) (holds : Content → Type 0) (left leaves : List Content → Type 0) →
    kept_for id x.kept ≡ None → step c x.state d ≡ accepted r u → said ≡ canonical_text d →
    IsLawfulContent c (next_content c x (call id d false)) →
    IsAccepted (kept_on x u id said r) r a holds leaves → Answered c x (call id d false) a holds left leaves
accepted_is_answered c x id d said r u a holds left leaves none e same lawful h =
    let next = next_is_kept c x id d said r u none e same in
    record {
      answer = rw (none, e) h.said;
      content = subst holds next h.content;
      lawful = lawful;
      crash = record {
        acted = λ _. subst (λ y. leaves (y ∷ [])) next h.crash;
        stood = λ _ off.
            let on : acts c x (call id d false) ≡ true = rw (none, e) refl in
            absurd (true≢false (sym on ∙ off));
        failed = λ marked. absurd (true≢false (sym marked));
      };
    }

-- a refused delivery under a new id changes nothing
pub next_stays : (c : Settings) (x : Content) (id : Id) (d : Delivery) (r : Refusal) → kept_for id x.kept ≡ None →
    step c x.state d ≡ refused r → next_content c x (call id d false) ≡ x
next_stays c x id d r none e = rw (none, e) refl

-- it is answered so
pub refused_is_answered : (c : Settings) (x : Content) (id : Id) (d : Delivery) (r : Refusal) (holds : Content → Type 0)
    (leaves : List Content → Type 0) → kept_for id x.kept ≡ None → step c x.state d ≡ refused r →
    IsLawfulContent c x → holds x → Answered c x (call id d false) (answer.Refused r) holds leaves leaves
refused_is_answered c x id d r holds leaves none e lawful held =
    let next = sym (next_stays c x id d r none e) in
    record {
      answer = rw (none, e) refl;
      content = subst holds next held;
      lawful = subst (IsLawfulContent c) next lawful;
      crash = record {
        acted = λ on.
            let off : acts c x (call id d false) ≡ false = rw (none, e) refl in
            absurd (true≢false (sym on ∙ off));
        stood = λ _ off ys l. l;
        failed = λ marked. absurd (true≢false (sym marked));
      };
    }

-- a call that is answered `unavailable`, where the book may have gone on to what is accepted
pub failed_is_answered : (c : Settings) (x : Content) (id : Id) (d : Delivery) (said : List ℕ) (r : Reply) (u : State)
    (holds : Content → Type 0) (left leaves : List Content → Type 0) →
    kept_for id x.kept ≡ None → step c x.state d ≡ accepted r u → said ≡ canonical_text d → IsLawfulContent c x →
    IsSpared x (kept_on x u id said r) holds left leaves →
    Answered c x (call id d true) (answer.Refused refusal.Unavailable) holds left leaves
failed_is_answered c x id d said r u holds left leaves none e same lawful h =
    let next = next_is_kept c x id d said r u none e same in
    record {
      answer = refl;
      content = h.content;
      lawful = lawful;
      crash = record {
        acted = λ on. absurd (true≢false (sym on));
        stood = λ unmarked. absurd (true≢false unmarked);
        failed = λ _ ys l. subst (λ y. leaves (ys ++ y ∷ [])) next (h.crash ys l);
      };
    }

-- what a crash could leave before is what it could leave still earlier
pub answered_from : (c : Settings) (x : Content) (k : Call) (a : Answer) (holds : Content → Type 0)
    (old mid leaves : List Content → Type 0) → ((ys : List Content) → old ys → mid ys) →
    Answered c x k a holds mid leaves → Answered c x k a holds old leaves
answered_from c x k a holds old mid leaves on h = record {
  answer = h.answer;
  content = h.content;
  lawful = h.lawful;
  crash = record {
    acted = h.crash.acted;
    stood = λ unmarked off ys l. h.crash.stood unmarked off ys (on ys l);
    failed = λ marked ys l. h.crash.failed marked ys (on ys l);
  };
}
