-- What a gate holds that keeps nothing of what it said, and after a call that only reads.
use Rattle.std.proofs.Common.{◌≡◌, ◌∙◌, refl, sym, subst, List, true≢false}
use Rattle.std.specs.Prelude.{IfSome}
use Rattle.gate_types.specs.OrderList.{order_list_text}
use Rattle.gate_types.specs.Status.{status_text}
use Rattle.gate_types.specs.Settings.{Settings}
use Rattle.gate_types.specs.Once.{Content, empty}
use Rattle.gate_types.specs.Forms.{IsLawfulContent}
use Rattle.gate_types.specs.Gated.{Gated, new_gate}
use Rattle.gate_core.specs.declared.gate.Gate.{Gate}
use Rattle.gate_core.specs.declared.recent.Recent.{Recent}
use Rattle.gate_core.specs.Held.{Goes, IsOver}
use Rattle.gate_core.specs.Holding.{IsKeptGate, IsNew, book_of, recent_of, settings_of}
use Rattle.gate_core.specs.Recent.{IsTrueOf, KeepsNothing}

-- where nothing is kept, nothing that is kept is wrong
pub nothing_is_true : (r : Recent) (c : Settings) (x : Content) → KeepsNothing r → IsTrueOf r c x
nothing_is_true r c x nothing = record {
  status = subst (λ kept. IfSome kept (λ text. text ≡ status_text c x.state)) (sym nothing.status) tt;
  orders = subst (λ kept. IfSome kept (λ text. text ≡ order_list_text c x.state)) (sym nothing.orders) tt;
  idle = λ idle. absurd (true≢false (sym idle ∙ nothing.idle));
}

module _ {B : Type 0} (trusted : B → Type 0) (holds : B → Settings → Content → Type 0)
    (leaves : B → Settings → List Content → Type 0) where
  -- the gate that it was it still is
  pub over_kept : (old new : Gate B) → new.config ≡ old.config → IsKeptGate trusted holds leaves old new →
      trusted new.book → (g : Gated) → IsOver holds old g → IsOver holds new g
  over_kept old new settings kept t g over = record {
    settings = over.settings ∙ sym settings;
    held = kept.holds_on t g.content over.held;
    lawful = subst (λ c. IsLawfulContent c g.content) (sym settings) over.lawful;
  }

  -- a gate that was just made is the plain gate before its first delivery
  pub goes_anew : (old new : Gate B) (P : Gated → Gated → Type 0) → Goes trusted holds old new P →
      IsLawfulContent (settings_of old) (empty (settings_of old)) → IsNew holds old → trusted (book_of new) →
      (after : Gated) × P (new_gate (settings_of old)) after × holds (book_of new) (settings_of old) after.content
  goes_anew old new P goes lawful fresh t =
      let c = settings_of old in
      let over : IsOver holds old (new_gate c) = record {
        settings = refl;
        held = record { book = fresh.book; recent = λ _. nothing_is_true (recent_of old) c (empty c) fresh.recent };
        lawful = lawful;
      } in
      let went = goes.passes t (new_gate c) over in
      (went.0, went.2, subst (λ k. holds (book_of new) k went.0.content) goes.settings went.1.held.book)
