-- What a book over a file keeps while it only reads.
use Rattle.std.proofs.Common.{◌≡◌, ◌∙◌, inl, inr, List, sym, ap, subst}
use Rattle.std.specs.Prelude.{ℕ}
use Rattle.sqlite.specs.State.{HasCleanDisk, State, Survives}
use Rattle.gate_types.specs.Once.{Content}
use Rattle.gate_types.specs.Settings.{Settings}
use Rattle.gate_book_trait.specs.Kept.{IsKept}
use Rattle.gate_rows.specs.Matches.{StandsFor}
use Rattle.gate_found_rows.specs.Finds.{Stays}
use Rattle.gate_found_rows.specs.Reads.{IsOnlyRead}
use Rattle.gate_table_laws.specs.Held.{HoldsFor, LeavesFor, ShowsFor}

-- what stays shows it still
shows_still : {old new : State} {c : Settings} {x : Content} → Stays old new → ShowsFor old c x → ShowsFor new c x
shows_still {c = c} {x = x} stays shows up =
    let was = shows (stays.was_open up) in
    record {
      schema_is = ap (λ d. d.schema) (stays.now_is up) ∙ was.schema_is;
      stands = subst (λ d. StandsFor d.trees c x) (sym (stays.now_is up)) was.stands;
    }

-- a crash leaves no more than before
leaves_still : (old new : State) (c : Settings) (xs : List Content) → Survives old new (λ _. ⊥) → HasCleanDisk new →
    LeavesFor old c xs → LeavesFor new c xs
leaves_still old new c xs survives clean was db may = elim (survives.crash clean db may) [ inl before ↦ was db before | inr none ↦ absurd none ]

-- a book whose connection has only been read is kept
pub kept_by : {B : Type 0} (state_of : B → State) (names_of : B → List (List ℕ)) (old new : B) → names_of new ≡ names_of old →
    IsOnlyRead (state_of old) (state_of new) → IsKept (λ b. HasCleanDisk (state_of b))
    (λ b c x. HoldsFor (state_of b) (names_of b) c x) (λ b c xs. LeavesFor (state_of b) c xs) old new
kept_by state_of names_of old new same reads = record {
  trusted_before = reads.clean;
  holds_on = λ clean c x held. record {
    sound = held.sound;
    names_are = same ∙ held.names_are;
    shows = shows_still (reads.stays clean) held.shows;
  };
  leaves_on = λ clean c x held ys was. leaves_still (state_of old) (state_of new) c ys (reads.crash clean) clean was;
}
