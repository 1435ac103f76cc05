-- The ending that a word names.
use Rattle.std.proofs.Common.{◌≡◌, ℕ, Bool, true, false, cond, List, Option, Some, None, refl, sym, ap, ◌∙◌, true≢false}
use Rattle.std.specs.Prelude.{IfSome}
use Rattle.std.specs.Str.{bytes_eq}
use Rattle.std.proofs.lemmas.Slice.Eq.{bytes_eq-Decides}
use Rattle.gate_types.specs.declared.deliveries.Ending.{Ending}
use Rattle.gate_types.specs.declared.deliveries.Ending.TheVariants as ending
use Rattle.gate_types.specs.Canonical.{ending_word}
use Rattle.gate_wire.specs.Reading.{ending_named}

abbrev chosen : Bool → Bool → Bool → Option Ending
chosen a b c = cond a (Some ending.Success) (cond b (Some ending.Failure) (cond c (Some ending.Lost) None))

none_chosen : (a b c : Bool) → a ≡ false → b ≡ false → c ≡ false → chosen a b c ≡ None
none_chosen false false false _ _ _ = refl
none_chosen true b c first _ _ = absurd (true≢false first)
none_chosen false true c _ second _ = absurd (true≢false second)
none_chosen false false true _ _ third = absurd (true≢false third)

found_in_turn : (e : Ending) → Some e ≡ ending_named (ending_word e)
found_in_turn ending.Success = refl
found_in_turn ending.Failure = refl
found_in_turn ending.Lost = refl

-- whatever finds each ending by its word, and no other, finds as asking for one word after the other does
pub named_in_turn : (word : List ℕ) (o : Option Ending) →
    ((e : Ending) → word ≡ ending_word e → o ≡ Some e) →
    IfSome o (λ e. word ≡ ending_word e) → o ≡ ending_named word
named_in_turn word (Some e) told form = found_in_turn e ∙ ap ending_named (sym form)
named_in_turn word None told form =
    sym (none_chosen _ _ _ (other ending.Success) (other ending.Failure) (other ending.Lost))
  where
    differs : (e : Ending) → None ≡ Some e → ⊥
    differs e same = cc

    by_test : (e : Ending) (t : Bool) → bytes_eq word (ending_word e) ≡ t → t ≡ false
    by_test e false test = refl
    by_test e true test = absurd (differs e (told e ((bytes_eq-Decides word (ending_word e)).0 test)))

    other : (e : Ending) → bytes_eq word (ending_word e) ≡ false
    other e = by_test e (bytes_eq word (ending_word e)) refl
