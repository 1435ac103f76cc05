-- The number that an option's text writes.
use Rattle.std.proofs.Common.{◌≡◌, ℕ, Bool, true, false, List, refl}
use Rattle.std.specs.Prelude.{Some, None}
use Rattle.std.specs.Str.Parse.{digits_value, without_leading_plus}
use Rattle.clap.specs.Values.{IsUnsignedIn}
use Rattle.clap.specs.ValueTests.{is_unsigned_in}
use Rattle.clap.specs.declared.builder.value_parser.ValueParser.TheVariants as vp
use Rattle.clap.proofs.ValueTestLemmas.{accepts-Accepts, Accepts-accepts}
use Rattle.gated_command.specs.CommandLine.{number_in}

-- a text in the range is read
pub in_range : (least most : ℕ) (text : List ℕ) → IsUnsignedIn least most text →
    number_in least most text ≡ Some (digits_value 10 (without_leading_plus text))
in_range least most text h = rw (Accepts-accepts false (vp.Unsigned least most) text h) refl

-- and no other is
pub out_of_range : (least most : ℕ) (text : List ℕ) → (IsUnsignedIn least most text → ⊥) →
    number_in least most text ≡ None
out_of_range least most text none = by_cases (is_unsigned_in least most text) refl
  where
    by_cases : (b : Bool) → is_unsigned_in least most text ≡ b → number_in least most text ≡ None
    by_cases true e = absurd (none (accepts-Accepts false (vp.Unsigned least most) text e))
    by_cases false e = rw e refl
