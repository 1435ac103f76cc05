-- Decimal digits, and the numbers that they write.
use Rattle.std.proofs.Common.{◌≡◌, ℕ, ◌≤◌, ◌-◌, true, arith, List, [], ◌∷◌, ◌<◌, length, lit<, ◌*◌, ◌+◌, lit≤}
use Rattle.std.specs.Char.{is_ascii_digit, digit_value}
use Rattle.std.specs.List.{list_all}
use Rattle.std.specs.Str.Parse.{AllDigits, digits_value}
use Rattle.std.specs.Prelude.{nat_lt, slice_index}
use Rattle.std.proofs.lemmas.Bool.Decides.{nat_tests}
use Rattle.std.proofs.lemmas.Bool.{and_parts}
use Rattle.std.proofs.Math.Nat.{pow-le-pow_right}
use Rattle.std.proofs.lemmas.Int.Digits.{digits_value-lt}
use Rattle.std.proofs.lemmas.Str.Parse.{digits_value-take-le}

pub digit_is : (c : ℕ) → is_ascii_digit c ≡ true → (48 ≤ c) × (c ≤ 57) × (digit_value c ≡ c - 48)
digit_is c h = grind (arith, nat_tests)

pub all_digits : (ds : List ℕ) → list_all is_ascii_digit ds ≡ true → AllDigits 10 ds
all_digits [] h = tt
all_digits (c ∷ cs) h =
    let p = and_parts (is_ascii_digit c) (list_all is_ascii_digit cs) h in
    let d = digit_is c p.0 in
    (omega (arith, d.0, d.1, d.2), all_digits cs p.1)

-- nine digits write a number below 10^9
pub value_small : (ds : List ℕ) → list_all is_ascii_digit ds ≡ true → length ds ≤ 9 → digits_value 10 ds < 1000000000
value_small ds h few = omega (arith, digits_value-lt 10 ds (all_digits ds h), pow-le-pow_right {n = 10} (lit< tt) few)

-- above 0 where the first digit is
pub value_positive : (ds : List ℕ) → list_all is_ascii_digit ds ≡ true → nat_lt 48 (slice_index ds 0) ≡ true →
    1 ≤ digits_value 10 ds
value_positive [] h above = absurd (cc)
value_positive (c ∷ cs) h above =
    let p = and_parts (is_ascii_digit c) (list_all is_ascii_digit cs) h in
    let d = digit_is c p.0 in
    let least : 0 * 10 + digit_value c ≤ digits_value 10 (c ∷ cs) = digits_value-take-le 10 (c ∷ cs) 1 (lit≤ tt) in
    let more : 48 < c = grind (arith, nat_tests) in
    omega (arith, d.2, least, more)
