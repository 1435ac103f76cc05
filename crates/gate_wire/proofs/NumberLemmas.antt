-- The number that a few digits write.
use Rattle.std.proofs.Common.{◌≡◌, ℕ, ◌<◌, ◌≤◌, ◌-◌, ◌*◌, ◌+◌, ◌↔◌, true, List, length, take, get_or, Option, Some}
use Rattle.std.proofs.Common.{None, IsSome, IfSome, arith, rules, lit≤, ap}
use Rattle.std.specs.Prelude.{nat_lt, slice_index}
use Rattle.std.specs.List.{list_all}
use Rattle.std.specs.Char.{is_ascii_digit}
use Rattle.std.specs.Str.Parse.{digits_value}
use Rattle.std.proofs.lemmas.Int.Digits.{digits_value_more}
use Rattle.std.proofs.lemmas.List.Elements.{All-get_or}
use Rattle.std.proofs.lemmas.List.Sums.{AllPass-from_list_all}
use Rattle.std.proofs.lemmas.Str.Parse.{digits_value-take-le}
use Rattle.gate_types.specs.Needs.{number_of}
use Rattle.gate_types.proofs.DigitLemmas.{digit_is, value_small, value_positive}

pub digit_at : (ds : List ℕ) (i d : ℕ) → list_all is_ascii_digit ds ≡ true → i < length ds → is_ascii_digit (get_or ds i d) ≡ true
digit_at ds i d h lt = All-get_or (λ b. is_ascii_digit b ≡ true) ds i d lt (AllPass-from_list_all is_ascii_digit ds h)

-- one digit more
pub value_step : (ds : List ℕ) (i : ℕ) → list_all is_ascii_digit ds ≡ true → length ds ≤ 9 → i < length ds
    → (digits_value 10 (take i ds) < 1000000000) × (digits_value 10 (take i ds) * 10 + (get_or ds i 0 - 48) ≡ digits_value 10 (take (i + 1) ds))
value_step ds i h few lt =
    let d = digit_is (get_or ds i 0) (digit_at ds i 0 h lt) in (
      omega (arith, value_small ds h few, digits_value-take-le 10 ds i (lit≤ tt)),
      omega (arith, d.2, digits_value_more 10 ds i lt),
    )

found_by : (o : Option ℕ) (n : ℕ) → IsSome o → IfSome o (λ m. m ≡ n) → o ≡ Some n
found_by (Some m) n s e = ap Some e
found_by None n s e = absurd (cc)

-- the number of digits in that form
pub number_found : (ds : List ℕ) (o : Option ℕ) → list_all is_ascii_digit ds ≡ true → length ds ≤ 9 → nat_lt 48 (slice_index ds 0) ≡ true
    → (IsSome o ↔ ((1 ≤ digits_value 10 ds) × (digits_value 10 ds ≤ 999999999))) → IfSome o (λ n. n ≡ digits_value 10 ds) → o ≡ number_of ds
number_found ds o h few above range value =
    let small : digits_value 10 ds ≤ 999999999 = omega (arith, value_small ds h few) in
    let some = found_by o (digits_value 10 ds) (range.1 (value_positive ds h above, small)) value in
    rw some (search rules)
