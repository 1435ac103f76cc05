-- Digits, one by one.
use Rattle.std.proofs.Common.{◌≡◌, ℕ, ◌+◌, ◌*◌, ◌-◌, ◌<◌, ◌≤◌, List, length, take, get_or, min, arith, refl}
use Rattle.std.proofs.lemmas.Bool.{le-ltb, lt-ltb}
use Rattle.std.specs.Char.{digit_value}
use Rattle.std.specs.Str.Parse.{digits_value}
use Rattle.std.proofs.lemmas.Int.Digits.{digits_value_more}

-- what a digit stands for
pub digit_is : (b : ℕ) → 48 ≤ b → b < 58 → digit_value b ≡ b - 48
digit_is b low high = rw (le-ltb b 48 low, lt-ltb b 58 high) refl

-- one more digit of a number that is cut at one past the most
pub number_more : (value : List ℕ) (most i n : ℕ) → i < length value → 48 ≤ get_or value i 0 → get_or value i 0 < 58
    → n ≡ min (digits_value 10 (take i value)) (most + 1)
    → min (n * 10 + (get_or value i 0 - 48)) (most + 1) ≡ min (digits_value 10 (take (i + 1) value)) (most + 1)
number_more value most i n h low high e =
    let more = digits_value_more 10 value i h in
    let this = digit_is (get_or value i 0) low high in
    omega (arith, more, this, e)
