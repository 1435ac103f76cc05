-- Decimal numbers in a request.
use Rattle.std.specs.Prelude.{ℕ, ◌+◌, Bool, ◌&&◌, not, List, length, nat_eq, nat_lt, nat_le, if◌then◌else◌, Option}
use Rattle.std.specs.Prelude.{Some, None, min, codes}
use Rattle.std.specs.List.{list_all, starts_with}
use Rattle.std.specs.Char.{is_ascii_digit}
use Rattle.std.specs.Str.Parse.{digits_value}
use Rattle.gate_types.specs.Reading.{passing}

-- decimal digits and nothing else
abbrev pub are_digits : List ℕ → Bool
are_digits text = nat_lt 0 (length text) && list_all is_ascii_digit text

-- the number that digits write, or one above the most where it is higher
abbrev pub number_within : ℕ → List ℕ → Option ℕ
number_within most text = if are_digits text then Some (min (digits_value 10 text) (most + 1)) else None

-- the number from 1 up to the most that digits write without a leading zero
abbrev pub number_up_to : ℕ → List ℕ → Option ℕ
number_up_to most text =
    if are_digits text && not (starts_with nat_eq text (codes "0"))
    then passing (λ n. nat_le 1 n && nat_le n most) (digits_value 10 text) else None
