-- The forms of names and texts, and their limits.
use Rattle.std.specs.Prelude.{ℕ, Bool, ◌&&◌, ◌||◌, ◌==◌, nat_eq, nat_le, List, length, slice_index}
use Rattle.std.specs.List.{list_all}
use lib.Pointwise.{pointwise}

-- two names are the same bytes
abbrev pub same_name : List ℕ → List ℕ → Bool
same_name = pointwise nat_eq

-- an ASCII letter or digit
abbrev pub is_letter_or_digit : ℕ → Bool
is_letter_or_digit b = (nat_le 48 b && nat_le b 57) || (nat_le 65 b && nat_le b 90) || (nat_le 97 b && nat_le b 122)

-- a letter, a digit, `.`, `_` or `-`
abbrev pub is_name_byte : ℕ → Bool
is_name_byte b = is_letter_or_digit b || b == 46 || b == 95 || b == 45

-- one of these, or `/`
abbrev pub is_path_byte : ℕ → Bool
is_path_byte b = is_name_byte b || b == 47

-- 1 to 64 such bytes, the first of them a letter or digit
abbrev pub is_short_text : (ℕ → Bool) → List ℕ → Bool
is_short_text is_byte text =
    nat_le 1 (length text) && nat_le (length text) 64 && is_letter_or_digit (slice_index text 0) &&
    list_all is_byte text

-- the name of a queue or a job
abbrev pub is_name : List ℕ → Bool
is_name text = is_short_text is_name_byte text

-- the name of a project or a worker
abbrev pub is_path_name : List ℕ → Bool
is_path_name text = is_short_text is_path_byte text

-- a printed ASCII character that is no space
abbrev pub is_base_byte : ℕ → Bool
is_base_byte b = nat_le 33 b && nat_le b 126

-- what stands before a change's number in a need's address
abbrev pub is_base : List ℕ → Bool
is_base text = nat_le 1 (length text) && nat_le (length text) 200 && list_all is_base_byte text

-- a commit message
abbrev pub is_message : List ℕ → Bool
is_message text = nat_le (length text) 16384
