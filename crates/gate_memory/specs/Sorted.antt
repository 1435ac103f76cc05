-- Rows in the order of their keys.
use Rattle.std.specs.Prelude.{ℕ, Bool, not, ◌==◌, nat_lt, if◌then◌else◌, suc, ◌≡◌, ◌<◌, List, [], ◌∷◌, length, filter}
use Rattle.std.specs.Prelude.{find, fold, slice_get, Option, Some, None, option_map, option_and_then}

-- how many keys at the front are below n
abbrev pub position_in : {X : Type 0} → (X → ℕ) → ℕ → List X → ℕ
position_in key n [] = 0
position_in key n (x ∷ xs) = if nat_lt (key x) n then suc (position_in key n xs) else 0

-- the row at a position has this key, and is what is found of it
pub record IsAtPosition {X : Type 0} (key : X → ℕ) (n : ℕ) (xs : List X) (position : ℕ) : Type 0 where
  pub within : position < length xs
  pub has_key : option_map key (slice_get xs position) ≡ Some n
  pub found : find (λ x. key x == n) xs ≡ slice_get xs position

-- the last row below a key
abbrev pub last_below : {X : Type 0} → (X → ℕ) → ℕ → List X → Option X
last_below key n xs = fold (λ last x. Some x) None (filter (λ x. nat_lt (key x) n) xs)

-- the rows without those of a key
abbrev pub without : {X : Type 0} → (X → ℕ) → ℕ → List X → List X
without key n xs = filter (λ x. not (key x == n)) xs

-- a row if it passes
abbrev pub kept_if : {X : Type 0} → (X → Bool) → X → Option X
kept_if test x = if test x then Some x else None

-- the row of a key, if it passes
abbrev pub passing_at : {X : Type 0} → (X → ℕ) → (X → Bool) → List X → ℕ → Option X
passing_at key test xs n = option_and_then (kept_if test) (find (λ x. key x == n) xs)

-- the first of some rows
abbrev pub first_of : {X : Type 0} → List X → Option X
first_of [] = None
first_of (x ∷ xs) = Some x
