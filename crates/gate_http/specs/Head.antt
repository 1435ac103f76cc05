-- The head of a request: the shortest front of the input that ends in an empty line.
use Rattle.std.specs.Prelude.{ℕ, Bool, ◌||◌, List, [], ◌∷◌, ◌++◌, length, take, drop, Option, Some, None, nat_eq}
use Rattle.std.specs.Prelude.{nat_lt, if◌then◌else◌}
use Rattle.std.specs.List.{ends_with}

-- the bytes end in LF LF or LF CR LF
abbrev pub ends_head : List ℕ → Bool
ends_head bytes = ends_with nat_eq bytes (10 ∷ 10 ∷ []) || ends_with nat_eq bytes (10 ∷ 13 ∷ 10 ∷ [])

-- the shortest front of begun and then these bytes that ends so, where it is longer than begun
unfoldable pub head_from : List ℕ → List ℕ → Option (List ℕ)
head_from begun [] = None
head_from begun (b ∷ bs) =
    if ends_head (begun ++ b ∷ []) then Some (begun ++ b ∷ []) else head_from (begun ++ b ∷ []) bs

-- the bytes in which a head has to end
abbrev pub head_limit : ℕ
head_limit = 8192

-- how an input begins: it is empty, ends within the head, has none in its first bytes, or has this head and then
-- these bytes
pub data Front : Type 0 where
  empty cut too_large : Front
  whole : List ℕ → List ℕ → Front

abbrev pub front_without : List ℕ → Front
front_without [] = empty
front_without (b ∷ bs) = if nat_lt (length (b ∷ bs)) head_limit then cut else too_large

abbrev pub front_with : List ℕ → Option (List ℕ) → Front
front_with input None = front_without input
front_with input (Some head) = whole head (drop (length head) input)

unfoldable pub front_of : List ℕ → Front
front_of input = front_with input (head_from [] (take head_limit input))
