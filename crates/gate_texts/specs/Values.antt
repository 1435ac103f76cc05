-- Values in JSON, by what a book tells.
use Rattle.std.specs.Prelude.{ℕ, List, [], ◌∷◌, ◌++◌, Option, codes, decimal}
use Rattle.std.specs.Option.{option_map_or}
use Rattle.gate_types.specs.JsonText.{Piece}

-- a value that is written already
abbrev pub written : List ℕ → Piece
written text rest = text ++ rest

-- the elements of an array that are written already
abbrev pub bracketed : List ℕ → Piece
bracketed list rest = 91 ∷ (list ++ 93 ∷ rest)

-- a number, or null
abbrev pub number_text : Option ℕ → List ℕ
number_text n = option_map_or decimal n (codes "null")

-- a name in quotes
abbrev pub in_quotes : List ℕ → List ℕ
in_quotes name = 34 ∷ (name ++ 34 ∷ [])

-- a name in quotes, or null
abbrev pub name_text : Option (List ℕ) → List ℕ
name_text name = option_map_or in_quotes name (codes "null")
