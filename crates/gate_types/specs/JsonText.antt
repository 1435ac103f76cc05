-- Compact JSON: each piece of a text is given what stands behind it.
use Rattle.std.specs.Prelude.{ℕ, Bool, if◌then◌else◌, List, [], ◌∷◌, ◌++◌, codes, decimal}
use Rattle.std.specs.List.{join_by}
use Rattle.json.specs.Print.{quoted}
use Rattle.gate_types.specs.declared.records.Entry.{Entry}

-- a piece of a text
abbrev pub Piece : Type 0
Piece = List ℕ → List ℕ

-- a number
abbrev pub number : ℕ → Piece
number n rest = decimal n ++ rest

-- a text that needs no escape
abbrev pub plain : List ℕ → Piece
plain text rest = 34 ∷ (text ++ 34 ∷ rest)

-- any text
abbrev pub escaped : List ℕ → Piece
escaped text rest = quoted text ++ rest

-- a truth value
abbrev pub boolean : Bool → Piece
boolean b rest = (if b then codes "true" else codes "false") ++ rest

-- pieces with commas between
abbrev pub joined : List Piece → Piece
joined [] rest = rest
joined (x ∷ []) rest = x rest
joined (x ∷ y ∷ xs) rest = x (44 ∷ joined (y ∷ xs) rest)

-- pieces with a comma behind each
abbrev pub leading : List Piece → Piece
leading [] rest = rest
leading (x ∷ xs) rest = x (44 ∷ leading xs rest)

-- an array
abbrev pub array : List Piece → Piece
array items rest = 91 ∷ joined items (93 ∷ rest)

-- the texts of values with commas between, in brackets
abbrev pub listed : {X : Type 0} → (X → List ℕ) → List X → Piece
listed text xs rest = 91 ∷ (join_by text (codes ",") xs ++ 93 ∷ rest)

-- a member of an object
abbrev pub member : List ℕ → Piece → Piece
member name value rest = 34 ∷ (name ++ 34 ∷ 58 ∷ value rest)

-- an object
abbrev pub object : List Piece → Piece
object members rest = 123 ∷ joined members (125 ∷ rest)

-- a change at a revision
abbrev pub entry : Entry → Piece
entry e = array (number e.change ∷ number e.revision ∷ [])
