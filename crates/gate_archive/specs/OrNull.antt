-- JSON where a value may be missing.
use Rattle.std.specs.Prelude.{◌++◌, Option, codes}
use Rattle.std.specs.Option.{option_map_or}
use Rattle.gate_types.specs.JsonText.{Piece}

-- no value
abbrev pub null : Piece
null rest = codes "null" ++ rest

-- the piece of a value, or null
abbrev pub or_null : {X : Type 0} → (X → Piece) → Option X → Piece
or_null piece value = option_map_or piece value null
