-- What the fields of a head say of the body's length. A field is a name and a value without the white space around it.
use Rattle.std.specs.Prelude.{ℕ, Bool, List, [], ◌∷◌, filter, nat_lt, if◌then◌else◌, codes}
use Rattle.std.specs.Str.{str_eq_ignore_ascii_case}
use Rattle.std.specs.Str.Parse.{digits_value}
use Rattle.gate_types.specs.Limits.{most_bytes}
use Rattle.gate_http.specs.declared.fields.BodyLength.{BodyLength}
use Rattle.gate_http.specs.declared.fields.BodyLength.TheVariants as body
use Rattle.gate_http.specs.Digits.{are_digits}

abbrev pub Pair : Type 0
Pair = List ℕ × List ℕ

-- the field has this name, in whatever letters
abbrev pub is_named : List ℕ → Pair → Bool
is_named name field = str_eq_ignore_ascii_case field.0 name

-- the fields of this name
abbrev pub named : List ℕ → List Pair → List Pair
named name fields = filter (is_named name) fields

-- a length, by the longest
abbrev pub length_within : ℕ → BodyLength
length_within n = if nat_lt most_bytes n then body.Long else body.Bytes n

-- the length that a value says
abbrev pub length_said : List ℕ → BodyLength
length_said value = if are_digits value then length_within (digits_value 10 value) else body.Bad

-- the length that the fields of that name say
abbrev pub length_in : List Pair → BodyLength
length_in [] = body.Missing
length_in (field ∷ []) = length_said field.1
length_in (field ∷ another ∷ more) = body.Bad

-- it counts as missing where the body comes in a transfer encoding
abbrev pub length_unless : List Pair → List Pair → BodyLength
length_unless [] lengths = length_in lengths
length_unless (encoding ∷ more) lengths = body.Missing

-- the length of the body
abbrev pub length_of : List Pair → BodyLength
length_of fields = length_unless (named (codes "transfer-encoding") fields) (named (codes "content-length") fields)
