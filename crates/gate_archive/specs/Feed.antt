-- The accepted deliveries, in the order in which they were accepted, a line each.
use Rattle.std.specs.Prelude.{ℕ, ◌==◌, Bool, nat_eq, if◌then◌else◌, List, [], ◌∷◌, ◌++◌, length, take, flat_map}
use Rattle.std.specs.Prelude.{codes, decimal, Option, Some, None, option_map}
use Rattle.std.specs.List.{before_first, after_first}
use Rattle.uuid.specs.Text.{simple_text, lower, parsed}
use lib.Pointwise.{pointwise}
use Rattle.gate_types.specs.declared.records.Id.{Id}
use Rattle.gate_types.specs.declared.records.Kept.{Kept}
use Rattle.gate_types.specs.Columns.{row}
use Rattle.gate_types.specs.JsonText.{Piece}

-- a `k`: the first of a canonical text begins the member `kind`, since no member before it has one
abbrev pub is_k : ℕ → Bool
is_k b = b == 107

-- a canonical text with the id, as 32 lower-case digits, as a member before its kind
abbrev pub with_id : Id → List ℕ → Piece
with_id id said rest =
    before_first is_k said
    ++ (codes "id\":\"" ++ (simple_text lower id.0 ++ (codes "\",\"k" ++ (after_first is_k said ++ rest))))

-- the line of a delivery
abbrev pub feed_line : Kept → List ℕ
feed_line k = with_id k.id k.said (10 ∷ [])

-- the lines of deliveries
abbrev pub feed_lines : List Kept → List ℕ
feed_lines ks = flat_map feed_line ks

-- the deliveries behind that of an id, if there is one
abbrev pub behind_id : Id → List Kept → Option (List Kept)
behind_id id [] = None
behind_id id (k ∷ ks) = if pointwise nat_eq k.id.0 id.0 then Some ks else behind_id id ks

-- all deliveries, or those behind that of an id
abbrev pub behind : Option Id → List Kept → Option (List Kept)
behind None kept = Some kept
behind (Some id) kept = behind_id id kept

-- at most this many of them, if there is a delivery of that id
abbrev pub fed : Option Id → ℕ → List Kept → Option (List Kept)
fed after most kept = option_map (λ ks. take most ks) (behind after kept)

-- the text: lines, and how many there are
abbrev pub feed_text : List Kept → List ℕ
feed_text ks = feed_lines ks ++ row (codes "end" ∷ decimal (length ks) ∷ [])

-- the id that a text writes, in any form that a delivery may have
abbrev pub id_named : List ℕ → Option Id
id_named text = option_map (λ bytes. record { 0 = bytes }) (parsed text)
