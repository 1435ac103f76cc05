-- An index of needs: pairs of a needed change and one that needs it.
use Rattle.std.specs.Prelude.{ℕ, ◌≡◌, ◌<◌, ◌+◌, List, [], ◌∷◌, length}
use Rattle.std.specs.List.{AllByRecursion}
use Rattle.gate_types.specs.declared.edits.Edit.{Edit}
use Rattle.gate_types.specs.declared.edits.Edit.TheVariants as edit
use Rattle.gate_types.specs.declared.records.Item.{Item}
use Rattle.gate_types.specs.declared.rows.ChangeRow.{ChangeRow}
use Rattle.gate_types.specs.Rising.{RisesFrom, In}
use Rattle.gate_types.specs.Tables.{needs_in}
use Rattle.gate_memory.specs.Pairs.{pair_key}
use Rattle.gate_memory.specs.declared.pairs.Pair.{Pair}

-- what the index keeps of a need
abbrev pub pair_of_need : ℕ → ℕ → Pair
pair_of_need needed n = record { first = needed; second = n }

-- these needs of a change stand in the index
abbrev pub TellsNeedsOf : List Pair → ℕ → List ℕ → Type 0
TellsNeedsOf needs n ms = AllByRecursion (λ m. In (pair_of_need m n) needs) ms

-- those of each change do
abbrev pub TellsNeeds : List Pair → List ChangeRow → Type 0
TellsNeeds needs rows = AllByRecursion (λ r. TellsNeedsOf needs r.change.number r.change.needs) rows

-- none of these needs of a change does
abbrev pub TellsNoneOf : List Pair → ℕ → List ℕ → Type 0
TellsNoneOf needs n ms = AllByRecursion (λ m. In (pair_of_need m n) needs → ⊥) ms

-- each pair of the index is of a change that needs the other
abbrev pub AreNeeds : List Pair → List ChangeRow → Type 0
AreNeeds needs rows = AllByRecursion (λ p. In p.first (needs_in rows p.second)) needs

-- its second number isn't the last of 64 bits
abbrev pub IsSmall : Pair → Type 0
IsSmall p = p.second + 1 < 18446744073709551616

-- the index rises, and its second numbers are those of changes
pub record AreInOrder (needs : List Pair) : Type 0 where
  pub rise : RisesFrom pair_key 0 needs
  pub small : AllByRecursion IsSmall needs

-- how many needs an edit brings
abbrev pub needs_brought : Edit → ℕ
needs_brought (edit.PutChange k approval) = length k.needs
needs_brought _ = 0

-- and all of some edits
abbrev pub needs_of_all : List Edit → ℕ
needs_of_all [] = 0
needs_of_all (e ∷ es) = needs_brought e + needs_of_all es

-- numbers that rise
abbrev pub IsRising : List ℕ → Type 0
IsRising ns = RisesFrom (λ n. n) 0 ns

-- the serial of each item of a change is one of these
abbrev pub TellsSerials : ℕ → List ℕ → List Item → Type 0
TellsSerials n serials items = AllByRecursion (λ i. i.change ≡ n → In i.serial serials) items
