-- How a book in memory keeps changes: in the order in which they came first, beside their positions by number, and an
-- index of the ready ones.
use Rattle.std.specs.Prelude.{ℕ, Bool, false, ◌≡◌, ◌==◌, ◌≤◌, ◌+◌, if◌then◌else◌, suc, nat_eq, List, [], ◌∷◌, Option}
use Rattle.std.specs.Prelude.{Some, None, find, option_map, option_and_then, vec_len, vec_capacity}
use Rattle.std.specs.List.{AllByRecursion}
use Rattle.std.specs.HashMap.{get, spare, HashMap}
use Rattle.std.specs.declared.hash.FoldHasher.{FoldHasher}
use Rattle.std.specs.declared.hash.BuildHasherDefault.{BuildHasherDefault}
use Rattle.gate_types.specs.declared.rows.ChangeRow.{ChangeRow}
use Rattle.gate_types.specs.declared.records.Ready.{Ready}
use Rattle.gate_types.specs.State.{put_by}
use Rattle.gate_types.specs.Keys.{number_of_change}
use Rattle.gate_types.specs.Rising.{RisesFrom, In}
use Rattle.gate_memory.specs.Pairs.{pair_key, IsFit}
use Rattle.gate_memory.specs.Needs.{AreInOrder, AreNeeds, TellsNeeds}
use Rattle.gate_memory.specs.declared.pairs.Pair.{Pair}
use Rattle.gate_memory.specs.declared.changes.ChangeTable.{ChangeTable}
use Rattle.gate_book_trait.specs.RowReads.{AreReady}

-- the positions of numbers
abbrev pub Numbers : Type 0
Numbers = HashMap ℕ ℕ (BuildHasherDefault FoldHasher)

-- the rows by number
abbrev pub in_order : {X : Type 0} → (X → ℕ) → List X → List X
in_order key [] = []
in_order key (x ∷ xs) = put_by key x (in_order key xs)

-- the first position of a key
abbrev pub position_at : {X : Type 0} → (X → ℕ) → ℕ → List X → Option ℕ
position_at key n [] = None
position_at key n (x ∷ xs) = if key x == n then Some 0 else option_map (λ i. suc i) (position_at key n xs)

-- no two rows have one key
abbrev pub AreApart : {X : Type 0} → (X → ℕ) → List X → Type 0
AreApart key [] = Unit {0}
AreApart key (x ∷ xs) = (position_at key (key x) xs ≡ None) × AreApart key xs

-- each number has the position of its row
abbrev pub FindsNumbers : Numbers → List ChangeRow → Type 0
FindsNumbers positions rows = (n : ℕ) → get nat_eq positions n ≡ position_at number_of_change n rows

-- what the index keeps of a ready change: the number of its approval, and its own
abbrev pub indexed_ready : ℕ → ℕ → Pair
indexed_ready n a = record { first = a; second = n }

-- each ready change stands in the index
abbrev pub TellsReady : List Pair → List ChangeRow → Type 0
TellsReady ready rows =
    AllByRecursion (λ r. (a : ℕ) → r.approval ≡ Some a → In (indexed_ready r.change.number a) ready) rows

-- the approval number is this one
abbrev pub same_number : Option ℕ → ℕ → Bool
same_number None n = false
same_number (Some m) n = m == n

-- numbers differ and find their rows, and the indexes, which rise, tell of each ready change and of exactly the needs
pub record IsKeptChangeTable (t : ChangeTable) : Type 0 where
  pub apart : AreApart number_of_change t.rows.items
  pub finds : FindsNumbers t.positions t.rows.items
  pub ready_rise : RisesFrom pair_key 0 t.ready.items
  pub ready_fit : AllByRecursion IsFit t.ready.items
  pub ready_told : TellsReady t.ready.items (in_order number_of_change t.rows.items)
  pub needs_order : AreInOrder t.needs.items
  pub needs_told : TellsNeeds t.needs.items (in_order number_of_change t.rows.items)
  pub needs_stand : AreNeeds t.needs.items (in_order number_of_change t.rows.items)

-- room for n more, which have m needs
pub record HasRoomForChanges (n m : ℕ) (t : ChangeTable) : Type 0 where
  pub rows : vec_len t.rows + n ≤ vec_capacity t.rows
  pub positions : n ≤ spare t.positions
  pub ready : vec_len t.ready + n ≤ vec_capacity t.ready
  pub needs : vec_len t.needs + m ≤ vec_capacity t.needs

-- the rows of the changes, by number
abbrev pub changes_of : ChangeTable → List ChangeRow
changes_of t = in_order number_of_change t.rows.items

-- a change as a ready one, if it has this approval
abbrev pub if_ready : ℕ → ChangeRow → Option Ready
if_ready a r = if same_number r.approval a then Some (record { approval = a; change = r.change.number }) else None

-- what a pair of the index tells, if it is so
abbrev pub ready_by : List ChangeRow → Pair → Option Ready
ready_by rows p = option_and_then (if_ready p.first) (find (λ r. r.change.number == p.second) rows)

-- a list is whatever the rows tell
abbrev pub IsWhatRowsTell : List ChangeRow → List Ready → Type 0
IsWhatRowsTell rows found = (ready : List Ready) → AreReady rows ready → found ≡ ready
