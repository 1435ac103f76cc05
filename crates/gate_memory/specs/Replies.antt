-- How a book in memory keeps deliveries: in the order in which they were accepted, beside their positions by id.
use Rattle.std.specs.Prelude.{ℕ, Bool, ◌≡◌, ◌≤◌, ◌+◌, if◌then◌else◌, suc, nat_eq, List, [], ◌∷◌, Option, Some, None}
use Rattle.std.specs.Prelude.{option_map, vec_len, vec_capacity}
use Rattle.std.specs.HashMap.{get, spare}
use lib.Pointwise.{pointwise}
use Rattle.gate_types.specs.declared.records.Kept.{Kept}
use Rattle.gate_memory.specs.declared.replies.ReplyTable.{ReplyTable}

-- two ids are the same bytes
abbrev pub same_id : List ℕ → List ℕ → Bool
same_id = pointwise nat_eq

-- a delivery was kept under an id
abbrev pub has_id : List ℕ → Kept → Bool
has_id id k = same_id k.id.0 id

-- the position of the first that passes
abbrev pub position_by : (Kept → Bool) → List Kept → Option ℕ
position_by test [] = None
position_by test (k ∷ ks) = if test k then Some 0 else option_map (λ i. suc i) (position_by test ks)

-- each id has the position of the first delivery that was kept under it
pub record IsKeptReplyTable (t : ReplyTable) : Type 0 where
  pub finds : (id : List ℕ) → get same_id t.positions id ≡ position_by (has_id id) t.rows.items

-- room for n more
pub record HasRoomForReplies (n : ℕ) (t : ReplyTable) : Type 0 where
  pub rows : vec_len t.rows + n ≤ vec_capacity t.rows
  pub positions : n ≤ spare t.positions
