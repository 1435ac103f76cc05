-- For the inside alone: where a change may stand.
use Rattle.std.specs.Prelude.{ℕ, Bool, false, ◌&&◌, nat_lt, ◌≡◌, List, length, Some}
use Rattle.std.specs.Option.{option_map_or}
use Rattle.gate_types.specs.declared.records.Need.{Need}
use Rattle.gate_types.specs.State.{Queue, State}
use Rattle.gate_types.specs.Slot.{are_met_by}
use Rattle.gate_book_trait.specs.Reads.{queue_named}
use Rattle.gate_types.specs.Limits.{most_items}

-- there is a queue of this name
pub record IsQueue (s : State) (name : List ℕ) : Type 0 where
  pub queue : Queue
  pub named : queue_named s name ≡ Some queue

-- the queue of a name has fewer than 1,000 items
abbrev pub has_room : State → List ℕ → Bool
has_room s name = option_map_or (λ q. nat_lt (length q.items) most_items) (queue_named s name) false

-- the queue of a name has room, and each of these needs has landed or is an item of it
abbrev pub has_place : State → List ℕ → List Need → Bool
has_place s name needs =
    option_map_or (λ q. nat_lt (length q.items) most_items && are_met_by q.items needs) (queue_named s name) false
