-- Whether an item is blocked, asked by key.
use Rattle.std.specs.Prelude.{ℕ, Bool, false, ◌&&◌, ◌||◌, not, nat_lt, List, Option}
use Rattle.std.specs.Option.{option_map_or}
use Rattle.std.specs.List.{list_all}
use Rattle.gate_types.specs.Names.{same_name}
use Rattle.gate_types.specs.Settings.{Settings}
use Rattle.gate_types.specs.State.{State, change_of, is_landed}
use Rattle.gate_book_trait.specs.declared.rows.QueuedItem.{QueuedItem}
use Rattle.gate_book_trait.specs.Reads.{queued_of}

-- an item, if there is one, stands in a queue before a serial, and isn't failing
abbrev pub is_ahead : List ℕ → ℕ → Option QueuedItem → Bool
is_ahead name serial other =
    option_map_or (λ k. same_name k.queue name && nat_lt k.item.serial serial && not k.item.failing) other false

-- a need has landed, or its item is ahead
abbrev pub is_met : Settings → State → List ℕ → ℕ → ℕ → Bool
is_met c s name serial need = is_landed (change_of s need) || is_ahead name serial (queued_of c s need)

-- a need of the item's change isn't met
abbrev pub is_blocked_by_key : Settings → State → QueuedItem → Bool
is_blocked_by_key c s k = not (list_all (is_met c s k.queue k.item.serial) (change_of s k.item.change).needs)
