-- Which change of a queue the forge is told to land.
use Rattle.std.specs.Prelude.{ℕ, Bool, not, ◌==◌, List, Option, option_and_then, filter_map, find}
use Rattle.std.specs.List.{list_any}
use Rattle.std.specs.Bool.{then_some}
use Rattle.gate_types.specs.Settings.{Settings}
use Rattle.gate_types.specs.State.{Item, Queue, State}
use Rattle.gate_types.specs.Standing.{is_failing, are_finished, places}

-- an item that is to land in its queue
pub record Order : Type 0 where
  pub queue : Queue
  pub item : Item

-- the first non-failing item, if each of its slots is finished
abbrev pub order_of : Settings → State → Queue → Option Order
order_of c s q =
    option_and_then (λ p. then_some (are_finished s.builds p) (record { queue = q; item = p.item }))
    (find (λ p. not (is_failing s.builds p)) (places c s q))

-- the orders that are shown, in the order of the queues
abbrev pub orders : Settings → State → List Order
orders c s = filter_map (order_of c s) s.queues

-- the order of a number, if it is shown
abbrev pub shown_order : Settings → State → ℕ → Option Order
shown_order c s n = find (λ o. o.item.serial == n) (orders c s)

-- whether an order for the change is shown
abbrev pub is_submitting : Settings → State → ℕ → Bool
is_submitting c s n = list_any (λ o. o.item.change == n) (orders c s)
