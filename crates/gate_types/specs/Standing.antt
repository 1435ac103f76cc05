-- Which items are failing, and what is ahead of each: worked out from the front, never kept.
use Rattle.std.specs.Prelude.{ℕ, Bool, ◌||◌, if◌then◌else◌, ◌-◌, List, [], ◌∷◌, ◌++◌, map, length, slice_get, Option}
use Rattle.std.specs.Prelude.{option_map, flat_map}
use Rattle.std.specs.List.{list_all}
use Rattle.gate_types.specs.Settings.{Settings}
use Rattle.gate_types.specs.declared.records.Build.{Build}
use Rattle.gate_types.specs.declared.records.Need.{Need}
use Rattle.gate_types.specs.State.{Item, Queue, State, change_of, is_landed, plan_of}
use Rattle.gate_types.specs.Line.{Place}
use Rattle.gate_types.specs.Slot.{is_blocked, has_failure, slot_of, is_finished}

-- blocked, or a voting job is a failure
abbrev pub is_failing : List Build → Place → Bool
is_failing builds p = is_blocked p || has_failure builds p

-- each slot is finished
abbrev pub are_finished : List Build → Place → Bool
are_finished builds p = list_all (λ j. is_finished (slot_of builds p j)) p.jobs

-- a place, once what is ahead is known
abbrev pub with_ahead : List Item → Place → Place
with_ahead ahead p = record p { ahead = ahead }

-- the non-failing items up to and with this one
abbrev pub next_ahead : List Build → Place → List Item
next_ahead builds p = if is_failing builds p then p.ahead else p.ahead ++ p.item ∷ []

-- the places, each with the non-failing items before it
abbrev pub places_after : List Build → List Item → List Place → List Place
places_after builds ahead [] = []
places_after builds ahead (p ∷ ps) =
    with_ahead ahead p ∷ places_after builds (next_ahead builds (with_ahead ahead p)) ps

-- the serial of the last non-failing item before
abbrev pub ahead_of : Place → Option ℕ
ahead_of p = option_map (λ i. i.serial) (slice_get p.ahead (length p.ahead - 1))

-- the needs of a change, each with whether it has landed
abbrev pub needs_of : State → ℕ → List Need
needs_of s n = map (λ m. record { change = m; landed = is_landed (change_of s m) }) (change_of s n).needs

-- the place of an item, before what is ahead is known
abbrev pub place_of : Settings → State → Queue → Item → Place
place_of c s q i =
    record {
      landings = q.landings;
      ahead = [];
      item = i;
      needs = needs_of s i.change;
      jobs = (plan_of s i.serial).jobs;
      fast = (plan_of s i.serial).fast;
    }

-- the places of a queue, front to back
abbrev pub places : Settings → State → Queue → List Place
places c s q = places_after s.builds [] (map (place_of c s q) q.items)

-- the places of all queues
abbrev pub all_places : Settings → State → List Place
all_places c s = flat_map (places c s) s.queues
