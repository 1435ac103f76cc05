-- What an item is tested on, and what a build ran on.
use Rattle.std.specs.Prelude.{Bool, ◌&&◌, ◌==◌, nat_lt, List, [], ◌∷◌, ◌++◌, map, filter, take}
use lib.Pointwise.{pointwise}
use Rattle.gate_types.specs.declared.records.Entry.{Entry}
use Rattle.gate_types.specs.declared.config.Job.{Job}
use Rattle.gate_types.specs.declared.records.Landing.{Landing}
use Rattle.gate_types.specs.declared.records.Build.{Build}
use Rattle.gate_types.specs.declared.records.Need.{Need}
use Rattle.gate_types.specs.State.{Item}

-- an item of a queue with all that its rules ask for: the landings of its queue, the non-failing items
-- before it, the needs of its change, the jobs of its plan, and whether one failure ends them all
pub record Place : Type 0 where
  pub landings : List Landing
  pub ahead : List Item
  pub item : Item
  pub needs : List Need
  pub jobs : List Job
  pub fast : Bool

-- the change of a landing at its revision
abbrev pub landed_entry : Landing → Entry
landed_entry l = record { change = l.change; revision = l.revision }

-- the same of an item
abbrev pub item_entry : Item → Entry
item_entry i = record { change = i.change; revision = i.revision }

-- and of a build
abbrev pub built_entry : Build → Entry
built_entry b = record { change = b.change; revision = b.revision }

-- two lists of changes at revisions are the same
abbrev pub same_entries : List Entry → List Entry → Bool
same_entries = pointwise (λ a b. a.change == b.change && a.revision == b.revision)

-- the landings of the queue with a lower serial
abbrev pub landings_below : Place → List Landing
landings_below p = filter (λ l. nat_lt l.serial p.item.serial) p.landings

-- the line: the landings before the item, the non-failing items before it, itself
abbrev pub line : Place → List Entry
line p = map landed_entry (landings_below p) ++ (map item_entry p.ahead ++ item_entry p.item ∷ [])

-- what a build ran on: the first landings of its queue, the items that were ahead of it, its own change
abbrev pub ran_on : List Landing → Build → List Entry
ran_on landings b = map landed_entry (take b.after landings) ++ (b.ahead ++ built_entry b ∷ [])
