-- A queue in parts: some of its items, one behind another, as a book returns them.
use Rattle.std.specs.Prelude.{ℕ, ◌≡◌, if◌then◌else◌, List, [], ◌∷◌, ◌++◌, map, fold, Option, Some, None, All, Contains}
use Rattle.std.specs.List.Sorted.{IsStrictlyIncreasing}
use Rattle.gate_types.specs.declared.records.Entry.{Entry}
use Rattle.gate_types.specs.declared.records.Item.{Item as ItemRow}
use Rattle.gate_types.specs.Settings.{Settings}
use Rattle.gate_types.specs.State.{Item, Queue, State, plan_of}
use Rattle.gate_types.specs.Line.{Place, item_entry}
use Rattle.gate_types.specs.Standing.{places_after, place_of, places}
use Rattle.gate_types.specs.Rows.{row_of}
use Rattle.gate_book_trait.specs.Reads.{queue_named, items_in, first_items_above, live_builds, plans_of_items}
use Rattle.gate_book_trait.specs.Reads.{builds_of_items}
use Rattle.gate_reads.specs.declared.due.BookItem.{BookItem}
use Rattle.gate_reads.specs.declared.part.Part.{Part}

-- the most items that are read at once
abbrev pub most_at_once : ℕ
most_at_once = 32

-- the serial of the last of some rows; this one where there are none
abbrev pub last_serial : ℕ → List ItemRow → ℕ
last_serial n [] = n
last_serial n (i ∷ is) = last_serial i.serial is

-- what is ahead behind a row: it too, unless it fails
abbrev pub ahead_behind_one : List Entry → ItemRow → List Entry
ahead_behind_one ahead i =
    if i.failing then ahead else ahead ++ record { change = i.change; revision = i.revision } ∷ []

-- and behind some rows
abbrev pub ahead_behind : List Entry → List ItemRow → List Entry
ahead_behind ahead rows = fold ahead_behind_one ahead rows

-- the rows of places of a queue that stand one behind another, the first behind these items that aren't failing
pub record AreBehind (c : Settings) (s : State) (name : List ℕ) (ahead : List Entry) (rows : List ItemRow) (q : Queue)
    (ps : List Place) : Type 0 where
  pub before : List Item
  pub items : List Item
  pub queue_is : queue_named s name ≡ Some q
  pub there : All (Contains (places c s q)) ps
  pub places_are : ps ≡ places_after s.builds before (map (place_of c s q) items)
  pub rows_are : rows ≡ map (row_of s.builds) ps
  pub ahead_is : ahead ≡ map item_entry before

-- what is told of an item is so: its jobs, whether one failure ends them all, its live builds
pub record IsTold (s : State) (told : BookItem) : Type 0 where
  pub jobs : told.jobs.now ≡ (plan_of s told.row.serial).jobs
  pub fast : told.fast ≡ (plan_of s told.row.serial).fast
  pub builds : told.builds.now ≡ live_builds s told.row.serial

-- what is told of the items of a part, which rise by serial, is so: the plan of each, the live builds of each
pub record AreTold (s : State) (part : Part) : Type 0 where
  pub rise : IsStrictlyIncreasing (map (λ i. i.serial) part.items)
  pub plans : part.plans ≡ plans_of_items s part.items
  pub builds : part.builds ≡ builds_of_items s part.items

-- a part has the first items of a queue above a serial, no more than this many, and what is told of them is so
pub record IsPart (c : Settings) (s : State) (name : List ℕ) (above most : ℕ) (part : Part) : Type 0 where
  pub items : part.items ≡ first_items_above above most (items_in c s name)
  pub last : part.last ≡ last_serial above part.items
  pub told : AreTold s part

-- there is a part just where the queue has an item above the serial
abbrev pub TellsPart : Settings → State → List ℕ → ℕ → ℕ → Option Part → Type 0
TellsPart c s name above most (Some part) = IsPart c s name above most part
TellsPart c s name above most None = first_items_above above most (items_in c s name) ≡ []
