-- Rows, and the places that they stand for.
use Rattle.std.specs.Prelude.{ℕ, Bool, true, ◌&&◌, ◌||◌, not, ◌==◌, ◌≡◌, List, map, length, Some, Contains}
use Rattle.std.specs.List.{list_any, list_all}
use Rattle.gate_types.specs.declared.records.Build.{Build}
use Rattle.gate_types.specs.declared.records.Entry.{Entry}
use Rattle.gate_types.specs.declared.records.Item.{Item as ItemRow}
use Rattle.gate_types.specs.declared.records.Need.{Need}
use Rattle.gate_types.specs.declared.records.Outcome.TheVariants as outcome
use Rattle.gate_types.specs.Settings.{Settings}
use Rattle.gate_types.specs.State.{Queue, State}
use Rattle.gate_types.specs.Line.{Place, item_entry}
use Rattle.gate_types.specs.Standing.{is_failing, are_finished, places, all_places}
use Rattle.gate_types.specs.Rows.{row_of}
use Rattle.gate_book_trait.specs.Reads.{queue_named}

-- the row of a place
pub record IsAt (c : Settings) (s : State) (row : ItemRow) (p : Place) : Type 0 where
  pub there : Contains (all_places c s) p
  pub row_is : row ≡ row_of s.builds p

-- the row of a place of a queue, behind these items that aren't failing
pub record IsBehind (c : Settings) (s : State) (name : List ℕ) (ahead : List Entry) (row : ItemRow) (q : Queue)
    (p : Place) : Type 0 where
  pub queue_is : queue_named s name ≡ Some q
  pub there : Contains (places c s q) p
  pub row_is : row ≡ row_of s.builds p
  pub ahead_is : ahead ≡ map item_entry p.ahead

-- the order of an item is shown: it isn't failing, nothing is ahead of it, each of its jobs has ended
abbrev pub is_shown : List Build → Place → Bool
is_shown builds p = not (is_failing builds p) && length p.ahead == 0 && are_finished builds p

-- each need has landed or is one of these changes
abbrev pub are_met_among : List Entry → List Need → Bool
are_met_among ahead needs = list_all (λ n. n.landed || list_any (λ e. e.change == n.change) ahead) needs

-- a build of a job for a row of a queue, on so many landings and on what is ahead
abbrev pub build_on : ℕ → List ℕ → List Entry → ItemRow → ℕ → List ℕ → Build
build_on number queue ahead row after job = record {
  number = number;
  queue = queue;
  serial = row.serial;
  change = row.change;
  revision = row.revision;
  job = job;
  after = after;
  ahead = ahead;
  outcome = outcome.Running;
  live = true;
}
