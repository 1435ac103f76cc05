-- The row that a walk reads next, and where it stops.
use Rattle.std.specs.Prelude.{ℕ, false, ◌&&◌, ◌||◌, ◌==◌, nat_lt, ◌≡◌, if◌then◌else◌, suc, zero, List, [], ◌∷◌, ◌++◌}
use Rattle.std.specs.Prelude.{length, Option, Some, None, find, map, filter, nat_le}
use Rattle.std.specs.List.Sorted.{IsStrictlyIncreasing}
use Rattle.gate_types.specs.Window.{Bounds}
use Rattle.gate_types.specs.declared.edits.Edit.{Edit}
use Rattle.gate_walk.specs.Walk.{Seen, Carry, needs_gone, fails, verdict_by, visit_edits, carried, walk_edits}
use Rattle.gate_walk.specs.Walk.{walk_from}
use Rattle.gate_types.specs.declared.records.Item.{Item as ItemRow}
use Rattle.gate_types.specs.Settings.{Settings}
use Rattle.gate_types.specs.State.{State}
use Rattle.gate_walk.specs.Rescan.{walk_start, row_seen, rows_from}

-- the first row from a serial on is wanted, as at the start, or the first above it, or the first above it that needs
-- what has gone, or none
pub data Next : Type 0 where
  from : ℕ → Next
  go : ℕ → Next
  need : ℕ → Next
  stop : Next

-- what a visit answers, by what is carried on behind it
abbrev pub next_of : Carry → ℕ → Next
next_of k n = if k.resets || k.passes then go n else (if length k.gone == 0 then stop else need n)

-- the row that is wanted, if it is there
abbrev pub wanted : List ℕ → Next → List Seen → Option Seen
wanted gone (from n) vs = find (λ v. nat_le n v.row.serial) vs
wanted gone (go n) vs = find (λ v. nat_lt n v.row.serial) vs
wanted gone (need n) vs = find (λ v. nat_lt n v.row.serial && needs_gone gone v.needs) vs
wanted gone stop vs = None

-- the edits of at most so many visits, each of the row that was wanted last
abbrev pub visits_from : ℕ → List ℕ → Bounds → Next → Carry → List Seen → List Edit
visits_from zero name bounds next k vs = []
visits_from (suc m) name bounds next k vs = elim (wanted k.gone next vs) [
  | None ↦ []
  | Some v ↦ visit_edits name bounds k v ++
      visits_from m name bounds (next_of (carried bounds k v) v.row.serial) (carried bounds k v) vs
]

-- visits of the rows that are wanted, the first row first, are the walk
abbrev pub VisitsAreTheWalk : Type 0
VisitsAreTheWalk = (name : List ℕ) (bounds : Bounds) (k : Carry) (v : Seen) (vs : List Seen) →
    IsStrictlyIncreasing (map (λ x. x.row.serial) (v ∷ vs)) →
    visit_edits name bounds k v ++
    visits_from (length vs) name bounds (next_of (carried bounds k v) v.row.serial) (carried bounds k v) (v ∷ vs)
    ≡ walk_from name bounds k (v ∷ vs)

-- what is left to tell behind a visit of the row of a serial
abbrev pub untold : List ℕ → Bounds → Carry → ℕ → List Seen → List Edit
untold name bounds k n vs = walk_edits name bounds k (filter (λ v. nat_lt n v.row.serial) vs)

-- each visit tells the first part of what is left, and where no row is wanted nothing is left: for a loop of visits
pub record VisitsGoOn : Type 0 where
  -- the walk over a queue's rows from a serial on begins with the first of them
  pub begun : (c : Settings) (t : State) (rows : List ItemRow) (name : List ℕ) (bounds : Bounds) (n : ℕ) (k : Carry)
      (v : Seen) →
      IsStrictlyIncreasing (map (λ x. x.row.serial) (map (row_seen c t rows) rows)) →
      find (λ x. nat_le n x.row.serial) (map (row_seen c t rows) rows) ≡ Some v →
      walk_from name bounds k (map (row_seen c t rows) (rows_from n rows)) ≡ visit_edits name bounds k v ++
      untold name bounds (carried bounds k v) v.row.serial (map (row_seen c t rows) rows)
  pub none : (c : Settings) (t : State) (rows : List ItemRow) (name : List ℕ) (bounds : Bounds) (n : ℕ) (k : Carry) →
      IsStrictlyIncreasing (map (λ x. x.row.serial) (map (row_seen c t rows) rows)) →
      find (λ x. nat_le n x.row.serial) (map (row_seen c t rows) rows) ≡ None →
      walk_from name bounds k (map (row_seen c t rows) (rows_from n rows)) ≡ []
  -- so does what is left behind a visit, with the row that is wanted
  pub more : (name : List ℕ) (bounds : Bounds) (n : ℕ) (k : Carry) (v : Seen) (vs : List Seen) →
      IsStrictlyIncreasing (map (λ x. x.row.serial) vs) → wanted k.gone (next_of k n) vs ≡ Some v →
      untold name bounds k n vs ≡ visit_edits name bounds k v ++ untold name bounds (carried bounds k v) v.row.serial vs
  pub done : (name : List ℕ) (bounds : Bounds) (n : ℕ) (k : Carry) (vs : List Seen) →
      IsStrictlyIncreasing (map (λ x. x.row.serial) vs) → wanted k.gone (next_of k n) vs ≡ None →
      untold name bounds k n vs ≡ []

-- where a walk stops
pub record WalkStops : Type 0 where
  -- the touched item stands, stays, and its mark is what it was: the first visit is the last
  pub at_once : (bounds : Bounds) (reports window : ℕ) (ahead : Option ℕ) (v : Seen) →
      (let k = walk_start None ahead reports window in fails k v ≡ v.row.failing → verdict_by k v ≡ None →
      next_of (carried bounds k v) v.row.serial ≡ stop)
  -- while no line has changed, and the visited item doesn't turn failing, no line has changed
  pub keeps_lines : (bounds : Bounds) (k : Carry) (v : Seen) → k.resets ≡ false → fails k v ≡ v.row.failing →
      (carried bounds k v).resets ≡ false
  -- then a visit of a non-failing item doesn't ask for the next row
  pub not_further : (bounds : Bounds) (n : ℕ) (k : Carry) (v : Seen) → k.resets ≡ false → fails k v ≡ v.row.failing →
      v.row.failing ≡ false → next_of (carried bounds k v) n
      ≡ (if length (carried bounds k v).gone == 0 then stop else need n)
