-- One queue's settling is that queue's part of a rebase and then a sweep of the whole state.
use Rattle.std.specs.Prelude.{ℕ, Bool, ◌&&◌, ◌||◌, not, ◌≡◌, List, ◌∷◌, ◌++◌, map, filter}
use Rattle.std.specs.List.{AllPass, list_any}
use Rattle.std.specs.List.Sorted.{IsStrictlyIncreasing}
use Rattle.gate_types.specs.declared.records.Build.{Build}
use Rattle.gate_types.specs.declared.records.Plan.{Plan}
use Rattle.gate_types.specs.Settings.{Settings}
use Rattle.gate_types.specs.State.{Queue, State}
use Rattle.gate_types.specs.Standing.{place_of}
use Rattle.gate_types.specs.Rebase.{rebase}
use Rattle.gate_types.specs.Window.{bounds_of}
use Rattle.gate_types.specs.Sweep.{sweep}
use Rattle.gate_laws.specs.Touch.{has_serial}
use Rattle.gate_types.specs.Rows.{Rows}
use Rattle.gate_queue_rules.specs.Settled.{settled_rows, swept_of, rows_in}

-- the builds of some numbers
abbrev pub picked : (ℕ → Bool) → List Build → List Build
picked pick builds = filter (λ b. pick b.number) builds

-- a build is picked if it is a live one of the queue's items, and only if it is of no other queue's item
abbrev pub is_picked_rightly : (ℕ → Bool) → List Queue → Queue → Build → Bool
is_picked_rightly pick others q b =
    (not (b.live && has_serial q.items b.serial) || pick b.number) &&
    (not (pick b.number) || not (list_any (λ o. has_serial o.items b.serial) others))

-- the rows of a queue in a state, with those of the picked builds
abbrev pub picked_rows : Settings → State → (ℕ → Bool) → Queue → Rows
picked_rows c s pick q = record (rows_in c s q) { builds = picked pick s.builds }

-- a plan of one of the queue's items is of no other queue's item
abbrev pub is_planned_apart : List Queue → Queue → Plan → Bool
is_planned_apart others q p =
    not (has_serial q.items p.serial) || not (list_any (λ o. has_serial o.items p.serial) others)

-- the rows of a queue in the state after a rebase and then a sweep are those that settling the queue by itself leaves
abbrev pub EachQueueIsSettledByItself : Type 0
EachQueueIsSettledByItself = (c : Settings) (s : State) (before after : List Queue) (q : Queue) (pick : ℕ → Bool) →
    s.queues ≡ before ++ q ∷ after → IsStrictlyIncreasing (map (λ i. i.serial) q.items) →
    AllPass (is_planned_apart (before ++ after) q) s.plans →
    AllPass (is_picked_rightly pick (before ++ after) q) s.builds →
    picked_rows c (sweep c (rebase c s)) pick (swept_of c s q)
    ≡ settled_rows (bounds_of c q) (map (place_of c s q) q.items) (picked pick s.builds) q
