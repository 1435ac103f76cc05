-- A walk leaves what settling leaves: of the queue of an item whose build was told of, or that was taken out.
use Rattle.std.specs.Prelude.{ℕ, Bool, true, false, ◌&&◌, ◌||◌, not, ◌==◌, nat_le, ◌≡◌, if◌then◌else◌, List, [], ◌∷◌}
use Rattle.std.specs.Prelude.{◌++◌, map, filter, length, Option, Some, None, option_map, option_and_then, find}
use Rattle.std.specs.Prelude.{is_some, All, Contains, fold, filter_map}
use Rattle.std.specs.Option.{option_map_or}
use Rattle.std.specs.List.{AllPass, list_all}
use Rattle.std.specs.List.Sorted.{IsStrictlyIncreasing}
use Rattle.gate_types.specs.Window.{Bounds}
use Rattle.gate_types.specs.declared.records.Item.{Item as ItemRow}
use Rattle.gate_types.specs.declared.records.Need.{Need}
use Rattle.gate_types.specs.declared.records.Build.{Build}
use Rattle.gate_types.specs.declared.deliveries.Ending.{Ending}
use Rattle.gate_types.specs.Settings.{Settings}
use Rattle.gate_types.specs.State.{Item, Queue, State, plan_of}
use Rattle.gate_types.specs.Line.{Place}
use Rattle.gate_types.specs.Slot.{is_running, is_wanted}
use Rattle.gate_types.specs.Standing.{needs_of, all_places, place_of, places_after}
use Rattle.gate_types.specs.Rebase.{with_live, stays_live}
use Rattle.gate_types.specs.Sweep.{judged, judged_after, goes, next_window, report_of, without_runs}
use Rattle.gate_types.specs.Step.{end_build}
use Rattle.gate_types.specs.Lawful.{IsSound}
use Rattle.gate_types.specs.Rows.{Rows, item_rows, row_of, numbered_reports, fold_edits}
use Rattle.gate_queue_rules.specs.Settled.{settled_rows}
use Rattle.gate_walk.specs.Walk.{SeenNeed, Seen, Carry, walk_from}

-- each live build of the item is wanted: it counts, and isn't still running for a cut item
abbrev pub live_builds_are_wanted : List Build → Place → Bool
live_builds_are_wanted builds p =
    list_all (λ b. not (b.live && b.serial == p.item.serial) || is_wanted builds p b) builds

-- no item goes, and each live build of an item is wanted: so it is in a settled state
pub record IsCalm (c : Settings) (s : State) : Type 0 where
  pub stays : All (λ q. AllPass (λ j. not (is_some j.verdict)) (judged c s q)) s.queues
  pub builds_wanted : AllPass (live_builds_are_wanted s.builds) (all_places c s)

-- where an item of the change stands by these rows, and whether its row says that it is failing
abbrev pub standing_in : List ItemRow → ℕ → Option Bool
standing_in rows n = option_map (λ r. r.failing) (find (λ r. r.change == n) rows)

-- a need as a visit sees it
abbrev pub need_seen : List ItemRow → Need → SeenNeed
need_seen rows n = record { change = n.change; landed = n.landed; standing = standing_in rows n.change }

-- the live builds under a serial
abbrev pub live_under : List Build → ℕ → List Build
live_under builds serial = filter (λ b. b.live && b.serial == serial) builds

-- a row as a visit sees it, among these rows
abbrev pub row_seen : Settings → State → List ItemRow → ItemRow → Seen
row_seen c s rows r = record {
  row = r;
  needs = map (need_seen rows) (needs_of s r.change);
  jobs = (plan_of s r.serial).jobs;
  fast = (plan_of s r.serial).fast;
  builds = live_under s.builds r.serial;
}

-- what was taken out of a queue
pub record TakenOut : Type 0 where
  pub change : ℕ
  pub failing : Bool
  pub landed : Bool

-- the lines behind it have changed: it wasn't failing, and didn't land
abbrev pub changes_lines : Option TakenOut → Bool
changes_lines None = false
changes_lines (Some o) = not (o.landed || o.failing)

abbrev pub passes_a_landing : Option TakenOut → Bool
passes_a_landing None = false
passes_a_landing (Some o) = o.landed

-- its change has gone, unless it landed
abbrev pub gone_at_first : Option TakenOut → List ℕ
gone_at_first None = []
gone_at_first (Some o) = if o.landed then [] else o.change ∷ []

-- what a walk begins with, behind this non-failing item, that many reports, under this window
abbrev pub walk_start : Option TakenOut → Option ℕ → ℕ → ℕ → Carry
walk_start out ahead reports window = record {
  resets = changes_lines out;
  passes = passes_a_landing out;
  ahead = ahead;
  gone = gone_at_first out;
  marks = [];
  reports = reports;
  window = window;
}

-- ---- the rows of a queue around a delivery

-- the items' rows as they are stored
abbrev pub stored : Settings → State → Queue → List ItemRow
stored c s q = item_rows c s q

-- without the row of this serial
abbrev pub without_row : ℕ → List ItemRow → List ItemRow
without_row n rows = filter (λ r. not (r.serial == n)) rows

-- from this serial on
abbrev pub rows_from : ℕ → List ItemRow → List ItemRow
rows_from n rows = filter (λ r. nat_le n r.serial) rows

-- what is ahead of the item of a serial
abbrev pub ahead_at : ℕ → List ItemRow → Option ℕ
ahead_at n rows = option_and_then (λ r. r.ahead) (find (λ r. r.serial == n) rows)

-- whether it is failing
abbrev pub fails_at : ℕ → List ItemRow → Bool
fails_at n rows = option_map_or (λ r. r.failing) (find (λ r. r.serial == n) rows) false

-- a queue's rows: these for the items, whose columns may be of an earlier state
abbrev pub rows_with : Queue → List ItemRow → List Build → Rows
rows_with q rows builds =
    record { name = q.name; window = q.window; items = rows; builds = builds; reports = numbered_reports 0 q.reports }

-- a need once a change has landed
abbrev pub need_behind : ℕ → Need → Need
need_behind n m = record { change = m.change; landed = m.landed || n == m.change }

-- a place once an item is the last landing of its queue
abbrev pub place_after_landing : Item → Place → Place
place_after_landing i p = record {
  landings = p.landings ++ record { serial = i.serial; change = i.change; revision = i.revision } ∷ [];
  ahead = p.ahead;
  item = p.item;
  needs = map (need_behind i.change) p.needs;
  jobs = p.jobs;
  fast = p.fast;
}

-- ---- what a walk does

-- the rows of a queue settled as far as these places; the rows behind them, with their builds, are as they were
abbrev pub settled_to : Bounds → List Build → List Place → List ItemRow → Queue → Rows
settled_to bounds builds ps behind q = (let js = judged_after builds [] ps in record {
  name = q.name;
  window = fold (next_window bounds) q.window js;
  items = map (row_of builds) (filter (λ p. not (goes js p.item.serial)) ps) ++ behind;
  builds = without_runs (goes js) (map (λ b. with_live (b.live && stays_live builds ps b) b) builds);
  reports = numbered_reports 0 (q.reports ++ filter_map (λ j. option_map (λ v. report_of v j.item) j.verdict) js);
})

-- a walk over the last rows of a queue, each row of an item: at its end the queue is settled, and between two visits
-- it is so far
pub record Walks (bounds : Bounds) (q : Queue) (rows : List ItemRow) (builds : List Build) (ps : List Place) (k : Carry)
    (see : ItemRow → Seen) (last : List ItemRow) : Type 0 where
  pub rows_of_places : map (λ r. r.serial) rows ≡ map (λ p. p.item.serial) ps
  pub places_rise : IsStrictlyIncreasing (map (λ p. p.item.serial) ps)
  pub at_stop : fold_edits (rows_with q rows builds) (walk_from q.name bounds k (map see last))
      ≡ settled_rows bounds ps builds q
  pub so_far : (us vs : List ItemRow) (xs ys : List Place) → last ≡ us ++ vs → ps ≡ xs ++ ys → length ys ≡ length vs →
      fold_edits (rows_with q rows builds) (walk_from q.name bounds k (map see us))
      ≡ settled_to bounds builds (places_after builds [] xs) vs q

-- ---- the three laws

-- a running build of an item has ended
abbrev pub WalkAfterBuild : Type 0
WalkAfterBuild = (c : Settings) (s : State) (qs rs : List Queue) (q : Queue) (is js : List Item) (i : Item)
    (b : Build) (e : Ending) (bounds : Bounds) →
    IsSound c s → IsCalm c s → s.queues ≡ qs ++ q ∷ rs → q.items ≡ is ++ i ∷ js → Contains s.builds b →
    b.live && is_running b.outcome ≡ true → b.serial ≡ i.serial →
    (let t = end_build e b.number s in let rows = stored c s q in
    Walks bounds q rows t.builds (map (place_of c t q) q.items)
    (walk_start None (ahead_at i.serial rows) (length q.reports) q.window) (row_seen c t rows)
    (rows_from i.serial rows))

-- the item has left its queue: the other items stand as they stood, its running builds have stopped
pub record HasLeft (c : Settings) (s t : State) (q o : Queue) (i : Item) (others : List Item) : Type 0 where
  pub items : o.items ≡ others
  pub builds : t.builds ≡ without_runs (λ n. n == i.serial) s.builds
  pub places : map (place_of c t o) others ≡ map (place_of c s q) others

-- an item was taken out and didn't land
abbrev pub WalkAfterLeaving : Type 0
WalkAfterLeaving = (c : Settings) (s t : State) (qs rs : List Queue) (q o : Queue) (is js : List Item) (i : Item)
    (bounds : Bounds) →
    IsSound c s → IsCalm c s → s.queues ≡ qs ++ q ∷ rs → q.items ≡ is ++ i ∷ js → HasLeft c s t q o i (is ++ js) →
    (let rows = stored c s q in
    let left = without_row i.serial rows in
    let out : TakenOut = record { change = i.change; failing = fails_at i.serial rows; landed = false } in
    Walks bounds o left t.builds (map (place_of c t o) o.items)
    (walk_start (Some out) (ahead_at i.serial rows) (length o.reports) o.window) (row_seen c t left)
    (rows_from i.serial left))

-- the item has landed: it is the last landing of its queue
pub record HasLanded (c : Settings) (s t : State) (q o : Queue) (i : Item) (others : List Item) : Type 0 where
  pub items : o.items ≡ others
  pub builds : t.builds ≡ without_runs (λ n. n == i.serial) s.builds
  pub places : map (place_of c t o) others ≡ map (place_after_landing i) (map (place_of c s q) others)

-- the first non-failing item has landed
abbrev pub WalkAfterLanding : Type 0
WalkAfterLanding = (c : Settings) (s t : State) (qs rs : List Queue) (q o : Queue) (is js : List Item) (i : Item)
    (bounds : Bounds) →
    IsSound c s → IsCalm c s → s.queues ≡ qs ++ q ∷ rs → q.items ≡ is ++ i ∷ js → HasLanded c s t q o i (is ++ js) →
    ahead_at i.serial (stored c s q) ≡ None → fails_at i.serial (stored c s q) ≡ false →
    (let left = without_row i.serial (stored c s q) in
    let out : TakenOut = record { change = i.change; failing = false; landed = true } in
    Walks bounds o left t.builds (map (place_of c t o) o.items) (walk_start (Some out) None (length o.reports) o.window)
    (row_seen c t left) (rows_from i.serial left))
