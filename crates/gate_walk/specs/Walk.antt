-- A walk over the rows behind a touched item: what it carries, what it makes of a row, which rows it asks for.
use Rattle.std.specs.Prelude.{ℕ, Bool, false, ◌&&◌, ◌||◌, not, ◌==◌, nat_eq, if◌then◌else◌, List, [], ◌∷◌, ◌++◌, map}
use Rattle.std.specs.Prelude.{filter, Option, Some, None, is_some}
use Rattle.std.specs.Bool.{beq}
use Rattle.std.specs.Option.{option_eq}
use Rattle.std.specs.List.{list_any, list_all}
use Rattle.gate_types.specs.Window.{Bounds}
use Rattle.gate_types.specs.declared.config.Job.{Job}
use Rattle.gate_types.specs.declared.records.Item.{Item as ItemRow}
use Rattle.gate_types.specs.declared.records.Build.{Build}
use Rattle.gate_types.specs.declared.records.Verdict.{Verdict}
use Rattle.gate_types.specs.declared.records.Verdict.TheVariants as verdict
use Rattle.gate_types.specs.declared.edits.Edit.{Edit}
use Rattle.gate_types.specs.declared.edits.Edit.TheVariants as edit
use Rattle.gate_types.specs.Slot.{is_running, is_failed_slot, is_finished}
use Rattle.gate_queue_rules.specs.Outcomes.{slot_among}
use Rattle.gate_queue_rules.specs.Edits.{item_edits, next_reports, window_behind, window_edits}

-- a need of an item; where an item of this change stands in the queue, whether its row says that it is failing
pub record SeenNeed : Type 0 where
  pub change : ℕ
  pub landed : Bool
  pub standing : Option Bool

-- what a visit is given: a row, the needs and jobs of its change, whether one failure ends them all, its live builds
pub record Seen : Type 0 where
  pub row : ItemRow
  pub needs : List SeenNeed
  pub jobs : List Job
  pub fast : Bool
  pub builds : List Build

-- whether an item that was visited is failing now
pub record Mark : Type 0 where
  pub change : ℕ
  pub failing : Bool

-- what the walk carries: whether each line from here on has changed, whether a landing is behind which no
-- non-failing item came yet, the serial of the last non-failing item, the changes that have gone, the marks of
-- the items that were visited, the number of reports, the window
pub record Carry : Type 0 where
  pub resets : Bool
  pub passes : Bool
  pub ahead : Option ℕ
  pub gone : List ℕ
  pub marks : List Mark
  pub reports : ℕ
  pub window : ℕ

-- a change has gone
abbrev pub is_gone : List ℕ → ℕ → Bool
is_gone gone n = list_any (λ c. c == n) gone

-- the mark of a needed item: that of its visit, else that of its row
abbrev pub mark_of : List Mark → ℕ → Option Bool → Option Bool
mark_of [] n standing = standing
mark_of (m ∷ marks) n standing = if m.change == n then Some m.failing else mark_of marks n standing

-- a needed item stands in the queue and isn't failing
abbrev pub is_fine : Option Bool → Bool
is_fine (Some failing) = not failing
is_fine None = false

-- a need has neither landed nor is it a non-failing item
abbrev pub is_blocked_by : List Mark → List SeenNeed → Bool
is_blocked_by marks needs = not (list_all (λ n. n.landed || is_fine (mark_of marks n.change n.standing)) needs)

-- each need has landed or stands in the queue and hasn't gone
abbrev pub are_met_without : List ℕ → List SeenNeed → Bool
are_met_without gone needs = list_all (λ n. n.landed || is_some n.standing && not (is_gone gone n.change)) needs

-- some need has gone
abbrev pub needs_gone : List ℕ → List SeenNeed → Bool
needs_gone gone needs = list_any (λ n. is_gone gone n.change) needs

-- the live builds that count still: none of them where the line has changed
abbrev pub still_counting : Carry → Seen → List Build
still_counting k v = if k.resets then [] else v.builds

-- whether a voting job is a failure, by builds that all count
abbrev pub has_failed_among : List Job → List Build → Bool
has_failed_among jobs builds = list_any (λ j. j.voting && is_failed_slot (slot_among builds j)) jobs

-- whether an item is failing
abbrev pub fails_by : List Mark → List SeenNeed → List Job → List Build → Bool
fails_by marks needs jobs builds = is_blocked_by marks needs || has_failed_among jobs builds

-- whether it is cut
abbrev pub is_cut_by : Bool → List Mark → List SeenNeed → List Job → List Build → Bool
is_cut_by fast marks needs jobs builds = fast && not (is_blocked_by marks needs) && has_failed_among jobs builds

-- whether nothing more is to come of it
abbrev pub is_done_by : Bool → List Mark → List SeenNeed → List Job → List Build → Bool
is_done_by fast marks needs jobs builds =
    is_cut_by fast marks needs jobs builds || list_all (λ j. is_finished (slot_among builds j)) jobs

-- why an item goes, if it goes; whether no non-failing item is before it
abbrev pub verdict_among : Bool → Bool → List ℕ → List Mark → List SeenNeed → List Job → List Build → Option Verdict
verdict_among first fast gone marks needs jobs builds =
    if not (are_met_without gone needs) then Some verdict.Needs else (
    if fails_by marks needs jobs builds && not (is_blocked_by marks needs) && first
    && is_done_by fast marks needs jobs builds then Some verdict.Failed else None)

-- whether the item is failing now
abbrev pub fails : Carry → Seen → Bool
fails k v = fails_by k.marks v.needs v.jobs (still_counting k v)

-- whether it is cut now
abbrev pub cuts : Carry → Seen → Bool
cuts k v = is_cut_by v.fast k.marks v.needs v.jobs (still_counting k v)

-- why it goes, if it goes
abbrev pub verdict_by : Carry → Seen → Option Verdict
verdict_by k v = verdict_among (not (is_some k.ahead)) v.fast k.gone k.marks v.needs v.jobs (still_counting k v)

-- whether no more of it is to be run: it goes or is cut
abbrev pub is_over : Carry → Seen → Bool
is_over k v = is_some (verdict_by k v) || cuts k v

-- its row
abbrev pub row_by : Carry → Seen → ItemRow
row_by k v = record {
  serial = v.row.serial;
  change = v.row.change;
  revision = v.row.revision;
  ahead = k.ahead;
  failing = fails k v;
}

-- its builds that stop: all of them where the line has changed, the running ones where no more is to be run
abbrev pub stopped_by : Carry → Seen → List Build
stopped_by k v = filter (λ b. k.resets || is_over k v && is_running b.outcome) v.builds

-- the stops of an item's builds: of all of them, or of the running ones where no more is to be run
abbrev pub stops_of : Bool → Bool → List Build → List Edit
stops_of resets over builds =
    map (λ b. edit.StopBuild b.number) (filter (λ b. resets || over && is_running b.outcome) builds)

-- a row is what it was
abbrev pub is_same_row : ItemRow → ItemRow → Bool
is_same_row a b =
    a.serial == b.serial && a.change == b.change && a.revision == b.revision &&
    option_eq nat_eq a.ahead b.ahead && beq a.failing b.failing

-- what takes an item out, or puts its row where it isn't what is stored
abbrev pub row_edits : List ℕ → ℕ → ItemRow → ItemRow → Option Verdict → List Edit
row_edits name reports stored row None = if is_same_row stored row then [] else edit.PutItem name row ∷ []
row_edits name reports stored row (Some v) = item_edits name reports row (Some v)

-- the window, where it changes
abbrev pub window_edits_by : List ℕ → Bounds → ℕ → Option Verdict → List Edit
window_edits_by name bounds window verdict = window_edits name window (window_behind bounds window verdict)

-- the edits of a visit
abbrev pub visit_edits : List ℕ → Bounds → Carry → Seen → List Edit
visit_edits name bounds k v =
    (map (λ b. edit.StopBuild b.number) (stopped_by k v) ++
    row_edits name k.reports v.row (row_by k v) (verdict_by k v)) ++
    window_edits_by name bounds k.window (verdict_by k v)

-- what is carried on behind a visit
abbrev pub carried : Bounds → Carry → Seen → Carry
carried bounds k v = record {
  resets = k.resets || fails k v && not v.row.failing;
  passes = k.passes && fails k v;
  ahead = if fails k v then k.ahead else Some v.row.serial;
  gone = if is_some (verdict_by k v) then k.gone ++ v.row.change ∷ [] else k.gone;
  marks = k.marks ++ record { change = v.row.change; failing = fails k v } ∷ [];
  reports = next_reports k.reports (verdict_by k v);
  window = window_behind bounds k.window (verdict_by k v);
}

-- a walk in a queue, with what it has told so far
pub record Walk : Type 0 where
  pub name : List ℕ
  pub bounds : Bounds
  pub touched : ℕ
  pub carry : Carry
  pub told : List Edit

-- it behind a visit
abbrev pub behind_visit : Walk → Seen → Walk
behind_visit w v =
    record w { carry = carried w.bounds w.carry v; told = w.told ++ visit_edits w.name w.bounds w.carry v }

-- the row is asked for: the next one while lines change or a landing is passed, else the next that needs what has gone
abbrev pub is_asked_for : Carry → Seen → Bool
is_asked_for k v = k.resets || k.passes || needs_gone k.gone v.needs

-- the edits of a walk over the rows that it asks for
abbrev pub walk_edits : List ℕ → Bounds → Carry → List Seen → List Edit
walk_edits name bounds k [] = []
walk_edits name bounds k (v ∷ vs) =
    if is_asked_for k v
    then visit_edits name bounds k v ++ walk_edits name bounds (carried bounds k v) vs
    else walk_edits name bounds k vs

-- the first row is asked for whatever is carried
abbrev pub walk_from : List ℕ → Bounds → Carry → List Seen → List Edit
walk_from name bounds k [] = []
walk_from name bounds k (v ∷ vs) = visit_edits name bounds k v ++ walk_edits name bounds (carried bounds k v) vs
