-- One delivery in the plain gate.
use Rattle.std.specs.Prelude.{ℕ, Bool, false, ◌&&◌, ◌||◌, not, ◌==◌, nat_lt, nat_le, if◌then◌else◌, max, ◌+◌, List}
use Rattle.std.specs.Prelude.{[], ◌∷◌, ◌++◌, map, filter, length, Option, flat_map, find}
use Rattle.std.specs.List.{list_any}
use Rattle.std.specs.Option.{option_map_or}
use Rattle.gate_types.specs.Settings.{Settings}
use Rattle.gate_types.specs.declared.records.Outcome.{Outcome}
use Rattle.gate_types.specs.declared.records.Outcome.TheVariants as outcome
use Rattle.gate_types.specs.declared.records.Verdict.{Verdict}
use Rattle.gate_types.specs.declared.records.Stage.{Stage}
use Rattle.gate_types.specs.declared.records.Change.{Change}
use Rattle.gate_types.specs.declared.records.Build.{Build}
use Rattle.gate_types.specs.declared.records.Plan.{Plan}
use Rattle.gate_types.specs.declared.deliveries.Ending.{Ending}
use Rattle.gate_types.specs.declared.deliveries.Ending.TheVariants as ending
use Rattle.gate_types.specs.declared.deliveries.Delivery.{Delivery}
use Rattle.gate_types.specs.declared.deliveries.Reply.{Reply}
use Rattle.gate_types.specs.declared.deliveries.Refusal.{Refusal}
use Rattle.gate_types.specs.declared.records.Verdict.TheVariants as verdict
use Rattle.gate_types.specs.declared.records.Stage.TheVariants as stage
use Rattle.gate_types.specs.declared.deliveries.Delivery.TheVariants as delivery
use Rattle.gate_types.specs.declared.deliveries.Reply.TheVariants as reply
use Rattle.gate_types.specs.declared.deliveries.Refusal.TheVariants as refusal
use Rattle.gate_types.specs.Needs.{needs}
use Rattle.gate_types.specs.Names.{same_name}
use Rattle.gate_types.specs.State.{Item, Queue, State, put_change, change_queue, known_change, change_of, is_open}
use Rattle.gate_types.specs.State.{is_landed, is_queued, is_ready, plan_of, put_plan}
use Rattle.gate_types.specs.Slot.{is_running}
use Rattle.gate_types.specs.Window.{grow, shrink, bounds_of}
use Rattle.gate_types.specs.Sweep.{report_of, without_runs, without_plans}
use Rattle.gate_types.specs.Admit.{without_ready}
use Rattle.gate_types.specs.Settle.{settle}
use Rattle.gate_types.specs.SubmitOrder.{Order, shown_order, is_submitting}
use Rattle.gate_types.specs.Choice.{choose}
use Rattle.gate_types.specs.Counters.{last_number}
use Rattle.gate_types.specs.Limits.{most_needs}

-- a delivery is accepted, with its reply and the state after it, or refused
pub data Stepped : Type 0 where
  accepted : Reply → State → Stepped
  refused : Refusal → Stepped

-- the item of a change leaves its queue, if it stands there, with a report
abbrev pub left_queue : Verdict → ℕ → Queue → Queue
left_queue v n q = record q {
  items = filter (λ i. not (i.change == n)) q.items;
  reports = q.reports ++ map (report_of v) (filter (λ i. i.change == n) q.items);
}

-- the serial is that of an item of the change
abbrev pub is_of_change : ℕ → State → ℕ → Bool
is_of_change n s serial = list_any (λ q. list_any (λ i. i.change == n && i.serial == serial) q.items) s.queues

-- the same in all queues; its plan goes, and its running builds stop being live
abbrev pub leave : Verdict → ℕ → State → State
leave v n s = record s {
  queues = map (left_queue v n) s.queues;
  plans = without_plans (is_of_change n s) s.plans;
  builds = without_runs (is_of_change n s) s.builds;
}

-- a change at another stage
abbrev pub with_stage : Stage → ℕ → State → State
with_stage g n s = put_change (record (change_of s n) { stage = g }) s

-- what becomes of a known change, and the refusal where the change or the revision is unknown
abbrev pub on_known : State → ℕ → ℕ → (Change → Stepped) → Stepped
on_known s n r f =
    option_map_or (λ k. if nat_lt k.revision r then refused refusal.UnknownRevision else f k) (known_change s n)
    (refused refusal.UnknownChange)

-- the settings have a project of this name
abbrev pub has_project : Settings → List ℕ → Bool
has_project c name = list_any (λ p. same_name p.name name) c.projects

-- the change is known, and passes a test
abbrev pub is_known_and : State → ℕ → (Change → Bool) → Bool
is_known_and s n test = option_map_or test (known_change s n) false

-- a change at a new revision: its approval is dropped, its item gone
abbrev pub revised : Change → State → State
revised k s = put_change k (without_ready k.number (leave verdict.Superseded k.number s))

-- `revision`: the first line that applies
abbrev pub raw_revision : Settings → State → ℕ → List ℕ → ℕ → List ℕ → Stepped
raw_revision c s n name r message =
    if not (has_project c name) then refused refusal.UnknownProject else (
    if is_known_and s n (λ k. not (same_name k.project name)) then refused refusal.ProjectChanged else (
    if is_known_and s n (λ k. nat_le r k.revision || is_landed k) then accepted reply.Stale s else (
    if is_submitting c s n then refused refusal.Submitting else (
    if nat_lt most_needs (length (needs c.base message)) then refused refusal.TooManyNeeds else
    accepted reply.Recorded (revised
    (record { number = n; project = name; revision = r; stage = stage.Open; needs = needs c.base message }) s)))))

-- a change last in the ready list, under the next approval number
abbrev pub made_ready : ℕ → State → State
made_ready n s = record s {
  ready = s.ready ++ record { approval = s.counters.approval + 1; change = n } ∷ [];
  counters = record s.counters { approval = s.counters.approval + 1 };
}

-- whether an approved change stands in a queue now
abbrev pub approval_reply : ℕ → State → Reply
approval_reply n s =
    option_map_or (λ i. reply.Queued i.serial) (find (λ i. i.change == n) (flat_map (λ q. q.items) s.queues))
    reply.Waiting

-- `approved`; the reply is read from the settled state
abbrev pub raw_approved : Settings → State → ℕ → ℕ → Stepped
raw_approved c s n r = on_known s n r (λ k.
    if nat_lt r k.revision || not (is_open k) then accepted reply.Stale s else (
    if is_ready s n || is_queued s n then accepted reply.Already s else
    accepted (approval_reply n (settle c (made_ready n s))) (made_ready n s)))

-- `withdrawn`
abbrev pub raw_withdrawn : Settings → State → ℕ → ℕ → Stepped
raw_withdrawn c s n r = on_known s n r (λ k.
    if nat_lt r k.revision then accepted reply.Stale s else (
    if is_submitting c s n then refused refusal.Submitting else (
    if is_queued s n then accepted reply.Removed (leave verdict.Withdrawn n s) else (
    if is_ready s n then accepted reply.Recorded (without_ready n s) else
    accepted reply.Stale s))))

-- `closed`
abbrev pub raw_closed : Settings → State → ℕ → ℕ → Stepped
raw_closed c s n r = on_known s n r (λ k.
    if nat_lt r k.revision || not (is_open k) then accepted reply.Stale s else (
    if is_submitting c s n then refused refusal.Submitting else
    accepted (if is_queued s n then reply.Removed else reply.Recorded)
    (with_stage stage.Closed n (without_ready n (leave verdict.Closed n s)))))

-- an item last in the landings of its queue, whose window grows
abbrev pub landed_queue : Settings → Item → Queue → Queue
landed_queue c i q = record q {
  window = grow q.window (bounds_of c q).rule;
  landings = q.landings ++ record { serial = i.serial; change = i.change; revision = i.revision } ∷ [];
}

-- what a landing keeps of an item's plan: its jobs
abbrev pub landed_plan : State → ℕ → Plan
landed_plan s n = record { serial = n; jobs = (plan_of s n).jobs; fast = false }

-- the item of an order as the n-th landing of its queue; its jobs stay
abbrev pub with_landing : Settings → ℕ → Order → State → State
with_landing c n o s =
    with_stage stage.Landed o.item.change
    (put_plan (landed_plan s o.item.serial)
    (change_queue o.queue.name (landed_queue c o.item) (leave (verdict.Landed n) o.item.change s)))

-- what becomes of a shown order, and the refusal where none of this number is shown
abbrev pub on_order : Settings → State → ℕ → (Order → Stepped) → Stepped
on_order c s number f = option_map_or f (shown_order c s number) (refused refusal.NoOrder)

-- `landed`
abbrev pub raw_landed : Settings → State → ℕ → Stepped
raw_landed c s number = on_order c s number (λ o.
    let n = length o.queue.landings + 1 in accepted (reply.Landed n) (with_landing c n o s))

-- a queue with a smaller window
abbrev pub shrunk_queue : Settings → Queue → Queue
shrunk_queue c q =
    let bounds = bounds_of c q in record q { window = shrink q.window bounds.floor bounds.rule }

-- `refused`
abbrev pub raw_refused : Settings → State → ℕ → Stepped
raw_refused c s number = on_order c s number (λ o.
    accepted reply.Removed (change_queue o.queue.name (shrunk_queue c) (leave verdict.Refused o.item.change s)))

-- a build started
abbrev pub with_build : Build → State → State
with_build b s = record s { builds = s.builds ++ b ∷ []; counters = record s.counters { build = b.number } }

-- `take`
abbrev pub raw_take : Settings → State → Stepped
raw_take c s = option_map_or (λ b. accepted (reply.Build b) (with_build b s)) (choose c s) (refused refusal.Idle)

-- the build of a number
abbrev pub build_of : State → ℕ → Option Build
build_of s n = find (λ b. b.number == n) s.builds

-- the outcome of a build that ended so
abbrev pub outcome_of_ending : Ending → Outcome
outcome_of_ending ending.Success = outcome.Success
outcome_of_ending ending.Failure = outcome.Failure
outcome_of_ending ending.Lost = outcome.Lost

-- a build that ended so
abbrev pub with_ending : Ending → Build → Build
with_ending e b = record b { outcome = outcome_of_ending e }

-- the same, among all builds
abbrev pub end_build : Ending → ℕ → State → State
end_build e n s = record s { builds = map (λ b. if b.number == n then with_ending e b else b) s.builds }

-- what becomes of a build, and the refusal where there is none of this number
abbrev pub raw_result : State → ℕ → Ending → Stepped
raw_result s n e = option_map_or (λ b.
    if b.live && is_running b.outcome then accepted reply.Noted (end_build e n s) else accepted reply.Stale s)
    (build_of s n) (refused refusal.UnknownBuild)

-- what a delivery does, before settling
abbrev pub raw_step : Settings → State → Delivery → Stepped
raw_step c s (delivery.Revision n name r message) = raw_revision c s n name r message
raw_step c s (delivery.Approved n r) = raw_approved c s n r
raw_step c s (delivery.Withdrawn n r) = raw_withdrawn c s n r
raw_step c s (delivery.Closed n r) = raw_closed c s n r
raw_step c s (delivery.Landed number) = raw_landed c s number
raw_step c s (delivery.Refused number) = raw_refused c s number
raw_step c s (delivery.Take worker) = raw_take c s
raw_step c s (delivery.Result n e) = raw_result s n e

-- a counter gave a number past 10^15
abbrev pub is_exhausted : State → Bool
is_exhausted s = nat_lt last_number (max s.counters.approval (max s.counters.build s.counters.order))

-- what was accepted is settled, unless that takes a number past 10^15
abbrev pub settled_step : Settings → Stepped → Stepped
settled_step c (accepted said s) =
    if is_exhausted (settle c s) then refused refusal.Exhausted else accepted said (settle c s)
settled_step c (refused r) = refused r

-- one delivery
abbrev pub step : Settings → State → Delivery → Stepped
step c s d = settled_step c (raw_step c s d)
