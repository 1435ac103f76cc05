-- Sweep: which items go, and what they leave behind.
use Rattle.std.specs.Prelude.{ℕ, Bool, ◌&&◌, not, ◌==◌, if◌then◌else◌, List, [], ◌∷◌, ◌++◌, map, filter, fold, length}
use Rattle.std.specs.Prelude.{Option, Some, None, is_some, option_map, flat_map, filter_map}
use Rattle.std.specs.List.{list_any}
use Rattle.gate_types.specs.Settings.{Settings}
use Rattle.gate_types.specs.declared.records.Verdict.{Verdict}
use Rattle.gate_types.specs.declared.records.Build.{Build}
use Rattle.gate_types.specs.declared.records.Plan.{Plan}
use Rattle.gate_types.specs.declared.records.Report.{Report}
use Rattle.gate_types.specs.declared.records.Verdict.TheVariants as verdict
use Rattle.gate_types.specs.State.{Item, Queue, State}
use Rattle.gate_types.specs.Line.{Place}
use Rattle.gate_types.specs.Slot.{is_running, are_met_by, is_blocked}
use Rattle.gate_types.specs.Standing.{is_failing, are_finished, places}
use Rattle.gate_types.specs.Rebase.{with_live}
use Rattle.gate_types.specs.Window.{Bounds, shrink, bounds_of}

-- failing but not blocked, no non-failing item before it, and nothing left to wait for
abbrev pub fails_for_good : List Build → Place → Bool
fails_for_good builds p = is_failing builds p && not (is_blocked p) && length p.ahead == 0 && are_finished builds p

-- an item goes if a need has neither landed nor is an item before it that stays, or if it has failed
abbrev pub verdict_of : List Build → List Item → Place → Option Verdict
verdict_of builds staying p =
    if not (are_met_by staying p.needs) then Some verdict.Needs else (
    if fails_for_good builds p then Some verdict.Failed else None)

-- an item, and why it goes, if it goes
pub record Judged : Type 0 where
  pub item : Item
  pub verdict : Option Verdict

-- the verdict on an item, by the items before it that stay
abbrev pub judge : List Build → List Item → Place → Judged
judge builds staying p = record { item = p.item; verdict = verdict_of builds staying p }

-- the items that stay, up to and with this one
abbrev pub next_staying : List Item → Judged → List Item
next_staying staying j = if is_some j.verdict then staying else staying ++ j.item ∷ []

-- the verdicts, front to back
abbrev pub judged_after : List Build → List Item → List Place → List Judged
judged_after builds staying [] = []
judged_after builds staying (p ∷ ps) =
    judge builds staying p ∷ judged_after builds (next_staying staying (judge builds staying p)) ps

-- the verdicts on the items of a queue, all by the same state
abbrev pub judged : Settings → State → Queue → List Judged
judged c s q = judged_after s.builds [] (places c s q)

-- what is kept of an item that leaves
abbrev pub report_of : Verdict → Item → Report
report_of v i = record { serial = i.serial; change = i.change; revision = i.revision; verdict = v }

-- the report on an item, if it goes
abbrev pub report_on : Judged → Option Report
report_on j = option_map (λ v. report_of v j.item) j.verdict

-- each `failed` shrinks the window
abbrev pub next_window : Bounds → ℕ → Judged → ℕ
next_window bounds w j = elim j.verdict [ Some verdict.Failed ↦ shrink w bounds.floor bounds.rule | _ ↦ w ]

-- a queue without the items that go, each with a report
abbrev pub swept_queue : Bounds → List Judged → Queue → Queue
swept_queue bounds js q = record q {
  window = fold (next_window bounds) q.window js;
  items = map (λ j. j.item) (filter (λ j. not (is_some j.verdict)) js);
  reports = q.reports ++ filter_map (λ j. option_map (λ v. report_of v j.item) j.verdict) js;
}

-- the running builds of items that leave stop being live
abbrev pub without_runs : (ℕ → Bool) → List Build → List Build
without_runs leaves builds = map (λ b. with_live (b.live && not (is_running b.outcome && leaves b.serial)) b) builds

-- the plans of items that leave go with them
abbrev pub without_plans : (ℕ → Bool) → List Plan → List Plan
without_plans leaves plans = filter (λ p. not (leaves p.serial)) plans

-- whether the item of a serial goes
abbrev pub goes : List Judged → ℕ → Bool
goes js serial = list_any (λ j. is_some j.verdict && j.item.serial == serial) js

-- all items that go leave, in all queues, all by the same state
abbrev pub sweep : Settings → State → State
sweep c s = record s {
  queues = map (λ q. swept_queue (bounds_of c q) (judged c s q) q) s.queues;
  plans = without_plans (goes (flat_map (judged c s) s.queues)) s.plans;
  builds = without_runs (goes (flat_map (judged c s) s.queues)) s.builds;
}
