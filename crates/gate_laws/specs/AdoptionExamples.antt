-- Examples of settings that change.
use Rattle.std.specs.Prelude.{ℕ, true, false, ◌≡◌, List, [], ◌∷◌, ◌++◌, map, codes}
use Rattle.gate_types.specs.declared.deliveries.Delivery.{Delivery}
use Rattle.gate_types.specs.declared.deliveries.Delivery.TheVariants as delivery
use Rattle.gate_types.specs.declared.config.WindowRule.{WindowRule}
use Rattle.gate_types.specs.declared.config.Queue.{Queue}
use Rattle.gate_types.specs.Settings.{Settings, default_rule}
use Rattle.gate_types.specs.Events.{Event, called, set, through}
use Rattle.gate_types.specs.Status.{status_text}
use Rattle.gate_types.specs.OrderList.{order_list_text}
use Rattle.gate_types.specs.Gated.{new_gate as first}
use Rattle.gate_laws.specs.FastExamples.{fast_settings}
use Rattle.gate_laws.specs.Script.{base, core, lib, app, site, unit, queue, settings, core_alone, opened, approved}
use Rattle.gate_laws.specs.Script.{take, passed, failed, numbered, lines}

-- the same projects, where `docs` of `lib` votes, under this window of `core`
abbrev docs_vote : ℕ → Settings
docs_vote window = record {
  base = base;
  queues = queue core window ∷ queue (codes "web") 2 ∷ [];
  projects =
      record {
        name = lib;
        queue = core;
        jobs = unit ∷ record { name = codes "docs"; voting = true } ∷ [];
        fail_fast = false;
      } ∷
      record { name = app; queue = core; jobs = unit ∷ []; fail_fast = false } ∷
      record { name = site; queue = codes "web"; jobs = unit ∷ []; fail_fast = false } ∷ [];
}

-- deliveries under ids from this one on
abbrev calls : ℕ → List Delivery → List Event
calls id ds = map called (numbered id ds)

-- 101 is admitted and both its builds are given; then `docs` votes, and its build fails
abbrev docs_failed : List Event
docs_failed =
    calls 1 (opened 101 lib ∷ approved 101 ∷ take ∷ take ∷ []) ++ (set (docs_vote 2) ∷ calls 11 (failed 2 ∷ []))

-- 101 lands, and 103 is admitted, whose `docs` fail too
abbrev both_tested : List Event
both_tested = docs_failed ++ calls 21
    (passed 1 ∷ delivery.Landed 1 ∷ opened 103 lib ∷ approved 103 ∷ take ∷ take ∷ failed 4 ∷ [])

-- the status, and the orders, after events
abbrev status_after : List Event → List ℕ
status_after es = (let g = through (first settings) es in status_text g.settings g.content.state)

abbrev orders_after : List Event → List ℕ
orders_after es = (let g = through (first settings) es in order_list_text g.settings g.content.state)

-- an item keeps the jobs that its project had when it was admitted; one that comes later has the new ones
pub record AnItemKeepsItsJobs : Type 0 where
  pub status : status_after docs_failed ≡ lines (
      codes "queue core window 2 landed 0" ∷
      codes "     1       101    1      - ok      unit=running docs=failure" ∷
      codes "queue web window 2 landed 0" ∷
      codes "end" ∷ [])
  pub orders : orders_after (docs_failed ++ calls 21 (passed 1 ∷ []))
      ≡ codes "[{\"change\":101,\"order\":1,\"project\":\"lib\",\"queue\":\"core\",\"revision\":1}]"
  pub later : status_after both_tested ≡ lines (
      codes "queue core window 3 landed 1" ∷
      codes "     2       103    1      - failing unit=running docs=failure" ∷
      codes "queue web window 2 landed 0" ∷
      codes "end" ∷ [])

-- a queue whose window is another in the settings takes it; settings without a queue aren't adopted
pub record AWindowIsAdopted : Type 0 where
  pub wider : status_after (both_tested ++ (set (docs_vote 5) ∷ [])) ≡ lines (
      codes "queue core window 5 landed 1" ∷
      codes "     2       103    1      - failing unit=running docs=failure" ∷
      codes "queue web window 2 landed 0" ∷
      codes "end" ∷ [])
  pub back : status_after (both_tested ++ (set (docs_vote 5) ∷ set settings ∷ [])) ≡ lines (
      codes "queue core window 2 landed 1" ∷
      codes "     2       103    1      - failing unit=running docs=failure" ∷
      codes "queue web window 2 landed 0" ∷
      codes "end" ∷ [])
  pub refused : status_after (both_tested ++ (set core_alone ∷ [])) ≡ lines (
      codes "queue core window 3 landed 1" ∷
      codes "     2       103    1      - failing unit=running docs=failure" ∷
      codes "queue web window 2 landed 0" ∷
      codes "end" ∷ [])

-- ---- a rule that is another

-- the settings of the start, but that a landing in `core` opens its window by 3
abbrev by_three : Settings
by_three =
    let rule : WindowRule = record default_rule { increase_by = 3 } in
    let wider : Queue = record (queue core 2) { rule = rule } in
    record settings { queues = wider ∷ queue (codes "web") 2 ∷ [] }

-- 101 lands, and then the rule is another
abbrev ruled_anew : List Event
ruled_anew = calls 1
    (opened 101 lib ∷ approved 101 ∷ take ∷ take ∷ passed 1 ∷ passed 2 ∷ delivery.Landed 1 ∷ []) ++ (set by_three ∷ [])

-- a queue whose rule alone is another keeps its window, and the next landing opens it by the new rule
pub record ARuleIsAdopted : Type 0 where
  pub kept : status_after ruled_anew ≡ lines (
      codes "queue core window 3 landed 1" ∷
      codes "queue web window 2 landed 0" ∷
      codes "end" ∷ [])
  pub opened_by_it : status_after
      (ruled_anew ++ calls 11 (
      opened 103 lib ∷ approved 103 ∷ take ∷ take ∷ passed 3 ∷ passed 4 ∷ delivery.Landed 2 ∷ [])) ≡ lines (
      codes "queue core window 6 landed 2" ∷
      codes "queue web window 2 landed 0" ∷
      codes "end" ∷ [])

-- ---- a project that fails fast from then on

-- 102 in front of 101, whose `docs` runs still when its `unit` fails; in between the settings are others
abbrev status_between : Settings → Settings → List ℕ
status_between before then = (let g = through (first before)
    (calls 1 (opened 101 lib ∷ opened 102 app ∷ approved 102 ∷ approved 101 ∷ take ∷ take ∷ take ∷ []) ++
    (set then ∷ calls 11 (failed 2 ∷ []))) in status_text g.settings g.content.state)

-- an item fails fast if its project did when it was admitted
pub record AnItemKeepsFailFast : Type 0 where
  pub slow : status_between settings fast_settings ≡ lines (
      codes "queue core window 2 landed 0" ∷
      codes "     1       102    1      - ok      unit=running" ∷
      codes "     2       101    1      1 failing unit=failure docs=running" ∷
      codes "queue web window 2 landed 0" ∷
      codes "end" ∷ [])
  pub fast : status_between fast_settings settings ≡ lines (
      codes "queue core window 2 landed 0" ∷
      codes "     1       102    1      - ok      unit=running" ∷
      codes "     2       101    1      1 failing unit=failure docs=skipped" ∷
      codes "queue web window 2 landed 0" ∷
      codes "end" ∷ [])
