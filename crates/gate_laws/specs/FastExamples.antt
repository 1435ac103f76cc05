-- Examples of a project that is to fail fast: `lib`, of 101. 102 is of `app`, which isn't.
use Rattle.std.specs.Prelude.{◌≡◌, true, false, List, [], ◌∷◌, codes}
use Rattle.gate_types.specs.declared.deliveries.Delivery.{Delivery}
use Rattle.gate_types.specs.Settings.{Settings}
use Rattle.gate_types.specs.SettingsText.{project_text}
use Rattle.gate_types.specs.State.{State}
use Rattle.gate_types.specs.Status.{status_text}
use Rattle.gate_laws.specs.Script.{base, core, lib, app, site, unit, docs, queue, opened, approved, take, passed}
use Rattle.gate_laws.specs.Script.{failed, replies_to, after, begun, core_history, lines, stale, noted, build_1}
use Rattle.gate_laws.specs.Script.{build_2, build_3, build_4}

-- the settings of the other examples, but that `lib` is to fail fast
abbrev pub fast_settings : Settings
fast_settings = record {
  base = base;
  queues = queue core 2 ∷ queue (codes "web") 2 ∷ [];
  projects =
      record { name = lib; queue = core; jobs = unit ∷ docs ∷ []; fail_fast = true } ∷
      record { name = app; queue = core; jobs = unit ∷ []; fail_fast = false } ∷
      record { name = site; queue = codes "web"; jobs = unit ∷ []; fail_fast = false } ∷ [];
}

-- 101 in front of 102
abbrev pub fast_first : State
fast_first = begun fast_settings (opened 101 lib ∷ opened 102 app ∷ approved 101 ∷ approved 102 ∷ [])

-- and behind it
abbrev pub fast_second : State
fast_second = begun fast_settings (opened 101 lib ∷ opened 102 app ∷ approved 102 ∷ approved 101 ∷ [])

-- the settings' text tells it where it is so
pub record FailFastIsTold : Type 0 where
  pub told : project_text (record { name = lib; queue = core; jobs = unit ∷ []; fail_fast = true })
      ≡ codes "{\"fail_fast\":true,\"jobs\":[{\"name\":\"unit\",\"voting\":true}],\"name\":\"lib\",\"queue\":\"core\"}"
  pub untold : project_text (record { name = app; queue = core; jobs = unit ∷ []; fail_fast = false })
      ≡ codes "{\"jobs\":[{\"name\":\"unit\",\"voting\":true}],\"name\":\"app\",\"queue\":\"core\"}"

-- a voting job of the first item fails while the other one runs: it goes at once
pub record AFastFailureGoesAtOnce : Type 0 where
  pub replies : replies_to fast_settings fast_first
      (take ∷ take ∷ take ∷ failed 1 ∷ passed 2 ∷ passed 3 ∷ take ∷ [])
      ≡ build_1 ∷ build_2 ∷ build_3 ∷ noted ∷ stale ∷ stale ∷ build_4 ∷ []
  pub history : core_history (after fast_settings fast_first (take ∷ take ∷ take ∷ failed 1 ∷ [])) ≡ lines (
      codes "history core" ∷
      codes "     1      1       101    1 failed          -" ∷
      codes "end 1" ∷ [])
  pub status : status_text fast_settings (after fast_settings fast_first (take ∷ take ∷ take ∷ failed 1 ∷ [])) ≡ lines (
      codes "queue core window 1 landed 0" ∷
      codes "     2       102    1      - ok      unit=waiting" ∷
      codes "queue web window 2 landed 0" ∷
      codes "end" ∷ [])

-- the second item's voting job fails
abbrev second_fails : List Delivery
second_fails = take ∷ take ∷ take ∷ failed 2 ∷ []

-- a voting job of an item behind another fails: its other job is skipped, until what is before it fails too
pub record AFastFailureBehindAnItemSkips : Type 0 where
  pub replies : replies_to fast_settings fast_second
      (take ∷ take ∷ take ∷ failed 2 ∷ passed 3 ∷ failed 1 ∷ take ∷ [])
      ≡ codes "{\"after\":0,\"ahead\":[],\"build\":1,\"change\":102,\"job\":\"unit\",\"queue\":\"core\",\"reply\":\"build\",\"revision\":1}" ∷
      codes "{\"after\":0,\"ahead\":[[102,1]],\"build\":2,\"change\":101,\"job\":\"unit\",\"queue\":\"core\",\"reply\":\"build\",\"revision\":1}" ∷
      codes "{\"after\":0,\"ahead\":[[102,1]],\"build\":3,\"change\":101,\"job\":\"docs\",\"queue\":\"core\",\"reply\":\"build\",\"revision\":1}" ∷
      noted ∷ stale ∷ noted ∷
      codes "{\"after\":0,\"ahead\":[],\"build\":4,\"change\":101,\"job\":\"unit\",\"queue\":\"core\",\"reply\":\"build\",\"revision\":1}" ∷ []
  pub skips : status_text fast_settings (after fast_settings fast_second second_fails) ≡ lines (
      codes "queue core window 2 landed 0" ∷
      codes "     1       102    1      - ok      unit=running" ∷
      codes "     2       101    1      1 failing unit=failure docs=skipped" ∷
      codes "queue web window 2 landed 0" ∷
      codes "end" ∷ [])
  pub anew : status_text fast_settings
      (after fast_settings fast_second (take ∷ take ∷ take ∷ failed 2 ∷ passed 3 ∷ failed 1 ∷ [])) ≡ lines (
      codes "queue core window 1 landed 0" ∷
      codes "     2       101    1      - ok      unit=waiting docs=waiting" ∷
      codes "queue web window 2 landed 0" ∷
      codes "end" ∷ [])

-- a job that doesn't vote fails first: nothing is skipped
pub record AJobThatDoesntVoteSkipsNothing : Type 0 where
  pub replies : replies_to fast_settings fast_first (take ∷ take ∷ take ∷ failed 2 ∷ passed 1 ∷ passed 3 ∷ [])
      ≡ build_1 ∷ build_2 ∷ build_3 ∷ noted ∷ noted ∷ noted ∷ []
  pub status : status_text fast_settings (after fast_settings fast_first (take ∷ take ∷ take ∷ failed 2 ∷ [])) ≡ lines (
      codes "queue core window 2 landed 0" ∷
      codes "     1       101    1      - ok      unit=running docs=failure" ∷
      codes "     2       102    1      1 ok      unit=running" ∷
      codes "queue web window 2 landed 0" ∷
      codes "end" ∷ [])
