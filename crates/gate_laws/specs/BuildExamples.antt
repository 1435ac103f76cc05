-- Examples of builds: which are given out, and what their results do. 101 and 103 are of `lib`, 102 of `app`.
use Rattle.std.specs.Prelude.{◌≡◌, ℕ, List, [], ◌∷◌, codes}
use Rattle.gate_types.specs.declared.deliveries.Delivery.{Delivery}
use Rattle.gate_types.specs.State.{State}
use Rattle.gate_types.specs.Status.{status_text}
use Rattle.gate_laws.specs.Script.{settings, lib, app, opened, approved, withdrawn, take, passed, failed, lost}
use Rattle.gate_laws.specs.Script.{replies_to, after, begun, shown_build, core_history, lines, stale, removed, noted}
use Rattle.gate_laws.specs.Script.{idle, build_1, build_2, build_3, build_4}

-- 101, 102 and 103 in the queue
abbrev pub three : State
three = begun settings
    (opened 101 lib ∷ opened 102 app ∷ opened 103 lib ∷ approved 101 ∷ approved 102 ∷ approved 103 ∷ [])

-- 101 and 102 in the queue
abbrev pub two_queued : State
two_queued = begun settings (opened 101 lib ∷ opened 102 app ∷ approved 101 ∷ approved 102 ∷ [])

-- behind a window of 2, builds are given for the jobs of two items, front to back; the third item waits
abbrev pub BuildsAreGivenFrontToBack : Type 0
BuildsAreGivenFrontToBack =
    replies_to settings three (take ∷ take ∷ take ∷ take ∷ []) ≡ build_1 ∷ build_2 ∷ build_3 ∷ idle ∷ []

-- the first item fails while the second is tested behind it; the old build's result comes late
abbrev first_fails : List Delivery
first_fails = take ∷ take ∷ take ∷ failed 1 ∷ take ∷ passed 3 ∷ []

-- the item behind a failing one is built again without it, and its earlier build decides nothing
pub record AFailureResetsTheItemsBehindIt : Type 0 where
  pub replies : replies_to settings three first_fails ≡ build_1 ∷ build_2 ∷ build_3 ∷ noted ∷ build_4 ∷ stale ∷ []
  pub earlier_build : shown_build (after settings three first_fails) 3
      ≡ codes "{\"after\":0,\"ahead\":[[101,1]],\"build\":3,\"change\":102,\"job\":\"unit\",\"live\":false,\"outcome\":\"running\",\"queue\":\"core\",\"revision\":1}"

-- the second item fails, then the first is withdrawn
abbrev middle_fails : List Delivery
middle_fails = take ∷ take ∷ take ∷ failed 3 ∷ withdrawn 101 ∷ take ∷ passed 1 ∷ []

-- an item that fails behind another stays until that one is decided, and starts anew where that one goes
pub record AFailureBehindAnItemStays : Type 0 where
  pub replies : replies_to settings two_queued middle_fails
      ≡ build_1 ∷ build_2 ∷ build_3 ∷ noted ∷ removed ∷ build_4 ∷ stale ∷ []
  pub failing : status_text settings (after settings two_queued (take ∷ take ∷ take ∷ failed 3 ∷ [])) ≡ lines (
      codes "queue core window 2 landed 0" ∷
      codes "     1       101    1      - ok      unit=running docs=running" ∷
      codes "     2       102    1      1 failing unit=failure" ∷
      codes "queue web window 2 landed 0" ∷
      codes "end" ∷ [])
  pub anew : status_text settings (after settings two_queued middle_fails) ≡ lines (
      codes "queue core window 2 landed 0" ∷
      codes "     2       102    1      - ok      unit=running" ∷
      codes "queue web window 2 landed 0" ∷
      codes "end" ∷ [])

-- 102 alone in the queue
abbrev pub one : State
one = begun settings (opened 102 app ∷ approved 102 ∷ [])

-- its builds under the numbers 1, 2 and 3
abbrev tries : List (List ℕ)
tries =
    codes "{\"after\":0,\"ahead\":[],\"build\":1,\"change\":102,\"job\":\"unit\",\"queue\":\"core\",\"reply\":\"build\",\"revision\":1}" ∷ noted ∷
    codes "{\"after\":0,\"ahead\":[],\"build\":2,\"change\":102,\"job\":\"unit\",\"queue\":\"core\",\"reply\":\"build\",\"revision\":1}" ∷ noted ∷
    codes "{\"after\":0,\"ahead\":[],\"build\":3,\"change\":102,\"job\":\"unit\",\"queue\":\"core\",\"reply\":\"build\",\"revision\":1}" ∷ noted ∷ []

-- a job whose build is lost is tried three times; then it has failed
pub record ALostBuildIsTriedThreeTimes : Type 0 where
  pub replies : replies_to settings one (take ∷ lost 1 ∷ take ∷ lost 2 ∷ take ∷ lost 3 ∷ []) ≡ tries
  pub history : core_history (after settings one (take ∷ lost 1 ∷ take ∷ lost 2 ∷ take ∷ lost 3 ∷ [])) ≡ lines (
      codes "history core" ∷
      codes "     1      1       102    1 failed          -" ∷
      codes "end 1" ∷ [])
  pub status : status_text settings (after settings one (take ∷ lost 1 ∷ take ∷ lost 2 ∷ take ∷ lost 3 ∷ [])) ≡ lines (
      codes "queue core window 1 landed 0" ∷
      codes "queue web window 2 landed 0" ∷
      codes "end" ∷ [])

-- two losses behind 101, which fails, and one without it
abbrev lost_on_two_lines : List Delivery
lost_on_two_lines = take ∷ take ∷ take ∷ lost 3 ∷ take ∷ lost 4 ∷ failed 1 ∷ take ∷ lost 5 ∷ take ∷ []

-- losses count only where the builds ran on the same
pub record LossesOnTwoLinesArentAdded : Type 0 where
  pub replies : replies_to settings two_queued lost_on_two_lines ≡
      build_1 ∷ build_2 ∷ build_3 ∷ noted ∷
      codes "{\"after\":0,\"ahead\":[[101,1]],\"build\":4,\"change\":102,\"job\":\"unit\",\"queue\":\"core\",\"reply\":\"build\",\"revision\":1}" ∷ noted ∷
      noted ∷
      codes "{\"after\":0,\"ahead\":[],\"build\":5,\"change\":102,\"job\":\"unit\",\"queue\":\"core\",\"reply\":\"build\",\"revision\":1}" ∷ noted ∷
      codes "{\"after\":0,\"ahead\":[],\"build\":6,\"change\":102,\"job\":\"unit\",\"queue\":\"core\",\"reply\":\"build\",\"revision\":1}" ∷ []
  pub history : core_history (after settings two_queued lost_on_two_lines)
      ≡ lines (codes "history core" ∷ codes "end 0" ∷ [])
