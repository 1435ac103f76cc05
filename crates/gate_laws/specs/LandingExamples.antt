-- Examples of orders, landings and the window.
use Rattle.std.specs.Prelude.{◌≡◌, ℕ, List, [], ◌∷◌, codes}
use Rattle.gate_types.specs.declared.deliveries.Delivery.{Delivery}
use Rattle.gate_types.specs.declared.deliveries.Delivery.TheVariants as delivery
use Rattle.gate_types.specs.State.{State}
use Rattle.gate_types.specs.Status.{status_text}
use Rattle.gate_types.specs.OrderList.{order_list_text}
use Rattle.gate_laws.specs.Script.{settings, with_window, lib, app, site, opened, approved, withdrawn, take, passed}
use Rattle.gate_laws.specs.Script.{failed, under, at, replies_to, after, begun, texts, core_history, lines, recorded}
use Rattle.gate_laws.specs.Script.{stale, removed, noted, landed_as, submitting, no_order, build_1, build_2, build_3}
use Rattle.gate_laws.specs.BuildExamples.{three, two_queued}

-- 101 has failed while its `docs` still run, and 102 behind it has passed without it
abbrev second_passed : State
second_passed = after settings three (take ∷ take ∷ take ∷ failed 1 ∷ take ∷ passed 4 ∷ [])

-- an item behind a failing one may land before it; the failing one leaves once its last job has ended
pub record AnItemLandsBeforeAFailingOne : Type 0 where
  pub orders : order_list_text settings second_passed
      ≡ codes "[{\"change\":102,\"order\":2,\"project\":\"app\",\"queue\":\"core\",\"revision\":1}]"
  pub replies : replies_to settings second_passed (delivery.Landed 2 ∷ passed 2 ∷ [])
      ≡ landed_as (codes "1") ∷ noted ∷ []
  pub landed : status_text settings (after settings second_passed (delivery.Landed 2 ∷ [])) ≡ lines (
      codes "queue core window 3 landed 1" ∷
      codes "     1       101    1      - failing unit=failure docs=running" ∷
      codes "     3       103    1      - ok      unit=waiting docs=waiting" ∷
      codes "queue web window 2 landed 0" ∷
      codes "end" ∷ [])
  pub history : core_history (after settings second_passed (delivery.Landed 2 ∷ passed 2 ∷ [])) ≡ lines (
      codes "history core" ∷
      codes "     1      2       102    1 landed          1" ∷
      codes "     2      1       101    1 failed          -" ∷
      codes "end 2" ∷ [])
  pub status : status_text settings (after settings second_passed (delivery.Landed 2 ∷ passed 2 ∷ [])) ≡ lines (
      codes "queue core window 1 landed 1" ∷
      codes "     3       103    1      - ok      unit=waiting docs=waiting" ∷
      codes "queue web window 2 landed 0" ∷
      codes "end" ∷ [])

-- 101 in the queue, with both its builds running
abbrev running : State
running = begun settings (opened 101 lib ∷ approved 101 ∷ take ∷ take ∷ [])

-- the order of 101
abbrev order_of_101 : List ℕ
order_of_101 = codes "[{\"change\":101,\"order\":1,\"project\":\"lib\",\"queue\":\"core\",\"revision\":1}]"

-- a job that doesn't vote is waited for, and its failure decides nothing
pub record AJobThatDoesntVoteDecidesNothing : Type 0 where
  pub waits_for_the_vote : order_list_text settings (after settings running (failed 2 ∷ [])) ≡ codes "[]"
  pub waits_for_the_other : order_list_text settings (after settings running (passed 1 ∷ [])) ≡ codes "[]"
  pub orders : order_list_text settings (after settings running (failed 2 ∷ passed 1 ∷ [])) ≡ order_of_101
  pub replies : replies_to settings running (failed 2 ∷ passed 1 ∷ delivery.Landed 1 ∷ delivery.Landed 1 ∷ [])
      ≡ noted ∷ noted ∷ landed_as (codes "1") ∷ no_order ∷ []

-- 101 lands while 102 behind it is tested; then 102
abbrev both_land : List Delivery
both_land = take ∷ take ∷ take ∷ passed 1 ∷ passed 2 ∷ delivery.Landed 1 ∷ passed 3 ∷ delivery.Landed 2 ∷ []

-- a landing keeps the builds behind it
pub record ALandingKeepsTheBuildsBehindIt : Type 0 where
  pub replies : replies_to settings two_queued both_land
      ≡ build_1 ∷ build_2 ∷ build_3 ∷ noted ∷ noted ∷ landed_as (codes "1") ∷ noted ∷ landed_as (codes "2") ∷ []
  pub orders : order_list_text settings
      (after settings two_queued (take ∷ take ∷ take ∷ passed 1 ∷ passed 2 ∷ delivery.Landed 1 ∷ passed 3 ∷ []))
      ≡ codes "[{\"change\":102,\"order\":2,\"project\":\"app\",\"queue\":\"core\",\"revision\":1}]"
  pub status : status_text settings (after settings two_queued both_land) ≡ lines (
      codes "queue core window 4 landed 2" ∷
      codes "queue web window 2 landed 0" ∷
      codes "end" ∷ [])

-- 101 has passed, and its order is shown
abbrev order_shown : State
order_shown = after settings running (passed 1 ∷ passed 2 ∷ [])

-- a change whose order is shown can't be withdrawn or revised until the forge has answered; the refused ids serve
-- again then
pub record AShownOrderIsLeftAlone : Type 0 where
  pub orders : order_list_text settings order_shown ≡ order_of_101
  pub replies : texts settings (at order_shown)
      (under 1 (withdrawn 101) ∷ under 2 (delivery.Revision 101 lib 2 []) ∷ under 3 (delivery.Refused 1) ∷
      under 2 (delivery.Revision 101 lib 2 []) ∷ under 1 (withdrawn 101) ∷ [])
      ≡ submitting ∷ submitting ∷ removed ∷ recorded ∷ stale ∷ []
  pub status : status_text settings (after settings order_shown (delivery.Refused 1 ∷ [])) ≡ lines (
      codes "queue core window 1 landed 0" ∷
      codes "queue web window 2 landed 0" ∷
      codes "end" ∷ [])

-- 102 has passed, and 103 and 104 behind it have failed
abbrev two_failed_behind : State
two_failed_behind = begun (with_window 6) (
    opened 102 app ∷ opened 103 app ∷ opened 104 app ∷ approved 102 ∷ approved 103 ∷ approved 104 ∷
    take ∷ take ∷ take ∷ failed 2 ∷ take ∷ failed 4 ∷ passed 1 ∷ [])

-- one landing makes the window 7 of 6, then the items that it lets go make it 3 and 1
pub record TheWindowGrowsBeforeItShrinks : Type 0 where
  pub before : status_text (with_window 6) two_failed_behind ≡ lines (
      codes "queue core window 6 landed 0" ∷
      codes "     1       102    1      - ok      unit=success" ∷
      codes "     2       103    1      1 failing unit=failure" ∷
      codes "     3       104    1      1 failing unit=failure" ∷
      codes "queue web window 2 landed 0" ∷
      codes "end" ∷ [])
  pub replies : replies_to (with_window 6) two_failed_behind (delivery.Landed 1 ∷ []) ≡ landed_as (codes "1") ∷ []
  pub status : status_text (with_window 6) (after (with_window 6) two_failed_behind (delivery.Landed 1 ∷ [])) ≡ lines (
      codes "queue core window 1 landed 1" ∷
      codes "queue web window 2 landed 0" ∷
      codes "end" ∷ [])
  pub history : core_history (after (with_window 6) two_failed_behind (delivery.Landed 1 ∷ [])) ≡ lines (
      codes "history core" ∷
      codes "     1      1       102    1 landed          1" ∷
      codes "     2      2       103    1 failed          -" ∷
      codes "     3      3       104    1 failed          -" ∷
      codes "end 3" ∷ [])

-- each queue shows its own order
abbrev pub EachQueueShowsItsOrder : Type 0
EachQueueShowsItsOrder = order_list_text settings (begun settings
    (opened 301 site ∷ opened 102 app ∷ approved 301 ∷ approved 102 ∷ take ∷ take ∷ passed 1 ∷ passed 2 ∷ []))
    ≡ codes "[{\"change\":102,\"order\":2,\"project\":\"app\",\"queue\":\"core\",\"revision\":1},{\"change\":301,\"order\":1,\"project\":\"site\",\"queue\":\"web\",\"revision\":1}]"
