-- Examples of changes that need others.
use Rattle.std.specs.Prelude.{◌≡◌, ℕ, List, [], ◌∷◌, ◌++◌, map, replicate, codes, decimal, flat_map}
use Rattle.std.specs.List.{range_with_len}
use Rattle.gate_types.specs.declared.deliveries.Delivery.{Delivery}
use Rattle.gate_types.specs.declared.deliveries.Delivery.TheVariants as delivery
use Rattle.gate_types.specs.Needs.{needs}
use Rattle.gate_types.specs.State.{State, start}
use Rattle.gate_types.specs.Status.{status_text}
use Rattle.gate_laws.specs.Script.{settings, with_window, base, lib, app, site, opened, opened_with, opened_needing}
use Rattle.gate_laws.specs.Script.{depends_on, approved, take, passed, failed, replies_to, after, begun, shown_build}
use Rattle.gate_laws.specs.Script.{core_history, lines, recorded, waiting, queued, noted, landed_as, too_many_needs}
use Rattle.gate_laws.specs.Script.{build_1, build_2}

-- 102 needs 101, and is approved first
abbrev needing : List Delivery
needing = opened 101 lib ∷ opened_needing (codes "101") 102 app ∷ approved 102 ∷ approved 101 ∷ []

-- a change waits until the one that it needs is in its queue, and enters behind it
pub record ANeedAdmitsTheWaitingChange : Type 0 where
  pub replies : replies_to settings (start settings) needing ≡ recorded ∷ recorded ∷ waiting ∷ queued (codes "1") ∷ []
  pub status : status_text settings (begun settings needing) ≡ lines (
      codes "queue core window 2 landed 0" ∷
      codes "     1       101    1      - ok      unit=waiting docs=waiting" ∷
      codes "     2       102    1      1 ok      unit=waiting" ∷
      codes "queue web window 2 landed 0" ∷
      codes "end" ∷ [])

-- 201 and 202 need each other, 203 needs itself
abbrev cycle : List Delivery
cycle =
    opened_needing (codes "202") 201 lib ∷ opened_needing (codes "201") 202 lib ∷ opened_needing (codes "203") 203 lib ∷
    approved 201 ∷ approved 202 ∷ approved 203 ∷ []

-- changes that need each other wait for good, and so does one that needs itself
pub record ACycleWaits : Type 0 where
  pub replies : replies_to settings (start settings) cycle
      ≡ recorded ∷ recorded ∷ recorded ∷ waiting ∷ waiting ∷ waiting ∷ []
  pub status : status_text settings (begun settings cycle) ≡ lines (
      codes "queue core window 2 landed 0" ∷
      codes "queue web window 2 landed 0" ∷
      codes "waiting 201 1" ∷
      codes "waiting 202 1" ∷
      codes "waiting 203 1" ∷
      codes "end" ∷ [])

-- 301 of the queue `web` needs 101 of the queue `core`, which has passed
abbrev need_elsewhere : List Delivery
need_elsewhere = opened 101 lib ∷ opened_needing (codes "101") 301 site ∷ approved 301 ∷ approved 101 ∷
    take ∷ take ∷ passed 1 ∷ passed 2 ∷ []

-- a need in another queue must land first
pub record ANeedInAnotherQueueLandsFirst : Type 0 where
  pub replies : replies_to settings (start settings) need_elsewhere
      ≡ recorded ∷ recorded ∷ waiting ∷ queued (codes "1") ∷ build_1 ∷ build_2 ∷ noted ∷ noted ∷ []
  pub before : status_text settings (begun settings need_elsewhere) ≡ lines (
      codes "queue core window 2 landed 0" ∷
      codes "     1       101    1      - ok      unit=success docs=success" ∷
      codes "queue web window 2 landed 0" ∷
      codes "waiting 301 1" ∷
      codes "end" ∷ [])
  pub landed : replies_to settings (begun settings need_elsewhere) (delivery.Landed 1 ∷ []) ≡ landed_as (codes "1") ∷ []
  pub status : status_text settings (after settings (begun settings need_elsewhere) (delivery.Landed 1 ∷ [])) ≡ lines (
      codes "queue core window 3 landed 1" ∷
      codes "queue web window 2 landed 0" ∷
      codes "     2       301    1      - ok      unit=waiting" ∷
      codes "end" ∷ [])

-- 102 needs 101, which has failed while its `docs` still run
abbrev need_failed : State
need_failed = begun (with_window 4)
    (opened 101 lib ∷ opened_needing (codes "101") 102 app ∷ approved 101 ∷ approved 102 ∷
    take ∷ take ∷ take ∷ failed 1 ∷ [])

-- an item whose need fails is blocked, and goes together with it; the window shrinks once
pub record AnItemGoesWithItsNeed : Type 0 where
  pub blocked : status_text (with_window 4) need_failed ≡ lines (
      codes "queue core window 4 landed 0" ∷
      codes "     1       101    1      - failing unit=failure docs=running" ∷
      codes "     2       102    1      - blocked unit=waiting" ∷
      codes "queue web window 2 landed 0" ∷
      codes "end" ∷ [])
  pub earlier_build : shown_build need_failed 3
      ≡ codes "{\"after\":0,\"ahead\":[[101,1]],\"build\":3,\"change\":102,\"job\":\"unit\",\"live\":false,\"outcome\":\"running\",\"queue\":\"core\",\"revision\":1}"
  pub history : core_history (after (with_window 4) need_failed (passed 2 ∷ [])) ≡ lines (
      codes "history core" ∷
      codes "     1      1       101    1 failed          -" ∷
      codes "     2      2       102    1 needs           -" ∷
      codes "end 2" ∷ [])
  pub replies : replies_to (with_window 4) need_failed (passed 2 ∷ approved 102 ∷ []) ≡ noted ∷ waiting ∷ []
  pub status : status_text (with_window 4) (after (with_window 4) need_failed (passed 2 ∷ approved 102 ∷ [])) ≡ lines (
      codes "queue core window 2 landed 0" ∷
      codes "queue web window 2 landed 0" ∷
      codes "waiting 102 1" ∷
      codes "end" ∷ [])

-- 103 needs 102, which needs 101, which is approved last
abbrev chain : List Delivery
chain =
    opened 101 lib ∷ opened_needing (codes "101") 102 app ∷ opened_needing (codes "102") 103 lib ∷
    approved 103 ∷ approved 102 ∷ approved 101 ∷ []

-- each admission looks at the waiting changes anew, from the first one on
pub record AdmissionStartsAnew : Type 0 where
  pub replies : replies_to settings (start settings) chain
      ≡ recorded ∷ recorded ∷ recorded ∷ waiting ∷ waiting ∷ queued (codes "1") ∷ []
  pub status : status_text settings (begun settings chain) ≡ lines (
      codes "queue core window 2 landed 0" ∷
      codes "     1       101    1      - ok      unit=waiting docs=waiting" ∷
      codes "     2       102    1      1 ok      unit=waiting" ∷
      codes "     3       103    1      2 ok      unit=waiting docs=waiting" ∷
      codes "queue web window 2 landed 0" ∷
      codes "end" ∷ [])

-- the lines of a message that count, and those that don't
pub record FootersNameNeeds : Type 0 where
  pub message : needs base (codes "Depends-On: https://forge/c/101\r\ndepends-on:https://forge/c/0102\nDEPENDS-ON:\thttps://forge/c/101 \n Depends-On: https://forge/c/5\nDepends-On: https://forge/c/7")
      ≡ 101 ∷ 7 ∷ []
  pub in_order : needs base (codes
      "Mend it\n\nDepends-On: https://forge/c/7\nDepends-On: https://forge/c/101\nDepends-On: https://forge/c/7\n")
      ≡ 7 ∷ 101 ∷ []
  pub counted : map (needs base) (
      codes "Depends-On: https://forge/c/101" ∷
      codes "depends-on:https://forge/c/101" ∷
      codes "DEPENDS-ON: \t \thttps://forge/c/101" ∷
      codes "Depends-On: https://forge/c/101\r" ∷
      codes "Depends-On: https://forge/c/101 \r\t \n" ∷ [])
      ≡ replicate 5 (101 ∷ [])
  pub longest : needs base (codes "Depends-On: https://forge/c/999999999") ≡ 999999999 ∷ []
  pub ignored : map (needs base) (
      codes "Depends-On: https://forge/c/0101" ∷
      codes "Depends-On: https://forge/c/0" ∷
      codes "Depends-On: https://forge/c/1000000000" ∷
      codes "Depends-On: https://forge/c/" ∷
      codes "Depends-On: https://forge/c/101/" ∷
      codes "Depends-On: https://forge/c/101 102" ∷
      codes "Depends-On: https://forge/c/1\r01" ∷
      codes "Depends-On: https://Forge/c/101" ∷
      codes "Depends-On:\rhttps://forge/c/101" ∷
      codes "Depends-On : https://forge/c/101" ∷
      codes "Depends-On https://forge/c/101" ∷
      codes " Depends-On: https://forge/c/101" ∷
      codes "\tDepends-On: https://forge/c/101" ∷
      codes "Depends-On:" ∷
      codes "" ∷ [])
      ≡ replicate 15 []

-- a footer for each of the changes 1 to n
abbrev footers : ℕ → List ℕ
footers n = flat_map (λ k. depends_on (decimal k) ++ 10 ∷ []) (range_with_len 1 n)

-- 32 different needs are taken, a double more too, but not 33
abbrev pub AtMost32NeedsAreTaken : Type 0
AtMost32NeedsAreTaken =
    replies_to settings (start settings)
    (opened_with (footers 33) 101 lib ∷ opened_with (footers 32 ++ depends_on (codes "7")) 101 lib ∷ [])
    ≡ too_many_needs ∷ recorded ∷ []
