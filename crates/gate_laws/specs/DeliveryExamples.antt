-- Examples of deliveries and their ids.
use Rattle.std.specs.Prelude.{◌≡◌, true, List, [], ◌∷◌, codes}
use Rattle.gate_types.specs.declared.deliveries.Delivery.TheVariants as delivery
use Rattle.gate_types.specs.State.{State, start}
use Rattle.gate_types.specs.Once.{Call, empty, once}
use Rattle.gate_types.specs.Status.{status_text}
use Rattle.gate_laws.specs.Script.{settings, core_alone, lib, app, opened, approved, under, replies_to, after, texts}
use Rattle.gate_laws.specs.Script.{lines, recorded, stale, queued, unknown_change, id_reused, unavailable}

-- 101 approved twice under one id, then 102
abbrev repeated : List Call
repeated = under 1 (opened 101 lib) ∷ under 2 (opened 102 app) ∷ under 3 (approved 101) ∷ under 3 (approved 101) ∷
    under 4 (approved 102) ∷ []

-- a repeat gets the kept reply, and makes no new item
pub record ARepeatGetsTheKeptReply : Type 0 where
  pub replies : texts settings (empty settings) repeated
      ≡ recorded ∷ recorded ∷ queued (codes "1") ∷ queued (codes "1") ∷ queued (codes "2") ∷ []
  pub status : status_text settings (once settings (empty settings) repeated).state ≡ lines (
      codes "queue core window 2 landed 0" ∷
      codes "     1       101    1      - ok      unit=waiting docs=waiting" ∷
      codes "     2       102    1      1 ok      unit=waiting" ∷
      codes "queue web window 2 landed 0" ∷
      codes "end" ∷ [])

-- a spent id serves no other delivery, whatever that would be answered, and goes on serving its own
abbrev pub ASpentIdServesNothingElse : Type 0
ASpentIdServesNothingElse = texts settings (once settings (empty settings) repeated)
    (under 3 (delivery.Approved 101 2) ∷ under 3 (approved 999) ∷ under 3 (approved 101) ∷ [])
    ≡ id_reused ∷ id_reused ∷ queued (codes "1") ∷ []

-- a refused delivery may come again under its id
abbrev pub ARefusalSpendsNoId : Type 0
ARefusalSpendsNoId =
    texts settings (empty settings) (under 1 (approved 101) ∷ under 2 (opened 101 lib) ∷ under 1 (approved 101) ∷ [])
    ≡ unknown_change ∷ recorded ∷ queued (codes "1") ∷ []

-- a call that was answered `unavailable` changed nothing
abbrev pub AnUnavailableCallMayComeAgain : Type 0
AnUnavailableCallMayComeAgain = texts settings (empty settings)
    (record (under 1 (opened 101 lib)) { unavailable = true } ∷ under 1 (opened 101 lib) ∷ [])
    ≡ unavailable ∷ recorded ∷ []

-- 101 and 102 in the queue, then a second revision of 101
abbrev revised_once : State
revised_once = after core_alone (start core_alone)
    (opened 101 lib ∷ opened 102 app ∷ approved 101 ∷ approved 102 ∷ delivery.Revision 101 lib 2 [] ∷ approved 101 ∷ [])

-- a revision takes the item of the earlier one out of its queue, and needs an approval of its own
pub record ARevisionSupersedes : Type 0 where
  pub replies : replies_to core_alone (start core_alone)
      (opened 101 lib ∷ opened 102 app ∷ approved 101 ∷ approved 102 ∷
      delivery.Revision 101 lib 2 [] ∷ approved 101 ∷ [])
      ≡ recorded ∷ recorded ∷ queued (codes "1") ∷ queued (codes "2") ∷ recorded ∷ stale ∷ []
  pub status : status_text core_alone revised_once ≡ lines (
      codes "queue core window 2 landed 0" ∷
      codes "     2       102    1      - ok      unit=waiting" ∷
      codes "end" ∷ [])
  pub approved_anew : replies_to core_alone revised_once (delivery.Approved 101 2 ∷ []) ≡ queued (codes "3") ∷ []
