-- Examples at the limits of numbers and windows.
use Rattle.std.specs.Prelude.{◌≡◌, ℕ, [], ◌∷◌, codes}
use Rattle.gate_types.specs.declared.deliveries.Delivery.TheVariants as delivery
use Rattle.gate_types.specs.Counters.{Drawn}
use Rattle.gate_types.specs.State.{State}
use Rattle.gate_types.specs.declared.config.WindowRule.{WindowRule}
use Rattle.gate_types.specs.declared.config.Pace.TheVariants as pace
use Rattle.gate_types.specs.Settings.{default_rule}
use Rattle.gate_types.specs.SettingsText.{queue_text}
use Rattle.gate_types.specs.Window.{grow, shrink}
use Rattle.gate_types.specs.Status.{status_text}
use Rattle.gate_laws.specs.Script.{settings, with_window, lib, app, site, opened, opened_needing, approved, take}
use Rattle.gate_laws.specs.Script.{passed, failed, replies_to, after, begun, lines, waiting, already, queued}
use Rattle.gate_laws.specs.Script.{landed_as, idle, exhausted}

-- 10^15
abbrev last : ℕ
last = 1000000000000000

-- a state with these numbers drawn
abbrev with_drawn : Drawn → State → State
with_drawn drawn s = record s { counters = drawn }

-- 101 recorded, and this many orders drawn
abbrev ordered : ℕ → State
ordered n = with_drawn (record { approval = 0; build = 0; order = n })
    (begun settings (opened 101 lib ∷ opened_needing (codes "101") 102 app ∷ []))

-- orders end at 10^15: what would draw one more is refused and changes nothing
pub record OrdersRunOut : Type 0 where
  pub last_one : replies_to settings (ordered 999999999999999) (approved 101 ∷ [])
      ≡ queued (codes "1000000000000000") ∷ []
  pub refused : replies_to settings (ordered last) (approved 101 ∷ approved 102 ∷ []) ≡ exhausted ∷ waiting ∷ []
  pub status : status_text settings (after settings (ordered last) (approved 101 ∷ [])) ≡ lines (
      codes "queue core window 2 landed 0" ∷
      codes "queue web window 2 landed 0" ∷
      codes "end" ∷ [])

-- 301 waits for 101, whose order is shown; this many orders are drawn
abbrev awaited : ℕ → State
awaited n = with_drawn (record { approval = 2; build = 2; order = n }) (begun settings (
    opened 101 lib ∷ opened_needing (codes "101") 301 site ∷ approved 301 ∷ approved 101 ∷
    take ∷ take ∷ passed 1 ∷ passed 2 ∷ []))

-- a landing that would admit a waiting change past the last order is refused too
pub record ALandingThatAdmitsRunsOut : Type 0 where
  pub last_one : replies_to settings (awaited 999999999999999) (delivery.Landed 1 ∷ []) ≡ landed_as (codes "1") ∷ []
  pub refused : replies_to settings (awaited last) (delivery.Landed 1 ∷ approved 301 ∷ []) ≡ exhausted ∷ already ∷ []

-- 102 in the queue, and this many builds drawn
abbrev built : ℕ → State
built n =
    with_drawn (record { approval = 1; build = n; order = 1 }) (begun settings (opened 102 app ∷ approved 102 ∷ []))

-- builds end at 10^15, and approvals too; with nothing to build a take is idle even then
pub record BuildsAndApprovalsRunOut : Type 0 where
  pub last_one : replies_to settings (built 999999999999999) (take ∷ take ∷ [])
      ≡ codes "{\"after\":0,\"ahead\":[],\"build\":1000000000000000,\"change\":102,\"job\":\"unit\",\"queue\":\"core\",\"reply\":\"build\",\"revision\":1}" ∷ idle ∷ []
  pub refused : replies_to settings (built last) (take ∷ []) ≡ exhausted ∷ []
  pub approvals : replies_to settings
      (with_drawn (record { approval = last; build = 0; order = 0 }) (begun settings (opened 101 lib ∷ [])))
      (approved 101 ∷ []) ≡ exhausted ∷ []

-- one more
abbrev grown : ℕ → ℕ
grown w = grow w default_rule

-- half
abbrev halved : ℕ → ℕ → ℕ
halved w floor = shrink w floor default_rule

-- the window at its ends
pub record TheWindowAtItsEnds : Type 0 where
  pub more : (grown 1 ∷ grown 999 ∷ grown 1000 ∷ grown 0 ∷ []) ≡ (2 ∷ 1000 ∷ 1000 ∷ 0 ∷ [])
  pub less : (halved 20 3 ∷ halved 3 1 ∷ halved 5 3 ∷ halved 1 1 ∷ halved 0 3 ∷ []) ≡ (10 ∷ 1 ∷ 3 ∷ 1 ∷ 0 ∷ [])

-- a window that doubles with a landing, and loses 5 with a failure
abbrev doubling : WindowRule
doubling = record { increase = pace.Exponential; increase_by = 2; decrease = pace.Linear; decrease_by = 5 }

-- a window changes by its queue's rule, and the rule is told in the settings' text
pub record AWindowChangesByItsRule : Type 0 where
  pub grown : (grow 20 doubling ∷ grow 600 doubling ∷ grow 0 doubling ∷ []) ≡ (40 ∷ 1000 ∷ 0 ∷ [])
  pub shrunk : (shrink 40 3 doubling ∷ shrink 6 3 doubling ∷ shrink 4 3 doubling ∷ shrink 0 3 doubling ∷ [])
      ≡ (35 ∷ 3 ∷ 3 ∷ 0 ∷ [])
  pub told : queue_text (record { name = codes "core"; window = 20; floor = 3; rule = doubling })
      ≡ codes "{\"decrease\":\"linear\",\"decrease_by\":5,\"floor\":3,\"increase\":\"exponential\",\"increase_by\":2,\"name\":\"core\",\"window\":20}"
  pub untold : queue_text (record { name = codes "core"; window = 20; floor = 3; rule = default_rule })
      ≡ codes "{\"floor\":3,\"name\":\"core\",\"window\":20}"

-- 101, 102 and 103 under a window of 0
abbrev unbounded : State
unbounded = begun (with_window 0)
    (opened 101 lib ∷ opened 102 app ∷ opened 103 lib ∷ approved 101 ∷ approved 102 ∷ approved 103 ∷
    take ∷ take ∷ take ∷ [])

-- a window of 0 sets no bound, and stays 0
pub record AWindowOf0SetsNoBound : Type 0 where
  pub third_item : replies_to (with_window 0) unbounded (take ∷ [])
      ≡ codes "{\"after\":0,\"ahead\":[[101,1],[102,1]],\"build\":4,\"change\":103,\"job\":\"unit\",\"queue\":\"core\",\"reply\":\"build\",\"revision\":1}" ∷ []
  pub failed : status_text (with_window 0)
      (begun (with_window 0) (opened 102 app ∷ approved 102 ∷ take ∷ failed 1 ∷ [])) ≡ lines (
      codes "queue core window 0 landed 0" ∷
      codes "queue web window 2 landed 0" ∷
      codes "end" ∷ [])
