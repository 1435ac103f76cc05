-- The deliveries that take an item out of its queue: each leaves what the laws of the walk ask for.
use Rattle.std.specs.Prelude.{ℕ, true, ◌≡◌, List, ◌∷◌, ◌++◌}
use Rattle.gate_types.specs.declared.records.Change.{Change}
use Rattle.gate_types.specs.declared.records.Verdict.TheVariants as verdict
use Rattle.gate_types.specs.declared.records.Stage.TheVariants as stage
use Rattle.gate_types.specs.Settings.{Settings}
use Rattle.gate_types.specs.State.{Item, Queue, State, change_queue, is_open}
use Rattle.gate_types.specs.Admit.{without_ready}
use Rattle.gate_types.specs.Step.{left_queue, leave, with_stage, revised, landed_queue, with_landing, shrunk_queue}
use Rattle.gate_types.specs.Lawful.{IsSound}
use Rattle.gate_walk.specs.Rescan.{HasLeft, HasLanded}

-- an item of a queue of a sound state
pub record IsIn (c : Settings) (s : State) (q : Queue) (is : List Item) (i : Item) (js : List Item) : Type 0 where
  pub sound : IsSound c s
  pub before : List Queue
  pub after : List Queue
  pub queues : s.queues ≡ before ++ q ∷ after
  pub items : q.items ≡ is ++ i ∷ js

-- it leaves by each of these deliveries
pub record ItemsLeave : Type 0 where
  pub withdrawn : (c : Settings) (s : State) (q : Queue) (is : List Item) (i : Item) (js : List Item) →
      IsIn c s q is i js →
      HasLeft c s (leave verdict.Withdrawn i.change s) q (left_queue verdict.Withdrawn i.change q) i (is ++ js)
  pub closed : (c : Settings) (s : State) (q : Queue) (is : List Item) (i : Item) (js : List Item) →
      IsIn c s q is i js →
      HasLeft c s (with_stage stage.Closed i.change (without_ready i.change (leave verdict.Closed i.change s))) q
      (left_queue verdict.Closed i.change q) i (is ++ js)
  pub superseded : (c : Settings) (s : State) (q : Queue) (is : List Item) (i : Item) (js : List Item) (k : Change) →
      IsIn c s q is i js → k.number ≡ i.change → is_open k ≡ true →
      HasLeft c s (revised k s) q (left_queue verdict.Superseded k.number q) i (is ++ js)
  pub refused : (c : Settings) (s : State) (q : Queue) (is : List Item) (i : Item) (js : List Item) →
      IsIn c s q is i js →
      HasLeft c s (change_queue q.name (shrunk_queue c) (leave verdict.Refused i.change s)) q
      (shrunk_queue c (left_queue verdict.Refused i.change q)) i (is ++ js)
  pub landed : (c : Settings) (s : State) (q : Queue) (is : List Item) (i : Item) (js : List Item) (n : ℕ) →
      IsIn c s q is i js →
      HasLanded c s (with_landing c n (record { queue = q; item = i }) s) q
      (landed_queue c i (left_queue (verdict.Landed n) i.change q)) i (is ++ js)
