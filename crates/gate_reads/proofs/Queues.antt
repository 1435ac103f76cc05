-- The queues of a state, one after another, by the names of the settings.
use Rattle.std.proofs.Common.{◌≡◌, ℕ, zero, suc, ◌+◌, ◌<◌, Bool, true, Option, Some, None, List, [], ◌∷◌, ◌++◌, map}
use Rattle.std.proofs.Common.{drop, length, get_or, refl, sym, ap, ◌∙◌, inl, inr, arith, true≢false}
use Rattle.std.specs.Prelude.{find, slice_get, option_map}
use Rattle.std.specs.List.{flat_map}
use Rattle.std.proofs.lemmas.List.Concat.{flat_map-cons}
use Rattle.gate_types.specs.declared.config.Queue.{Queue as QueueSetting}
use Rattle.gate_types.specs.declared.records.Build.{Build}
use Rattle.gate_types.specs.Names.{same_name}
use Rattle.gate_types.specs.Settings.{Settings, are_sound}
use Rattle.gate_types.specs.State.{Queue, State}
use Rattle.gate_types.specs.Choice.{choices, choose}
use Rattle.gate_types.specs.Lawful.{IsSound}
use Rattle.gate_types.specs.Rising.{In}
use Rattle.gate_laws.proofs.Members.{found, not_found}
use Rattle.gate_laws.proofs.Alone.{name_alone, same_name_of}
use Rattle.gate_book_trait.specs.Reads.{queue_named}
use Rattle.gate_reads.specs.NextBuild.{under_number}
use Rattle.gate_reads.proofs.Trying.{first_some, first_none}

-- a queue is the one of its name
pub named_itself : (c : Settings) (s : State) → are_sound c ≡ true → IsSound c s → (q : Queue) → In q s.queues →
    queue_named s q.name ≡ Some q
named_itself c s a h q m = by_found (queue_named s q.name) refl
  where
    is_it : Queue → Bool
    is_it r = same_name r.name q.name

    by_found : (o : Option Queue) → find is_it s.queues ≡ o → o ≡ Some q
    by_found None e =
        absurd (true≢false (sym (same_name_of q.name q.name refl) ∙ not_found is_it s.queues e q m))
    by_found (Some r) e =
        let there = found is_it s.queues r e in
        ap Some (name_alone c s a h r q there.0 m there.1)

-- ---- the queue at a place

abbrev pub names : List Queue → List (List ℕ)
names qs = map (λ q. q.name) qs

abbrev set_names : List QueueSetting → List (List ℕ)
set_names rs = map (λ r. r.name) rs

pub record QueueAt (qs : List Queue) (k : ℕ) (name : List ℕ) : Type 0 where
  pub queue : Queue
  pub here : drop k qs ≡ queue ∷ drop (suc k) qs
  pub there : In queue qs
  pub name_is : queue.name ≡ name

no_queue : (r : QueueSetting) (rs : List QueueSetting) → names [] ≡ set_names (r ∷ rs) → ⊥
no_queue r rs e = let none : 0 ≡ suc (length (set_names rs)) = ap (λ (ns : List (List ℕ)). length ns) e in
    omega (arith, none)

queue_at : (qs : List Queue) (rs : List QueueSetting) (k : ℕ) (r : QueueSetting) → names qs ≡ set_names rs →
    k < length rs → r ≡ get_or rs k r → QueueAt qs k r.name
queue_at qs [] k r e l i = absurd (omega (arith, l))
queue_at [] (x ∷ rs) k r e l i = absurd (no_queue x rs e)
queue_at (q ∷ qs) (x ∷ rs) zero r e l i = record {
  queue = q;
  here = refl;
  there = inl refl;
  name_is = ap (λ (ns : List (List ℕ)). get_or ns 0 q.name) e ∙ ap (λ (y : QueueSetting). y.name) (sym i);
}
queue_at (q ∷ qs) (x ∷ rs) (suc k) r e l i =
    let rest = queue_at qs rs k r (ap (λ (ns : List (List ℕ)). drop 1 ns) e) (omega (arith, l)) i in
    record { queue = rest.queue; here = rest.here; there = inr rest.there; name_is = rest.name_is }

-- ---- the first choice from a queue on

abbrev pub choice_from : Settings → State → ℕ → Option Build
choice_from c s k = slice_get (flat_map (choices c s) (drop k s.queues)) 0

-- the queue of the state that a queue of the settings is
pub record IsThere (c : Settings) (s : State) (k : ℕ) (name : List ℕ) : Type 0 where
  pub queue : Queue
  pub named : queue_named s name ≡ Some queue
  pub here : drop k s.queues ≡ queue ∷ drop (suc k) s.queues
  pub choice : choice_from c s k ≡ slice_get (choices c s queue ++ flat_map (choices c s) (drop (suc k) s.queues)) 0

pub queue_there : (c : Settings) (s : State) (k : ℕ) (r : QueueSetting) (rs : List QueueSetting) → are_sound c ≡ true →
    IsSound c s → rs ≡ c.queues → k < length rs → r ≡ get_or rs k r → IsThere c s k r.name
queue_there c s k r rs a h e l i =
    let at = queue_at s.queues rs k r (h.queues_are_set ∙ ap set_names (sym e)) l i in
    record {
      queue = at.queue;
      named = ap (queue_named s) (sym at.name_is) ∙ named_itself c s a h at.queue at.there;
      here = at.here;
      choice = ap (λ (bs : List Build). slice_get bs 0) (ap (flat_map (choices c s)) at.here
          ∙ flat_map-cons (choices c s) at.queue (drop (suc k) s.queues));
    }

pub choice_here : {c : Settings} {s : State} {k : ℕ} {name : List ℕ} → (there : IsThere c s k name) (number : ℕ)
    (b : Build) → choose c s ≡ choice_from c s k →
    Some b ≡ option_map (under_number number) (slice_get (choices c s there.queue) 0) →
    Some b ≡ option_map (under_number number) (choose c s)
choice_here {c} {s} {k} there number b e f =
    first_some (under_number number) b (choices c s there.queue) (flat_map (choices c s) (drop (suc k) s.queues)) f
    ∙ ap (option_map (under_number number)) (sym (e ∙ there.choice))

pub choice_next : {c : Settings} {s : State} {k : ℕ} {name : List ℕ} → (there : IsThere c s k name) (number : ℕ) →
    choose c s ≡ choice_from c s k → None ≡ option_map (under_number number) (slice_get (choices c s there.queue) 0) →
    choose c s ≡ choice_from c s (k + 1)
choice_next {c} {s} {k} there number e f =
    let step : suc k ≡ k + 1 = omega arith in
    e ∙ there.choice
    ∙ first_none (under_number number) (choices c s there.queue) (flat_map (choices c s) (drop (suc k) s.queues)) f
    ∙ ap (choice_from c s) step
