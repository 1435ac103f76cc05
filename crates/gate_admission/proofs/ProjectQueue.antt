-- The queue of a project of sound settings is there.
use Rattle.std.proofs.Common.{◌≡◌, true, ◌&&◌, ◌||◌, Option, Some, None, List, [], ◌∷◌, map, refl, sym, ap, ◌∙◌}
use Rattle.std.proofs.Common.{true≢false}
use Rattle.std.specs.Prelude.{ℕ, find}
use Rattle.std.specs.List.{list_any, list_all}
use Rattle.std.proofs.lemmas.Bool.{and_parts}
use Rattle.gate_types.specs.Names.{same_name}
use Rattle.gate_types.specs.declared.config.Project.{Project}
use Rattle.gate_types.specs.declared.config.Queue.{Queue as QueueSetting}
use Rattle.gate_types.specs.Settings.{Settings, are_sound, has_queue, are_sound_jobs}
use Rattle.gate_types.specs.State.{Queue, State}
use Rattle.gate_types.specs.Lawful.{IsSound}
use Rattle.gate_types.specs.Rising.{In}
use Rattle.gate_book_trait.specs.Reads.{queue_named}
use Rattle.gate_laws.proofs.Members.{found, not_found, all_from, any_from}
use Rattle.gate_admission.specs.Known.{IsQueue}

any_named : (name : List ℕ) (qs : List Queue) →
    list_any (λ q. same_name q.name name) qs ≡ list_any (λ m. same_name m name) (map (λ q. q.name) qs)
any_named name [] = refl
any_named name (q ∷ qs) = ap (λ b. same_name q.name name || b) (any_named name qs)

any_set : (name : List ℕ) (qs : List QueueSetting) →
    list_any (λ q. same_name q.name name) qs ≡ list_any (λ m. same_name m name) (map (λ q. q.name) qs)
any_set name [] = refl
any_set name (q ∷ qs) = ap (λ b. same_name q.name name || b) (any_set name qs)

pub queue_there : (c : Settings) (s : State) → are_sound c ≡ true → IsSound c s → (name : List ℕ) (p : Project) →
    find (λ p. same_name p.name name) c.projects ≡ Some p → IsQueue s p.queue
queue_there c s a h name p e = by_queue (queue_named s p.queue) refl
    (any_from (λ (q : Queue). same_name q.name p.queue) s.queues (any_named p.queue s.queues
    ∙ ap (list_any (λ m. same_name m p.queue)) h.queues_are_set ∙ sym (any_set p.queue c.queues) ∙ set))
  where
    set : has_queue c.queues p.queue ≡ true
    set =
        let all = (and_parts _ (list_all (λ r. has_queue c.queues r.queue && are_sound_jobs r.jobs) c.projects) a).1 in
        (and_parts (has_queue c.queues p.queue) (are_sound_jobs p.jobs)
        (all_from (λ r. has_queue c.queues r.queue && are_sound_jobs r.jobs) c.projects all p
        (found (λ r. same_name r.name name) c.projects p e).0)).0

    by_queue : (o : Option Queue) → queue_named s p.queue ≡ o →
        (q : Queue) × In q s.queues × (same_name q.name p.queue ≡ true) → IsQueue s p.queue
    by_queue (Some q) f t = record { queue = q; named = f }
    by_queue None f t = absurd (true≢false
        (sym t.2 ∙ not_found (λ (q : Queue). same_name q.name p.queue) s.queues f t.0 t.1))
