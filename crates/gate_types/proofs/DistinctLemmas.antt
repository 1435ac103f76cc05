-- Names that stand twice, or don't.
use Rattle.std.proofs.Common.{◌≡◌, ℕ, true, false, ◌&&◌, List, ◌∷◌, length, map, refl}
use Rattle.std.specs.Prelude.{nat_le}
use Rattle.std.specs.List.{list_all, list_any}
use Rattle.gate_types.specs.Limits.{most_projects, most_queues}
use Rattle.gate_types.specs.Names.{same_name}
use Rattle.gate_types.specs.Settings.{Settings, are_distinct, are_sound, are_sound_jobs, has_queue, is_sound_window}
use Rattle.gate_types.proofs.PlainLemmas.{fifth_of_eight, list_any_map}

-- the first name stands again behind it
pub double_here : {X : Type 0} (f : X → List ℕ) (name : List ℕ) (x : X) (xs : List X) → name ≡ f x → list_any (λ y. same_name name (f y)) xs ≡ true → are_distinct (map f (x ∷ xs)) ≡ false
double_here f name x xs e h = rw (← e, list_any_map (same_name name) f xs, h) refl

-- it doesn't
pub double_later : {X : Type 0} (f : X → List ℕ) (name : List ℕ) (x : X) (xs : List X) → name ≡ f x → list_any (λ y. same_name name (f y)) xs ≡ false → are_distinct (map f (x ∷ xs)) ≡ are_distinct (map f xs)
double_later f name x xs e h = rw (← e, list_any_map (same_name name) f xs, h) refl

-- the names of sound settings' queues differ
pub names_differ : (c : Settings) → are_sound c ≡ true → are_distinct (map (λ q. q.name) c.queues) ≡ true
names_differ c sound =
    fifth_of_eight (nat_le 1 (length c.queues)) (nat_le (length c.queues) most_queues) (nat_le 1 (length c.projects))
    (nat_le (length c.projects) most_projects)
    (are_distinct (map (λ q. q.name) c.queues)) (are_distinct (map (λ p. p.name) c.projects))
    (list_all is_sound_window c.queues)
    (list_all (λ p. has_queue c.queues p.queue && are_sound_jobs p.jobs) c.projects) sound
