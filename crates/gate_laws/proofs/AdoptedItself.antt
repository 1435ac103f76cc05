-- The settings that are in force may be adopted, and change nothing.
use Rattle.std.proofs.Common.{◌≡◌, ℕ, true, ◌&&◌, cond, List, [], ◌∷◌, map, length, refl, ap, ◌∙◌, inl, inr, arith}
use Rattle.std.specs.Prelude.{◌==◌}
use Rattle.std.specs.List.{list_any, list_all}
use Rattle.std.specs.Option.{option_map_or}
use Rattle.std.proofs.lemmas.Bool.{and_from, eq-eqb}
use Rattle.gate_types.specs.declared.config.Queue.{Queue as QueueSetting}
use Rattle.gate_types.specs.declared.config.Project.{Project}
use Rattle.gate_types.specs.Names.{same_name}
use Rattle.gate_types.specs.Settings.{Settings, has_queue, are_distinct}
use Rattle.gate_types.specs.State.{Queue, State, empty_queue}
use Rattle.gate_types.specs.Adopt.{keeps_window, resized, adopted_queue}
use Rattle.gate_types.specs.Rising.{In}
use Rattle.gate_laws.specs.Adoption.{AdoptedItself}
use Rattle.gate_laws.proofs.Members.{any_to, all_to}
use Rattle.gate_laws.proofs.Elements.{rest_of}
use Rattle.gate_types.proofs.DistinctLemmas.{names_differ}
use Rattle.gate_laws.proofs.Alone.{same_name_of}
use Rattle.gate_laws.proofs.Adopting.{found_named}

pub kept_window : (c : Settings) (r : QueueSetting) → In r c.queues → keeps_window c r ≡ true
kept_window c r m =
    any_to (λ (o : QueueSetting). same_name o.name r.name && o.window == r.window && o.floor == r.floor) c.queues r m
    (and_from (same_name r.name r.name && r.window == r.window) (r.floor == r.floor)
    (and_from (same_name r.name r.name) (r.window == r.window) (same_name_of r.name r.name refl)
    (eq-eqb r.window r.window refl)) (eq-eqb r.floor r.floor refl))

abbrev first_name : List (List ℕ) → List ℕ
first_name [] = []
first_name (n ∷ ns) = n

queues_same : (c : Settings) (s : State) → are_distinct (map (λ q. q.name) s.queues) ≡ true → (rs : List QueueSetting)
    (qs : List Queue) → map (λ q. q.name) qs ≡ map (λ r. r.name) rs → ((q : Queue) → In q qs → In q s.queues) →
    ((r : QueueSetting) → In r rs → In r c.queues) → map (adopted_queue c s) rs ≡ qs
queues_same c s d [] [] e hq hr = refl
queues_same c s d [] (q ∷ qs) e hq hr = let long = ap length e in absurd (omega (arith, long))
queues_same c s d (r ∷ rs) [] e hq hr = let long = ap length e in absurd (omega (arith, long))
queues_same c s d (r ∷ rs) (q ∷ qs) e hq hr =
    let here : adopted_queue c s r ≡ q =
    ap (λ o. option_map_or (resized c r) o (empty_queue r))
    (found_named (λ (x : Queue). x.name) s.queues d q (hq q (inl refl)) r.name
    (same_name_of q.name r.name (ap first_name e)))
    ∙ ap (λ b. cond b q (record q { window = r.window })) (kept_window c r (hr r (inl refl))) in
    let rest = queues_same c s d rs qs (ap rest_of e) (λ x m. hq x (inr m)) (λ x m. hr x (inr m)) in
    λ k. here k ∷ rest k

pub adopted_itself : AdoptedItself
adopted_itself = record {
  may = λ c. and_from (list_all (λ q. has_queue c.queues q.name) c.queues)
      (list_all (λ p. list_any (λ r. same_name r.name p.name && same_name r.queue p.queue) c.projects) c.projects)
      (all_to (λ (q : QueueSetting). has_queue c.queues q.name) c.queues
      (λ q m. any_to (λ (r : QueueSetting). same_name r.name q.name) c.queues q m (same_name_of q.name q.name refl)))
      (all_to (λ (p : Project). list_any (λ r. same_name r.name p.name && same_name r.queue p.queue) c.projects)
      c.projects
      (λ p m. any_to (λ (r : Project). same_name r.name p.name && same_name r.queue p.queue) c.projects p m
      (and_from (same_name p.name p.name) (same_name p.queue p.queue) (same_name_of p.name p.name refl)
      (same_name_of p.queue p.queue refl))));
  same = λ c s w h k. record s {
    queues = queues_same c s (ap are_distinct h.queues_are_set ∙ names_differ c w) c.queues s.queues h.queues_are_set
        (λ q m. m) (λ r m. m) k;
  };
}
