-- How many jobs sound settings have.
use Rattle.std.proofs.Common.{◌≡◌, ℕ, true, ◌&&◌, ◌≤◌, ◌+◌, ◌*◌, suc, List, [], ◌∷◌, length, fold, arith}
use Rattle.std.specs.Prelude.{nat_le}
use Rattle.std.specs.List.{sum_by, list_all}
use Rattle.std.proofs.lemmas.Bool.{and_parts}
use Rattle.gate_types.specs.declared.config.Project.{Project}
use Rattle.gate_types.specs.Limits.{most_jobs, most_projects}
use Rattle.gate_types.specs.Settings.{Settings, are_sound, are_sound_jobs, has_queue}

at_most : (n m : ℕ) → nat_le n m ≡ true → n ≤ m
at_most n m h = grind (arith, h)

shift : (t a n m : ℕ) → n ≤ most_jobs → t ≤ (a + n) + most_jobs * m → t ≤ a + most_jobs * suc m
shift t a n m h k = omega (arith, h, k)

some_jobs : (c : Settings) (a : ℕ) (ps : List Project) → list_all (λ p. has_queue c.queues p.queue && are_sound_jobs p.jobs) ps ≡ true → fold (λ a p. a + length p.jobs) a ps ≤ a + most_jobs * length ps
some_jobs c a [] h = omega arith
some_jobs c a (p ∷ ps) h =
    let (here, later) = and_parts _ _ h in
    let (queue, jobs) = and_parts _ _ here in
    let (few, distinct) = and_parts _ _ (and_parts _ _ jobs).0 in
    shift _ a (length p.jobs) (length ps) (at_most (length p.jobs) most_jobs few) (some_jobs c (a + length p.jobs) ps later)

-- the most jobs of the most projects
pub few_jobs : (c : Settings) → are_sound c ≡ true → sum_by (λ p. length p.jobs) c.projects ≤ most_jobs * most_projects
few_jobs c h =
    let (front, projects) = and_parts _ _ h in
    let (front2, windows) = and_parts _ _ front in
    let (front3, names) = and_parts _ _ front2 in
    let (front4, queue_names) = and_parts _ _ front3 in
    let (front5, few) = and_parts _ _ front4 in
    omega (arith, some_jobs c 0 c.projects projects, at_most (length c.projects) most_projects few)
