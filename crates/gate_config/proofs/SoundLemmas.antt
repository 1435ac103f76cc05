-- A document without a fault says sound settings.
use Rattle.std.proofs.Common.{◌≡◌, ℕ, ◌≤◌, List, [], ◌∷◌, map, length, Bool, true, false, not, ◌&&◌, ◌||◌, nat_le}
use Rattle.std.proofs.Common.{nat_lt, cond, Option, Some, None, refl, ap, sym, ◌∙◌, arith, subst}
use Rattle.std.proofs.lemmas.Bool.{or_parts, and_parts, not-false, leb-true}
use Rattle.std.proofs.lemmas.Bool.Decides.{nat_tests}
use Rattle.std.proofs.lemmas.List.{length-map}
use Rattle.std.proofs.lemmas.Slice.Eq.{bytes_eq-Decides}
use Rattle.std.specs.Prelude.{unwrap_or}
use Rattle.std.specs.List.{list_any, list_all}
use Rattle.toml.specs.Data.{Data}
use Rattle.gate_types.specs.Names.{same_name, is_name}
use Rattle.gate_types.specs.Limits.{most_queues, most_projects, most_jobs, most_window, most_factor}
use Rattle.gate_types.specs.Settings.{are_distinct, has_queue, is_sound_window, are_sound_jobs, are_sound}
use Rattle.gate_types.proofs.PlainLemmas.{list_any_map}
use Rattle.gate_config.specs.Document.{queues_of, projects_of, jobs_of, name_of, queue_named_by, said_queue, said_job}
use Rattle.gate_config.specs.Document.{said_project, said_settings, said_window, said_floor, said_increase_by}
use Rattle.gate_config.specs.Document.{said_decrease_by}
use Rattle.gate_config.specs.Document.{is_voting}
use Rattle.gate_config.specs.Members.{misses_member, has_unknown_member}
use Rattle.gate_config.specs.Kinds.{has_wrong_kind}
use Rattle.gate_config.specs.Rules.{has_bad_name, has_bad_name_in_project, has_bad_name_anywhere, has_double}
use Rattle.gate_config.specs.Rules.{has_double_name, has_named, names_no_queue, is_bad_window, is_bad_queue}
use Rattle.gate_config.specs.Rules.{is_bad_project, has_bad_window, has_no_voting_job, has_too_many_jobs}
use Rattle.gate_config.specs.Rules.{is_beyond_limits}
use Rattle.gate_config.specs.Faults.{fault_of}
use Rattle.gate_config.specs.declared.fault.ConfigFault.{ConfigFault}

none_if : (b : Bool) (f : ConfigFault) (r : Option ConfigFault) → cond b (Some f) r ≡ None → (b ≡ false) × (r ≡ None)
none_if true f r h = absurd cc
none_if false f r h = (refl, h)

both : (a b : Bool) → a ≡ true → b ≡ true → (a && b) ≡ true
both a b h k = rw (h, k) refl

-- the rules that a document without a fault keeps
pub record KeepsRules (d : Data) : Type 0 where
  pub names : has_bad_name_anywhere d ≡ false
  pub doubles : has_double_name d ≡ false
  pub queues : names_no_queue d ≡ false
  pub windows : has_bad_window d ≡ false
  pub votes : has_no_voting_job d ≡ false
  pub limits : is_beyond_limits d ≡ false

pub keeps_rules : (d : Data) → fault_of d ≡ None → KeepsRules d
keeps_rules d h =
    let a = none_if (misses_member d) _ _ h in
    let b = none_if (has_wrong_kind d) _ _ a.1 in
    let c = none_if (has_unknown_member d) _ _ b.1 in
    let names = none_if (has_bad_name_anywhere d) _ _ c.1 in
    let doubles = none_if (has_double_name d) _ _ names.1 in
    let queues = none_if (names_no_queue d) _ _ doubles.1 in
    let windows = none_if (has_bad_window d) _ _ queues.1 in
    let votes = none_if (has_no_voting_job d) _ _ windows.1 in
    let limits = none_if (is_beyond_limits d) _ _ votes.1 in
    record { names = names.0; doubles = doubles.0; queues = queues.0; windows = windows.0; votes = votes.0; limits = limits.0 }

-- what fails two tests everywhere fails both together
none_both : (p q : Data → Bool) (ds : List Data) → list_any p ds ≡ false → list_any q ds ≡ false → list_any (λ d. p d || q d) ds ≡ false
none_both p q [] h k = refl
none_both p q (d ∷ ds) h k =
    let (here, later) = or_parts (p d) (list_any p ds) h in
    let (here', later') = or_parts (q d) (list_any q ds) k in
    rw (here, here', none_both p q ds later later') refl

-- a test that fails wherever another one does
none_from : (p q : Data → Bool) → ((d : Data) → q d ≡ false → p d ≡ false) → (ds : List Data) → list_any q ds ≡ false → list_any p ds ≡ false
none_from p q f [] h = refl
none_from p q f (d ∷ ds) h = let (here, later) = or_parts (q d) (list_any q ds) h in rw (f d here, none_from p q f ds later) refl

-- the name of one of the queues is of its form
first_named : (name other : List ℕ) (b : Bool) → b ≡ same_name other name → not (is_name other) ≡ false → (later : Bool) → (later ≡ true → is_name name ≡ true) → (b || later) ≡ true → is_name name ≡ true
first_named name other true e good later f h = subst (λ n. is_name n ≡ true) ((bytes_eq-Decides other name).0 (sym e)) (not-false _ good)
first_named name other false e good later f h = f h

named_is_name : (name : List ℕ) (ds : List Data) → list_any has_bad_name ds ≡ false → has_named name ds ≡ true → is_name name ≡ true
named_is_name name [] h k = absurd cc
named_is_name name (d ∷ ds) h k =
    let (here, later) = or_parts (has_bad_name d) (list_any has_bad_name ds) h in
    first_named name (name_of d) (same_name (name_of d) name) refl here (has_named name ds) (named_is_name name ds later) k

queue_names : (d : Data) → KeepsRules d → list_any has_bad_name (queues_of d) ≡ false
queue_names d r = let (a, more) = or_parts _ _ r.names in (or_parts _ _ a).1

project_names : (d : Data) → KeepsRules d → list_any has_bad_name_in_project (projects_of d) ≡ false
project_names d r = (or_parts _ _ r.names).1

-- each queue has settings
pub queues_are_good : (d : Data) → KeepsRules d → list_any is_bad_queue (queues_of d) ≡ false
queues_are_good d r = none_both has_bad_name is_bad_window (queues_of d) (queue_names d r) r.windows

-- each project has settings
pub projects_are_good : (d : Data) → KeepsRules d → list_any is_bad_project (projects_of d) ≡ false
projects_are_good d r =
    let named = none_from (λ p. not (is_name (queue_named_by p))) (λ p. not (has_named (queue_named_by p) (queues_of d)))
    (λ p h. rw (named_is_name (queue_named_by p) (queues_of d) (queue_names d r) (not-false _ h)) refl) (projects_of d) r.queues in
    none_both has_bad_name_in_project (λ p. not (is_name (queue_named_by p))) (projects_of d) (project_names d r) named

names_of_queues : (ds : List Data) → map (λ q. q.name) (map said_queue ds) ≡ map name_of ds
names_of_queues [] = refl
names_of_queues (d ∷ ds) = ap (λ ns. name_of d ∷ ns) (names_of_queues ds)

names_of_projects : (ds : List Data) → map (λ p. p.name) (map said_project ds) ≡ map name_of ds
names_of_projects [] = refl
names_of_projects (d ∷ ds) = ap (λ ns. name_of d ∷ ns) (names_of_projects ds)

names_of_jobs : (ds : List Data) → map (λ j. j.name) (map said_job ds) ≡ map name_of ds
names_of_jobs [] = refl
names_of_jobs (d ∷ ds) = ap (λ ns. name_of d ∷ ns) (names_of_jobs ds)

few_jobs : (n : ℕ) → nat_lt most_jobs n ≡ false → nat_le n most_jobs ≡ true
few_jobs n h = grind (arith, nat_tests)

sound_windows : (ds : List Data) → list_any is_bad_window ds ≡ false → list_all is_sound_window (map said_queue ds) ≡ true
sound_windows [] h = refl
sound_windows (d ∷ ds) h =
    let (here, later) = or_parts (is_bad_window d) (list_any is_bad_window ds) h in
    both _ _ (not-false _ (or_parts _ _ here).1) (sound_windows ds later)

-- the numbers of a queue that isn't bad
pub record SmallNumbers (d : Data) : Type 0 where
  pub window : unwrap_or (said_window d) 0 ≤ most_window
  pub floor : unwrap_or (said_floor d) 0 ≤ most_window
  pub increase_by : unwrap_or (said_increase_by d) 0 ≤ most_factor
  pub decrease_by : unwrap_or (said_decrease_by d) 0 ≤ most_factor

pub small_numbers : (d : Data) → is_bad_queue d ≡ false → SmallNumbers d
small_numbers d h =
    let sound : is_sound_window (said_queue d) ≡ true = not-false _ (or_parts _ _ (or_parts (has_bad_name d) (is_bad_window d) h).1).1 in
    let (over, rule) = and_parts _ _ sound in
    let (ranges, floors) = and_parts _ _ over in
    let (low, floor) = and_parts _ _ ranges in
    let (window, least) = and_parts _ _ low in
    let (grows, shrinks) = and_parts _ _ rule in
    record {
      window = leb-true (unwrap_or (said_window d) 0) most_window window;
      floor = leb-true (unwrap_or (said_floor d) 0) most_window floor;
      increase_by = leb-true (unwrap_or (said_increase_by d) 0) most_factor (and_parts _ _ grows).1;
      decrease_by = leb-true (unwrap_or (said_decrease_by d) 0) most_factor (and_parts _ _ shrinks).1;
    }

sound_jobs : (ds : List Data) → has_double ds ≡ false → list_any is_voting ds ≡ true → nat_lt most_jobs (length ds) ≡ false → are_sound_jobs (map said_job ds) ≡ true
sound_jobs ds doubles votes few =
    both _ _ (both _ _ (ap (λ n. nat_le n most_jobs) (length-map ds said_job) ∙ few_jobs _ few) (ap are_distinct (names_of_jobs ds) ∙ not-false _ doubles))
    (list_any_map (λ j. j.voting) said_job ds ∙ votes)

-- each project is in a queue that is there, and has sound jobs
sound_projects : (qs ps : List Data) → list_any (λ p. not (has_named (queue_named_by p) qs)) ps ≡ false → list_any (λ p. has_double (jobs_of p)) ps ≡ false
    → list_any (λ p. not (list_any is_voting (jobs_of p))) ps ≡ false → list_any has_too_many_jobs ps ≡ false
    → list_all (λ p. has_queue (map said_queue qs) p.queue && are_sound_jobs p.jobs) (map said_project ps) ≡ true
sound_projects qs [] queues doubles votes few = refl
sound_projects qs (p ∷ ps) queues doubles votes few =
    let (queue, queues') = or_parts _ _ queues in
    let (double, doubles') = or_parts _ _ doubles in
    let (vote, votes') = or_parts _ _ votes in
    let (job, few') = or_parts _ _ few in
    both _ _
    (both _ _ (list_any_map (λ q. same_name q.name (queue_named_by p)) said_queue qs ∙ not-false _ queue) (sound_jobs (jobs_of p) double (not-false _ vote) job))
    (sound_projects qs ps queues' doubles' votes' few')

-- the settings pass each test of sound ones
pub settings_are_sound : (d : Data) → KeepsRules d → are_sound (said_settings d) ≡ true
settings_are_sound d r =
    let (doubles, job_doubles) = or_parts _ _ r.doubles in
    let (queue_doubles, project_doubles) = or_parts _ _ doubles in
    let (counts, jobs) = or_parts _ _ r.limits in
    let (queues, projects) = or_parts _ _ counts in
    let (a_queue, few_queues) = and_parts _ _ (not-false _ queues) in
    let (a_project, few_projects) = and_parts _ _ (not-false _ projects) in
    let m = length-map (queues_of d) said_queue in
    let n = length-map (projects_of d) said_project in
    both _ _ (both _ _ (both _ _ (both _ _ (both _ _ (both _ _ (both _ _
    (ap (λ n. nat_le 1 n) m ∙ a_queue)
    (ap (λ n. nat_le n most_queues) m ∙ few_queues))
    (ap (λ n. nat_le 1 n) n ∙ a_project))
    (ap (λ n. nat_le n most_projects) n ∙ few_projects))
    (ap are_distinct (names_of_queues (queues_of d)) ∙ not-false _ queue_doubles))
    (ap are_distinct (names_of_projects (projects_of d)) ∙ not-false _ project_doubles))
    (sound_windows (queues_of d) r.windows))
    (sound_projects (queues_of d) (projects_of d) r.queues job_doubles r.votes jobs)
