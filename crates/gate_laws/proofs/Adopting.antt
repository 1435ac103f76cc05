-- Under other settings each queue of before is there, under its window or another, and beside them new ones.
use Rattle.std.proofs.Common.{◌≡◌, ℕ, ◌+◌, ◌≤◌, Bool, true, false, not, ◌&&◌, cond, Option, Some, None, List, [], ◌∷◌}
use Rattle.std.proofs.Common.{map, refl, sym, ap, ◌∙◌, subst, ◌⊎◌, inl, inr, arith, true≢false}
use Rattle.std.specs.Prelude.{find, unwrap_or}
use Rattle.std.specs.List.{list_any, list_all, flat_map}
use Rattle.std.specs.Option.{option_map_or}
use Rattle.std.proofs.lemmas.Bool.{and_parts, not-true}
use Rattle.std.proofs.lemmas.List.Concat.{flat_map-cons}
use Rattle.gate_types.specs.declared.config.Queue.{Queue as QueueSetting}
use Rattle.gate_types.specs.declared.config.Project.{Project}
use Rattle.gate_types.specs.Names.{same_name}
use Rattle.gate_types.specs.Settings.{Settings, are_sound, are_distinct, has_queue, are_sound_jobs}
use Rattle.gate_types.specs.State.{Queue, State, empty_queue, change_of, is_open, project_of}
use Rattle.gate_types.specs.Step.{has_project}
use Rattle.gate_types.specs.Adopt.{may_adopt, keeps_window, resized, adopted_queue, adopted}
use Rattle.gate_types.specs.Lawful.{IsSound}
use Rattle.gate_types.specs.Rising.{In}
use Rattle.gate_types.proofs.PlainLemmas.{same_truth}
use Rattle.gate_types.proofs.NameLemmas.{same_name_is}
use Rattle.gate_laws.proofs.Members.{every, from_map, to_map, any_from, any_to, all_from, none_from, found}
use Rattle.gate_laws.proofs.Members.{not_found, from_flat, to_flat}
use Rattle.gate_laws.proofs.Counts.{times, times-append}
use Rattle.gate_types.proofs.DistinctLemmas.{names_differ}
use Rattle.gate_laws.proofs.Alone.{same_name_of}
use Rattle.gate_laws.proofs.WindowIsSound.{with_window}
use Rattle.gate_laws.proofs.RecordedChange.{open_known}

-- settings that adopt others, over a sound state
pub record Adopts (c d : Settings) (s : State) : Type 0 where
  pub before : are_sound c ≡ true
  pub after : are_sound d ≡ true
  pub may : may_adopt c d ≡ true
  pub sound : IsSound c s

-- ---- names

-- of one name is one
pub one_named : {X : Type 0} (name : X → List ℕ) (xs : List X) → are_distinct (map name xs) ≡ true → (x y : X) →
    In x xs → In y xs → same_name (name x) (name y) ≡ true → x ≡ y
one_named name [] h x y mx my e = absurd mx
one_named name (z ∷ zs) h x y mx my e =
    let both = and_parts (not (list_any (same_name (name z)) (map name zs))) (are_distinct (map name zs)) h in
    let none = none_from (same_name (name z)) (map name zs)
    (not-true (list_any (same_name (name z)) (map name zs)) both.0) in
    elim mx [
      | inl a ↦ (elim my [
        | inl b ↦ sym a ∙ b
        | inr b ↦ absurd (true≢false (sym (ap (λ w. same_name (name w) (name y)) a ∙ e)
            ∙ none (name y) (to_map name zs y b)))
      ])
      | inr a ↦ (elim my [
        | inl b ↦ absurd (true≢false (sym (same_name_of (name z) (name x) (ap name b
            ∙ sym (same_name_is (name x) (name y) e))) ∙ none (name x) (to_map name zs x a)))
        | inr b ↦ one_named name zs both.1 x y a b e
      ])
    ]

-- it is found
pub found_named : {X : Type 0} (name : X → List ℕ) (xs : List X) → are_distinct (map name xs) ≡ true → (x : X) →
    In x xs → (n : List ℕ) → same_name (name x) n ≡ true → find (λ y. same_name (name y) n) xs ≡ Some x
found_named {X = X} name xs h x m n e = by_found (find (λ y. same_name (name y) n) xs) refl
  where
    by_found : (o : Option X) → find (λ y. same_name (name y) n) xs ≡ o → o ≡ Some x
    by_found None f = absurd (true≢false (sym e ∙ not_found (λ y. same_name (name y) n) xs f x m))
    by_found (Some y) f =
        let is = found (λ y. same_name (name y) n) xs y f in
        ap Some (one_named name xs h y x is.0 m (same_name_of (name y) (name x) (same_name_is (name y) n is.1
        ∙ sym (same_name_is (name x) n e))))

-- ---- queues

pub names_here : (c d : Settings) (s : State) → Adopts c d s → are_distinct (map (λ q. q.name) s.queues) ≡ true
names_here c d s a = ap are_distinct a.sound.queues_are_set ∙ names_differ c a.before

-- a window that a queue gets: its own, or that of its setting
abbrev pub Resizes : Settings → ℕ → Queue → Type 0
Resizes d w q = (w ≡ q.window) ⊎ ((r : QueueSetting) × In r d.queues × (w ≡ r.window))

resized_is : (c d : Settings) (r : QueueSetting) (q : Queue) → In r d.queues →
    (w : ℕ) × Resizes d w q × (resized c r q ≡ with_window w q)
resized_is c d r q m = by_window (keeps_window c r)
  where
    by_window : (b : Bool) → (w : ℕ) × Resizes d w q × (cond b q (record q { window = r.window }) ≡ with_window w q)
    by_window true = (q.window, inl refl, refl)
    by_window false = (r.window, inr (r, m, refl), refl)

-- what is said of each queue of before, under any window that it may get, and of each new one, is said of all
pub each_queue : (c d : Settings) (s : State) (P : Queue → Type 0) →
    ((q : Queue) → In q s.queues → (w : ℕ) → Resizes d w q → P (with_window w q)) →
    ((r : QueueSetting) → In r d.queues → find (λ q. same_name q.name r.name) s.queues ≡ None → P (empty_queue r)) →
    (q : Queue) → In q (adopted c d s).queues → P q
each_queue c d s P old new q m =
    let x = from_map (adopted_queue c s) d.queues q m in
    subst P x.2 (by_found x.0 x.1 (find (λ q. same_name q.name x.0.name) s.queues) refl)
  where
    by_found : (r : QueueSetting) → In r d.queues → (o : Option Queue) →
        find (λ q. same_name q.name r.name) s.queues ≡ o → P (option_map_or (resized c r) o (empty_queue r))
    by_found r mr None e = new r mr e
    by_found r mr (Some o) e =
        let w = resized_is c d r o mr in
        subst P (sym w.2) (old o (found (λ q. same_name q.name r.name) s.queues o e).0 w.0 w.1)

-- a queue of before is set by the settings of before
set_before : (c : Settings) (s : State) → IsSound c s → (q : Queue) → In q s.queues →
    (o : QueueSetting) × In o c.queues × (o.name ≡ q.name)
set_before c s h q m = from_map (λ (r : QueueSetting). r.name) c.queues q.name
    (subst (In q.name) h.queues_are_set (to_map (λ (x : Queue). x.name) s.queues q m))

-- it is there after
pub still_queue : (c d : Settings) (s : State) → Adopts c d s → (q : Queue) → In q s.queues →
    (w : ℕ) × In (with_window w q) (adopted c d s).queues
still_queue c d s a q m =
    let o = set_before c s a.sound q m in
    let all = (and_parts (list_all (λ q. has_queue d.queues q.name) c.queues)
    (list_all (λ p. list_any (λ r. same_name r.name p.name && same_name r.queue p.queue) d.projects) c.projects)
    a.may).0 in
    let r = any_from (λ (r : QueueSetting). same_name r.name o.0.name) d.queues
    (all_from (λ (q : QueueSetting). has_queue d.queues q.name) c.queues all o.0 o.1) in
    let same : q.name ≡ r.0.name = sym o.2 ∙ sym (same_name_is r.0.name o.0.name r.2) in
    let there : adopted_queue c s r.0 ≡ resized c r.0 q =
    ap (λ x. option_map_or (resized c r.0) x (empty_queue r.0))
    (found_named (λ (x : Queue). x.name) s.queues (names_here c d s a) q m r.0.name (same_name_of q.name r.0.name same))
    in
    let w = resized_is c d r.0 q r.1 in
    (w.0, subst (λ x. In x (adopted c d s).queues) (there ∙ w.2) (to_map (adopted_queue c s) d.queues r.0 r.1))

-- a name of the settings of before is that of a queue
pub set_queue : (c : Settings) (s : State) → IsSound c s → (n : List ℕ) → has_queue c.queues n ≡ true →
    (q : Queue) × In q s.queues × (q.name ≡ n)
set_queue c s h n e =
    let r = any_from (λ (r : QueueSetting). same_name r.name n) c.queues e in
    let q = from_map (λ (x : Queue). x.name) s.queues r.0.name
    (subst (In r.0.name) (sym h.queues_are_set) (to_map (λ (x : QueueSetting). x.name) c.queues r.0 r.1)) in
    (q.0, q.1, q.2 ∙ same_name_is r.0.name n r.2)

-- and of the settings of after
pub set_kept : (c d : Settings) (s : State) → Adopts c d s → (n : List ℕ) → has_queue c.queues n ≡ true →
    has_queue d.queues n ≡ true
set_kept c d s a n e =
    let o = any_from (λ (r : QueueSetting). same_name r.name n) c.queues e in
    let all = (and_parts (list_all (λ q. has_queue d.queues q.name) c.queues)
    (list_all (λ p. list_any (λ r. same_name r.name p.name && same_name r.queue p.queue) d.projects) c.projects)
    a.may).0 in
    let r = any_from (λ (r : QueueSetting). same_name r.name o.0.name) d.queues
    (all_from (λ (q : QueueSetting). has_queue d.queues q.name) c.queues all o.0 o.1) in
    any_to (λ (r : QueueSetting). same_name r.name n) d.queues r.0 r.1
    (same_name_of r.0.name n (same_name_is r.0.name o.0.name r.2 ∙ same_name_is o.0.name n o.2))

-- ---- tests and members

-- a test that windows change nothing for, and that no empty queue passes
pub any_queue : (c d : Settings) (s : State) → Adopts c d s → (test : Queue → Bool) →
    ((q : Queue) (w : ℕ) → test (with_window w q) ≡ test q) → ((r : QueueSetting) → test (empty_queue r) ≡ false) →
    list_any test (adopted c d s).queues ≡ list_any test s.queues
any_queue c d s a test same none = same_truth (list_any test (adopted c d s).queues) (list_any test s.queues)
    (λ e. let x = any_from test (adopted c d s).queues e in
    each_queue c d s (λ q. test q ≡ true → list_any test s.queues ≡ true)
    (λ q m w r k. any_to test s.queues q m (sym (same q w) ∙ k))
    (λ r m n k. absurd (true≢false (sym k ∙ none r))) x.0 x.1 x.2)
    (λ e. let x = any_from test s.queues e in let w = still_queue c d s a x.0 x.1 in
    any_to test (adopted c d s).queues (with_window w.0 x.0) w.1 (same x.0 w.0 ∙ x.2))

-- what stands in the queues
pub flat_before : {X : Type 0} (c d : Settings) (s : State) (f g : Queue → List X) →
    ((q : Queue) (w : ℕ) → f (with_window w q) ≡ g q) → ((r : QueueSetting) → f (empty_queue r) ≡ []) → (x : X) →
    In x (flat_map f (adopted c d s).queues) → In x (flat_map g s.queues)
flat_before c d s f g same none x m =
    let y = from_flat f (adopted c d s).queues x m in
    each_queue c d s (λ q. In x (f q) → In x (flat_map g s.queues))
    (λ q mq w r k. to_flat g s.queues q x mq (subst (In x) (same q w) k))
    (λ r mr n k. absurd (subst (In x) (none r) k)) y.0 y.1 y.2

pub flat_after : {X : Type 0} (c d : Settings) (s : State) → Adopts c d s → (f g : Queue → List X) →
    ((q : Queue) (w : ℕ) → f (with_window w q) ≡ g q) → (x : X) → In x (flat_map g s.queues) →
    In x (flat_map f (adopted c d s).queues)
flat_after c d s a f g same x m =
    let y = from_flat g s.queues x m in
    let w = still_queue c d s a y.0 y.1 in
    to_flat f (adopted c d s).queues (with_window w.0 y.0) x w.1 (subst (In x) (sym (same y.0 w.0)) y.2)

-- ---- how often a number stands in the queues

-- a sum over settings
abbrev sum : (QueueSetting → ℕ) → List QueueSetting → ℕ
sum m [] = 0
sum m (r ∷ rs) = m r + sum m rs

sum_more : (f g h : QueueSetting → ℕ) (rs : List QueueSetting) → ((r : QueueSetting) → f r ≤ g r + h r) →
    sum f rs ≤ sum g rs + sum h rs
sum_more f g h [] k = omega arith
sum_more f g h (r ∷ rs) k = let here = k r in let rest = sum_more f g h rs k in omega (arith, here, rest)

sum_none : (rs : List QueueSetting) → sum (λ r. 0) rs ≡ 0
sum_none [] = refl
sum_none (r ∷ rs) = let h = sum_none rs in omega (arith, h)

-- at most one setting has a name
sum_one : (name : List ℕ) (v : ℕ) (rs : List QueueSetting) → are_distinct (map (λ r. r.name) rs) ≡ true →
    sum (λ r. cond (same_name name r.name) v 0) rs ≤ v
sum_one name v [] h = omega arith
sum_one name v (r ∷ rs) h =
    let both = and_parts (not (list_any (same_name r.name) (map (λ r. r.name) rs))) (are_distinct (map (λ r. r.name) rs))
    h in
    by_name (same_name name r.name) refl
    (none_from (same_name r.name) (map (λ r. r.name) rs)
    (not-true (list_any (same_name r.name) (map (λ r. r.name) rs)) both.0)) (sum_one name v rs both.1)
  where
    others : (xs : List QueueSetting) → ((x : QueueSetting) → In x xs → same_name name x.name ≡ false) →
        sum (λ r. cond (same_name name r.name) v 0) xs ≡ 0
    others [] k = refl
    others (x ∷ xs) k =
        let here = ap (λ t. cond t v 0) (k x (inl refl)) in
        let rest = others xs (λ y m. k y (inr m)) in omega (arith, here, rest)

    by_name : (t : Bool) → same_name name r.name ≡ t →
        ((n : List ℕ) → In n (map (λ r. r.name) rs) → same_name r.name n ≡ false) →
        sum (λ r. cond (same_name name r.name) v 0) rs ≤ v →
        cond t v 0 + sum (λ r. cond (same_name name r.name) v 0) rs ≤ v
    by_name true e none ih =
        let zero = others rs (λ x m. by_test x (same_name name x.name) refl
        (none x.name (to_map (λ (r : QueueSetting). r.name) rs x m))) in omega (arith, zero)
      where
        by_test : (x : QueueSetting) (t : Bool) → same_name name x.name ≡ t → same_name r.name x.name ≡ false →
            t ≡ false
        by_test x true k n = absurd (true≢false (sym (same_name_of r.name x.name
            (sym (same_name_is name r.name e) ∙ same_name_is name x.name k)) ∙ n))
        by_test x false k n = refl
    by_name false e none ih = omega (arith, ih)

parts_less : (n : ℕ) (f : Queue → List ℕ) (rs : List QueueSetting) → are_distinct (map (λ r. r.name) rs) ≡ true →
    (qs : List Queue) →
    sum (λ r. option_map_or (λ q. times n (f q)) (find (λ q. same_name q.name r.name) qs) 0) rs ≤ times n (flat_map f qs)
parts_less n f rs h [] = let none = sum_none rs in omega (arith, none)
parts_less n f rs h (q ∷ qs) =
    let one = sum_one q.name (times n (f q)) rs h in
    let rest = parts_less n f rs h qs in
    let both = sum_more
    (λ r. option_map_or (λ q. times n (f q)) (cond (same_name q.name r.name) (Some q)
    (find (λ q. same_name q.name r.name) qs)) 0)
    (λ r. cond (same_name q.name r.name) (times n (f q)) 0)
    (λ r. option_map_or (λ q. times n (f q)) (find (λ q. same_name q.name r.name) qs) 0) rs
    (λ r. by_name (same_name q.name r.name) (find (λ q. same_name q.name r.name) qs)) in
    let joined = ap (times n) (flat_map-cons f q qs) ∙ times-append n (f q) (flat_map f qs) in
    omega (arith, one, rest, both, joined)
  where
    by_name : (t : Bool) (o : Option Queue) → option_map_or (λ q. times n (f q)) (cond t (Some q) o) 0 ≤ cond t
        (times n (f q)) 0 + option_map_or (λ q. times n (f q)) o 0
    by_name true o = omega arith
    by_name false o = omega arith

parts_are : (c : Settings) (s : State) (n : ℕ) (f : Queue → List ℕ) → ((q : Queue) (w : ℕ) → f (with_window w q) ≡ f q) →
    ((r : QueueSetting) → f (empty_queue r) ≡ []) → (rs : List QueueSetting) →
    times n (flat_map f (map (adopted_queue c s) rs)) ≡ sum
    (λ r. option_map_or (λ q. times n (f q)) (find (λ q. same_name q.name r.name) s.queues) 0) rs
parts_are c s n f same none [] = refl
parts_are c s n f same none (r ∷ rs) =
    let joined = ap (times n) (flat_map-cons f (adopted_queue c s r) (map (adopted_queue c s) rs))
    ∙ times-append n (f (adopted_queue c s r)) (flat_map f (map (adopted_queue c s) rs)) in
    let here = by_found (find (λ q. same_name q.name r.name) s.queues) in
    let rest = parts_are c s n f same none rs in
    omega (arith, joined, here, rest)
  where
    by_window : (q : Queue) (b : Bool) → f (cond b q (record q { window = r.window })) ≡ f q
    by_window q true = refl
    by_window q false = same q r.window

    by_found : (o : Option Queue) → times n (f (option_map_or (resized c r) o (empty_queue r))) ≡ option_map_or
        (λ q. times n (f q)) o 0
    by_found None = ap (times n) (none r)
    by_found (Some q) = ap (times n) (by_window q (keeps_window c r))

-- no number stands more often
pub times_adopted : (c d : Settings) (s : State) → are_sound d ≡ true → (n : ℕ) (f : Queue → List ℕ) →
    ((q : Queue) (w : ℕ) → f (with_window w q) ≡ f q) → ((r : QueueSetting) → f (empty_queue r) ≡ []) →
    times n (flat_map f (adopted c d s).queues) ≤ times n (flat_map f s.queues)
times_adopted c d s w n f same none =
    let is = parts_are c s n f same none d.queues in
    let less = parts_less n f d.queues (names_differ d w) s.queues in
    omega (arith, is, less)

-- ---- projects

-- the project of an open change
pub record ProjectFound (c : Settings) (s : State) (n : ℕ) : Type 0 where
  pub project : Project
  pub there : In project c.projects
  pub named : same_name project.name (change_of s n).project ≡ true
  pub is : project_of c s n ≡ project

pub project_found : (c : Settings) (s : State) (n : ℕ) → IsSound c s → is_open (change_of s n) ≡ true →
    ProjectFound c s n
project_found c s n h o = by_project (find test c.projects) refl
  where
    test : Project → Bool
    test p = same_name p.name (change_of s n).project

    there : has_project c (change_of s n).project ≡ true
    there = every (λ k. has_project c k.project ≡ true) s.changes h.projects_are_set (change_of s n)
        (open_known s n o).1

    by_project : (o : Option Project) → find test c.projects ≡ o → ProjectFound c s n
    by_project None e =
        let p = any_from test c.projects there in
        absurd (true≢false (sym p.2 ∙ not_found test c.projects e p.0 p.1))
    by_project (Some p) e =
        let is = found test c.projects p e in
        record {
          project = p;
          there = is.0;
          named = is.1;
          is = ap (λ o. unwrap_or o (record { name = []; queue = []; jobs = []; fail_fast = false })) e;
        }

-- a project of before is there after, with its queue
pub still_project : (c d : Settings) (s : State) → Adopts c d s → (p : Project) → In p c.projects →
    (r : Project) × In r d.projects × (r.name ≡ p.name) × (r.queue ≡ p.queue)
still_project c d s a p m =
    let all = (and_parts (list_all (λ q. has_queue d.queues q.name) c.queues)
    (list_all (λ p. list_any (λ r. same_name r.name p.name && same_name r.queue p.queue) d.projects) c.projects)
    a.may).1 in
    let r = any_from (λ (r : Project). same_name r.name p.name && same_name r.queue p.queue) d.projects
    (all_from (λ (p : Project). list_any (λ r. same_name r.name p.name && same_name r.queue p.queue) d.projects)
    c.projects all p m) in
    let both = and_parts (same_name r.0.name p.name) (same_name r.0.queue p.queue) r.2 in
    (r.0, r.1, same_name_is r.0.name p.name both.0, same_name_is r.0.queue p.queue both.1)

projects_differ : (c : Settings) → are_sound c ≡ true → are_distinct (map (λ p. p.name) c.projects) ≡ true
projects_differ c w = (and_parts _ _ (and_parts _ _ (and_parts _ _ w).0).0).1

-- so an open change is for the queue that it was for
pub queue_kept : (c d : Settings) (s : State) → Adopts c d s → (n : ℕ) → is_open (change_of s n) ≡ true →
    (project_of d s n).queue ≡ (project_of c s n).queue
queue_kept c d s a n o =
    let p = project_found c s n a.sound o in
    let r = still_project c d s a p.project p.there in
    let is = found_named (λ (x : Project). x.name) d.projects (projects_differ d a.after) r.0 r.1 (change_of s n).project
    (same_name_of r.0.name (change_of s n).project (r.2 ∙ same_name_is p.project.name (change_of s n).project p.named))
    in
    ap (λ (o : Option Project). (unwrap_or o (record { name = []; queue = []; jobs = []; fail_fast = false })).queue) is ∙ r.3
    ∙ sym (ap (λ (x : Project). x.queue) p.is)

pub project_kept : (c d : Settings) (s : State) → Adopts c d s → (name : List ℕ) → has_project c name ≡ true →
    has_project d name ≡ true
project_kept c d s a name h =
    let p = any_from (λ (p : Project). same_name p.name name) c.projects h in
    let r = still_project c d s a p.0 p.1 in
    any_to (λ (p : Project). same_name p.name name) d.projects r.0 r.1
    (same_name_of r.0.name name (r.2 ∙ same_name_is p.0.name name p.2))

-- the queue of an open change is there
pub queue_there : (c d : Settings) (s : State) → Adopts c d s → (n : ℕ) → is_open (change_of s n) ≡ true →
    (q : Queue) × In q s.queues × (q.name ≡ (project_of c s n).queue)
queue_there c d s a n o =
    let p = project_found c s n a.sound o in
    let sound = all_from (λ p. has_queue c.queues p.queue && are_sound_jobs p.jobs) c.projects (and_parts _ _ a.before).1 p.project p.there in
    let q = set_queue c s a.sound p.project.queue (and_parts (has_queue c.queues p.project.queue)
    (are_sound_jobs p.project.jobs) sound).0 in
    (q.0, q.1, q.2 ∙ sym (ap (λ (x : Project). x.queue) p.is))
