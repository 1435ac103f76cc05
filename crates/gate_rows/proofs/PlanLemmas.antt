-- What is told of plans, where one is put or taken out.
use Rattle.std.proofs.Common.{◌≡◌, ℕ, suc, List, [], ◌∷◌, ◌++◌, filter, Bool, true, false, not, ◌&&◌, ◌||◌, cond, eqb}
use Rattle.std.proofs.Common.{length, true≢false, Some, None, Option, refl, sym, ap, subst, ◌∙◌, arith, append-nil}
use Rattle.std.specs.List.{AllByRecursion, list_any}
use Rattle.std.specs.Option.{option_map_or}
use Rattle.std.specs.Prelude.{find, is_some, option_map, pos}
use Rattle.std.proofs.lemmas.Bool.{eqb-true, eq-eqb, or_parts}
use Rattle.std.proofs.lemmas.Bool.Decides.{nat_tests}
use Rattle.sqlite_keyed.specs.Keyed.{IsKeyedBy, insert_by}
use Rattle.gate_types.specs.State.{put_by}
use Rattle.gate_types.specs.Tables.{unmark, unmarked}
use Rattle.gate_types.specs.declared.config.Job.{Job}
use Rattle.gate_types.specs.declared.records.Plan.{Plan}
use Rattle.gate_types.proofs.ChangedLemmas.{found_changed, found_key}
use Rattle.gate_types.proofs.PlainLemmas.{same_truth}
use Rattle.gate_schema.specs.Edits.{add_plan, drop_fast, drop_plan, job_rows}
use Rattle.gate_schema.specs.Rows.{JobRow, Stored, fast_key}
use Rattle.gate_rows.specs.Matches.{HaveJobs, IsFree, PlansMatch, is_fast_in, jobs_in}
use Rattle.gate_rows.proofs.PutLemmas.{filter-append, find_put, put_is}

-- ---- rows of a key, and of those that are left without one

module _ {X : Type 0} (key : X → ℕ) where
  -- those of a key, without those of one
  those_without : (k n : ℕ) (rows : List X)
      → filter (λ x. eqb (key x) n) (filter (λ x. not (eqb (key x) k)) rows) ≡ cond (eqb k n) [] (filter (λ x. eqb (key x) n) rows)
  those_without k n [] = elim (eqb k n) as (λ c. ◌≡◌ {A = List X} [] (cond c [] [])) [ true ↦ refl | false ↦ refl ]
  those_without k n (y ∷ ys) = go (eqb (key y) k) refl (eqb (key y) n) refl (eqb k n) refl (those_without k n ys)
    where
      go : (a : Bool) → eqb (key y) k ≡ a → (c : Bool) → eqb (key y) n ≡ c → (d : Bool) → eqb k n ≡ d
          → filter (λ x. eqb (key x) n) (filter (λ x. not (eqb (key x) k)) ys) ≡ cond (eqb k n) [] (filter (λ x. eqb (key x) n) ys)
          → filter (λ x. eqb (key x) n) (filter (λ x. not (eqb (key x) k)) (y ∷ ys)) ≡ cond (eqb k n) [] (filter (λ x. eqb (key x) n) (y ∷ ys))
      go true e true f true d more = rw (e, more, d)
      go true e false f false d more = rw (e, more, d, f)
      go true e true f false d more = absurd (grind (arith, nat_tests))
      go true e false f true d more = absurd (grind (arith, nat_tests))
      go false e true f true d more = absurd (grind (arith, nat_tests))
      go false e true f false d more = rw (e, f, more, d)
      go false e false f true d more = rw (e, f, more, d)
      go false e false f false d more = rw (e, f, more, d)

  -- what is found of a key, without those of one
  found_without : (k n : ℕ) (rows : List X)
      → find (λ x. eqb (key x) n) (filter (λ x. not (eqb (key x) k)) rows) ≡ cond (eqb k n) None (find (λ x. eqb (key x) n) rows)
  found_without k n [] = elim (eqb k n) as (λ c. ◌≡◌ {A = Option X} None (cond c None None)) [ true ↦ refl | false ↦ refl ]
  found_without k n (y ∷ ys) = go (eqb (key y) k) refl (eqb (key y) n) refl (eqb k n) refl (found_without k n ys)
    where
      go : (a : Bool) → eqb (key y) k ≡ a → (c : Bool) → eqb (key y) n ≡ c → (d : Bool) → eqb k n ≡ d
          → find (λ x. eqb (key x) n) (filter (λ x. not (eqb (key x) k)) ys) ≡ cond (eqb k n) None (find (λ x. eqb (key x) n) ys)
          → find (λ x. eqb (key x) n) (filter (λ x. not (eqb (key x) k)) (y ∷ ys)) ≡ cond (eqb k n) None (find (λ x. eqb (key x) n) (y ∷ ys))
      go true e true f true d more = rw (e, more, d)
      go true e false f false d more = rw (e, more, d, f)
      go true e true f false d more = absurd (grind (arith, nat_tests))
      go true e false f true d more = absurd (grind (arith, nat_tests))
      go false e true f true d more = absurd (grind (arith, nat_tests))
      go false e true f false d more = rw (e, f, d)
      go false e false f true d more = rw (e, f, more, d)
      go false e false f false d more = rw (e, f, more, d)

any_is_found : {X : Type 0} (p : X → Bool) (xs : List X) → list_any p xs ≡ is_some (find p xs)
any_is_found p [] = refl
any_is_found p (x ∷ xs) = go (p x) (any_is_found p xs)
  where
    go : (c : Bool) → list_any p xs ≡ is_some (find p xs) → (c || list_any p xs) ≡ is_some (cond c (Some x) (find p xs))
    go true more = refl
    go false more = more

-- ---- the jobs of a plan, by their places

jobs_of_one : (k n m : ℕ) (js : List Job) → filter (λ (x : JobRow). eqb x.serial n) (job_rows k m js) ≡ cond (eqb k n) (job_rows k m js) []
jobs_of_one k n m [] = elim (eqb k n) as (λ c. ◌≡◌ {A = List JobRow} [] (cond c [] [])) [ true ↦ refl | false ↦ refl ]
jobs_of_one k n m (j ∷ js) =
    let first : JobRow = record { serial = k; place = m; job = j } in
    let rest = job_rows k (suc m) js in
    ap (λ l. cond (eqb k n) (first ∷ l) l) (jobs_of_one k n (suc m) js)
    ∙ elim (eqb k n) as (λ c. cond c (first ∷ cond c rest []) (cond c rest []) ≡ cond c (first ∷ rest) []) [ true ↦ refl | false ↦ refl ]

-- ---- a plan taken out

abbrev there : ℕ → List ℕ → Bool
there n fast = list_any (λ m. eqb m n) fast

abbrev plan_key : Plan → ℕ
plan_key p = p.serial

there_without : (k n : ℕ) (fast : List ℕ) → there n (filter (λ y. not (eqb y k)) fast) ≡ cond (eqb k n) false (there n fast)
there_without k n fast =
    any_is_found (λ m. eqb m n) (filter (λ y. not (eqb y k)) fast) ∙ ap is_some (found_without (λ m. m) k n fast)
    ∙ elim (eqb k n) as (λ c. is_some (cond c None (find (λ m. eqb m n) fast)) ≡ cond c false (there n fast)) [ true ↦ refl | false ↦ sym (any_is_found (λ m. eqb m n) fast) ]

pub plans_without : (k : ℕ) (b : Stored) (plans : List Plan) → PlansMatch b.jobs b.fast plans
    → PlansMatch (drop_plan k b).jobs (drop_plan k b).fast (filter (λ (p : Plan). not (eqb p.serial k)) plans)
plans_without k b plans h = record {
  jobs_are = λ n.
      those_without (λ (x : JobRow). x.serial) k n b.jobs ∙ ap (λ l. cond (eqb k n) [] l) (h.jobs_are n)
      ∙ elim (eqb k n) as (λ c. cond c [] (job_rows n 0 (jobs_in plans n)) ≡ job_rows n 0 (option_map_or (λ (p : Plan). p.jobs) (cond c None (find (λ (p : Plan). eqb p.serial n) plans)) [])) [ true ↦ refl | false ↦ refl ]
      ∙ sym (ap (λ o. job_rows n 0 (option_map_or (λ (p : Plan). p.jobs) o [])) (found_without plan_key k n plans));
  fast_are = λ n.
      there_without k n b.fast ∙ ap (λ t. cond (eqb k n) false t) (h.fast_are n)
      ∙ elim (eqb k n) as (λ c. cond c false (is_fast_in plans n) ≡ option_map_or (λ (p : Plan). p.fast) (cond c None (find (λ (p : Plan). eqb p.serial n) plans)) false) [ true ↦ refl | false ↦ refl ]
      ∙ sym (ap (λ o. option_map_or (λ (p : Plan). p.fast) o false) (found_without plan_key k n plans));
}

-- ---- a plan without its mark

-- what is found under a serial, without its mark if it is this one
abbrev unmarked_if : ℕ → Plan → Plan
unmarked_if k p = cond (eqb p.serial k) (unmarked p) p

found_unmarked : (k n : ℕ) (plans : List Plan)
    → find (λ (p : Plan). eqb p.serial n) (unmark k plans) ≡ option_map (unmarked_if k) (find (λ (p : Plan). eqb p.serial n) plans)
found_unmarked k n plans = found_changed plan_key k unmarked (λ p. refl) n plans

jobs_same : (k : ℕ) (o : Option Plan) → option_map_or (λ (p : Plan). p.jobs) (option_map (unmarked_if k) o) [] ≡ option_map_or (λ (p : Plan). p.jobs) o []
jobs_same k None = refl
jobs_same k (Some p) = elim (eqb p.serial k) as (λ c. (cond c (unmarked p) p).jobs ≡ p.jobs) [ true ↦ refl | false ↦ refl ]

mark_gone : (k n : ℕ) (o : Option Plan) → ((p : Plan) → o ≡ Some p → p.serial ≡ n)
    → option_map_or (λ (p : Plan). p.fast) (option_map (unmarked_if k) o) false ≡ cond (eqb k n) false (option_map_or (λ (p : Plan). p.fast) o false)
mark_gone k n None its = elim (eqb k n) as (λ c. false ≡ cond c false false) [ true ↦ refl | false ↦ refl ]
mark_gone k n (Some p) its =
    let at : p.serial ≡ n = its p refl in
    let same = same_truth (eqb p.serial k) (eqb k n) (λ e. eq-eqb k n (sym (eqb-true p.serial k e) ∙ at)) (λ e. eq-eqb p.serial k (at ∙ sym (eqb-true k n e))) in
    ap (λ c. (cond c (unmarked p) p).fast) same
    ∙ elim (eqb k n) as (λ c. (cond c (unmarked p) p).fast ≡ cond c false p.fast) [ true ↦ refl | false ↦ refl ]

pub plans_unmarked : (k : ℕ) (b : Stored) (plans : List Plan) → PlansMatch b.jobs b.fast plans → PlansMatch b.jobs (drop_fast k b).fast (unmark k plans)
plans_unmarked k b plans h = record {
  jobs_are = λ n.
      h.jobs_are n
      ∙ ap (job_rows n 0) (sym (ap (λ o. option_map_or (λ (p : Plan). p.jobs) o []) (found_unmarked k n plans) ∙ jobs_same k (find (λ (p : Plan). eqb p.serial n) plans)));
  fast_are = λ n.
      there_without k n b.fast ∙ ap (λ t. cond (eqb k n) false t) (h.fast_are n)
      ∙ sym (ap (λ o. option_map_or (λ (p : Plan). p.fast) o false) (found_unmarked k n plans)
      ∙ mark_gone k n (find (λ (p : Plan). eqb p.serial n) plans) (found_key plan_key n plans));
}

-- ---- no plan under a serial

-- where none is of a kind, all stay without it
all_stay : {X : Type 0} (p : X → Bool) (xs : List X) → list_any p xs ≡ false → filter (λ x. not (p x)) xs ≡ xs
all_stay p [] none = refl
all_stay p (x ∷ xs) none =
    let parts = or_parts _ _ none in
    ap (λ c. cond (not c) (x ∷ filter (λ x. not (p x)) xs) (filter (λ x. not (p x)) xs)) parts.0 ∙ ap (λ l. x ∷ l) (all_stay p xs parts.1)

-- of the jobs under a serial none is the first, where that place is free
none_first : (k : ℕ) (rows : List JobRow) → AllByRecursion (λ (y : JobRow). (eqb y.serial k && eqb y.place 0) ≡ false) rows
    → AllByRecursion (λ (y : JobRow). eqb y.place 0 ≡ false) (filter (λ (y : JobRow). eqb y.serial k) rows)
none_first k [] free = tt
none_first k (y ∷ ys) free = go (eqb y.serial k) free.0 (none_first k ys free.1)
  where
    go : (c : Bool) → (c && eqb y.place 0) ≡ false → AllByRecursion (λ (y : JobRow). eqb y.place 0 ≡ false) (filter (λ (y : JobRow). eqb y.serial k) ys)
        → AllByRecursion (λ (y : JobRow). eqb y.place 0 ≡ false) (cond c (y ∷ filter (λ (y : JobRow). eqb y.serial k) ys) (filter (λ (y : JobRow). eqb y.serial k) ys))
    go true other more = (other, more)
    go false other more = more

-- so there is no job
none_at_all : (k : ℕ) (jobs : List Job) → AllByRecursion (λ (y : JobRow). eqb y.place 0 ≡ false) (job_rows k 0 jobs) → jobs ≡ []
none_at_all k [] none = refl
none_at_all k (j ∷ js) none = absurd (true≢false none.0)

-- and no plan, where plans have jobs
none_found : (k : ℕ) (plans : List Plan) → HaveJobs plans → jobs_in plans k ≡ [] → find (λ (q : Plan). eqb q.serial k) plans ≡ None
none_found k [] have none = refl
none_found k (q ∷ qs) have none = go (eqb q.serial k) none (none_found k qs have.1)
  where
    go : (c : Bool) → option_map_or (λ (p : Plan). p.jobs) (cond c (Some q) (find (λ (q : Plan). eqb q.serial k) qs)) [] ≡ []
        → (jobs_in qs k ≡ [] → find (λ (q : Plan). eqb q.serial k) qs ≡ None) → cond c (Some q) (find (λ (q : Plan). eqb q.serial k) qs) ≡ None
    go true none more = let some = have.0 in let empty = ap length none in absurd (omega arith)
    go false none more = more none

pub no_plan : (k : ℕ) (b : Stored) (plans : List Plan) → HaveJobs plans → IsFree k 0 b → PlansMatch b.jobs b.fast plans → find (λ (q : Plan). eqb q.serial k) plans ≡ None
no_plan k b plans have free h =
    none_found k plans have (none_at_all k (jobs_in plans k)
    (subst (AllByRecursion (λ (y : JobRow). eqb y.place 0 ≡ false)) (h.jobs_are k) (none_first k b.jobs free)))

-- ---- a plan put

there_put : (k n : ℕ) (fast : List ℕ) → IsKeyedBy (λ y. pos (fast_key y)) fast
    → there n (insert_by (λ y. pos (fast_key y)) (filter (λ y. not (eqb (fast_key y) k)) fast) k) ≡ cond (eqb k n) true (there n fast)
there_put k n fast order =
    ap (there n) (put_is fast_key k fast order) ∙ any_is_found (λ m. eqb m n) (put_by fast_key k fast) ∙ ap is_some (find_put fast_key n k fast)
    ∙ elim (eqb k n) as (λ c. is_some (cond c (Some k) (find (λ m. eqb m n) fast)) ≡ cond c true (there n fast)) [ true ↦ refl | false ↦ sym (any_is_found (λ m. eqb m n) fast) ]

pub plans_put : (p : Plan) (b : Stored) (plans : List Plan) → IsKeyedBy (λ y. pos (fast_key y)) b.fast → find (λ (q : Plan). eqb q.serial p.serial) plans ≡ None → PlansMatch b.jobs b.fast plans
    → PlansMatch (add_plan p b).jobs (add_plan p b).fast (put_by plan_key p plans)
plans_put p b plans order none h = let k = p.serial in record {
  jobs_are = λ n.
      filter-append (λ (y : JobRow). eqb y.serial n) b.jobs (job_rows k 0 p.jobs)
      ∙ ap (λ l. l ++ filter (λ (y : JobRow). eqb y.serial n) (job_rows k 0 p.jobs)) (h.jobs_are n)
      ∙ ap (λ l. job_rows n 0 (jobs_in plans n) ++ l) (jobs_of_one k n 0 p.jobs)
      ∙ jobs n (eqb k n) refl
      ∙ sym (ap (λ o. job_rows n 0 (option_map_or (λ (p : Plan). p.jobs) o [])) (find_put plan_key n p plans));
  fast_are = λ n.
      marked n p.fast
      ∙ elim (eqb k n) as (λ c. cond c p.fast (is_fast_in plans n) ≡ option_map_or (λ (q : Plan). q.fast) (cond c (Some p) (find (λ (q : Plan). eqb q.serial n) plans)) false) [ true ↦ refl | false ↦ refl ]
      ∙ sym (ap (λ o. option_map_or (λ (p : Plan). p.fast) o false) (find_put plan_key n p plans));
}
  where
    none_at : (n : ℕ) → eqb p.serial n ≡ true → find (λ (q : Plan). eqb q.serial n) plans ≡ None
    none_at n e = let same : p.serial ≡ n = grind (arith, nat_tests) in subst (λ m. find (λ (q : Plan). eqb q.serial m) plans ≡ None) same none

    jobs : (n : ℕ) (c : Bool) → eqb p.serial n ≡ c
        → (job_rows n 0 (jobs_in plans n) ++ cond c (job_rows p.serial 0 p.jobs) [])
        ≡ job_rows n 0 (option_map_or (λ (q : Plan). q.jobs) (cond c (Some p) (find (λ (q : Plan). eqb q.serial n) plans)) [])
    jobs n true e =
        let same : p.serial ≡ n = grind (arith, nat_tests) in
        ap (λ o. job_rows n 0 (option_map_or (λ (q : Plan). q.jobs) o []) ++ job_rows p.serial 0 p.jobs) (none_at n e) ∙ ap (λ m. job_rows m 0 p.jobs) same
    jobs n false e = append-nil (job_rows n 0 (jobs_in plans n))

    -- no mark is there
    unmarked : filter (λ y. not (eqb (fast_key y) p.serial)) b.fast ≡ b.fast
    unmarked = all_stay (λ m. eqb m p.serial) b.fast (h.fast_are p.serial ∙ ap (λ o. option_map_or (λ (q : Plan). q.fast) o false) none)

    same_mark : (n : ℕ) (c : Bool) → eqb p.serial n ≡ c → is_fast_in plans n ≡ cond c false (is_fast_in plans n)
    same_mark n true e = ap (λ o. option_map_or (λ (q : Plan). q.fast) o false) (none_at n e)
    same_mark n false e = refl

    marked : (n : ℕ) (f : Bool) → there n (cond f (insert_by (λ y. pos (fast_key y)) b.fast p.serial) b.fast) ≡ cond (eqb p.serial n) f (is_fast_in plans n)
    marked n true =
        ap (λ l. there n (insert_by (λ y. pos (fast_key y)) l p.serial)) (sym unmarked)
        ∙ there_put p.serial n b.fast order ∙ ap (λ t. cond (eqb p.serial n) true t) (h.fast_are n)
    marked n false = h.fast_are n ∙ same_mark n (eqb p.serial n) refl
