-- How plans are put together from their jobs' rows, in turn.
use Rattle.std.proofs.Common.{◌≡◌, ◌<◌, ◌+◌, ℕ, Bool, true, false, if◌then◌else◌, List, [], ◌∷◌, ◌++◌, filter}
use Rattle.std.proofs.Common.{flat_map, fold, map, Option, Some, None, ◌⊎◌, length, refl, sym, ap, subst, ◌∙◌, arith}
use Rattle.std.proofs.Common.{eqb, inl, inr, append_assoc, append-nil}
use Rattle.std.specs.Prelude.{MatchOption, option_to_list}
use Rattle.std.specs.List.{AllByRecursion, list_any}
use Rattle.std.proofs.lemmas.Bool.Decides.{nat_tests}
use Rattle.std.proofs.lemmas.List.Sums.{fold-append}
use Rattle.sqlite_rules.specs.Lists.{Has}
use Rattle.sqlite_rules.proofs.ListLemmas.{all_has, has_either, has_filtered, has_kept, some_from, some_has}
use Rattle.sqlite_trees.specs.Tree.{IsAscending}
use Rattle.gate_types.specs.declared.config.Job.{Job}
use Rattle.gate_types.specs.declared.records.Item.{Item}
use Rattle.gate_types.specs.declared.records.Plan.{Plan}
use Rattle.gate_types.proofs.PlainLemmas.{same_truth}
use Rattle.gate_schema.specs.Rows.{JobRow}
use Rattle.gate_found_rows.specs.Asked.{plan_with}
use Rattle.gate_build_queries.specs.Planned.{plans_joined, plan_of_one, plans_of, with_job}
use Rattle.gate_found_rows.proofs.DistinctLemmas.{has_in, has_of}
use Rattle.gate_found_rows.proofs.ListFacts.{passing}

-- ---- a job more

-- where the last plan was taken out, it is plans_joined
pub with_job_behind : (ps : List Plan) (o : Option Plan) (n : ℕ) (fast : Bool) (j : Job) → (o ≡ None → ps ≡ []) → with_job (ps ++ option_to_list o) n fast j ≡ ps ++ plans_joined o n fast j
with_job_behind ps None n fast j none = ap (λ qs. with_job (qs ++ []) n fast j) (none refl) ∙ ap (λ qs. qs ++ plans_joined None n fast j) (sym (none refl))
with_job_behind [] (Some p) n fast j none = refl
with_job_behind (q ∷ []) (Some p) n fast j none = refl
with_job_behind (q ∷ r ∷ ps) (Some p) n fast j none = ap (λ l. q ∷ l) (with_job_behind (r ∷ ps) (Some p) n fast j (λ e. absurd cc))

-- of another serial than all, it is of a new plan
with_job_new : (ps : List Plan) (n : ℕ) (fast : Bool) (j : Job) → AllByRecursion (λ (p : Plan). eqb p.serial n ≡ false) ps → with_job ps n fast j ≡ ps ++ plan_of_one n fast j ∷ []
with_job_new [] n fast j others = refl
with_job_new (p ∷ []) n fast j others = rw others.0
with_job_new (p ∷ q ∷ ps) n fast j others = ap (λ l. p ∷ l) (with_job_new (q ∷ ps) n fast j others.1)

module _ (marked : List ℕ) where
  -- whether a serial is marked
  abbrev is_marked : ℕ → Bool
  is_marked n = list_any (λ m. eqb m n) marked

  -- a job's row after the plans so far
  abbrev step : List Plan → JobRow → List Plan
  step ps x = with_job ps x.serial (is_marked x.serial) x.job

  -- the plan of these jobs under a serial
  abbrev plan_of : ℕ → List Job → Plan
  plan_of n js = record { serial = n; jobs = js; fast = is_marked n }

  -- the jobs of a plan's rows
  abbrev jobs : List JobRow → List Job
  jobs xs = map (λ (x : JobRow). x.job) xs

  -- ---- all rows of a plan

  -- rows of the last plan's serial are its jobs
  more_jobs : (ps : List Plan) (n : ℕ) (js : List Job) (xs : List JobRow) → AllByRecursion (λ (x : JobRow). eqb x.serial n ≡ true) xs
      → fold step (ps ++ plan_of n js ∷ []) xs ≡ ps ++ plan_of n (js ++ jobs xs) ∷ []
  more_jobs ps n js [] all = ap (λ l. ps ++ plan_of n l ∷ []) (sym (append-nil js))
  more_jobs ps n js (x ∷ xs) all =
      let same : n ≡ x.serial = grind (arith, nat_tests) in
      let ours : eqb n x.serial ≡ true = grind (arith, nat_tests) in
      let one : with_job (ps ++ plan_of n js ∷ []) x.serial (is_marked x.serial) x.job ≡ ps ++ plan_of n (js ++ x.job ∷ []) ∷ [] =
      with_job_behind ps (Some (plan_of n js)) x.serial (is_marked x.serial) x.job (λ e. absurd cc)
      ∙ ap (λ b. ps ++ (if b then plan_of n (js ++ x.job ∷ []) ∷ [] else plan_of n js ∷ plan_of_one x.serial (is_marked x.serial) x.job ∷ [])) ours in
      ap (λ l. fold step l xs) one ∙ more_jobs ps n (js ++ x.job ∷ []) xs all.1 ∙ ap (λ l. ps ++ plan_of n l ∷ []) (append_assoc js (x.job ∷ []) (jobs xs))

  -- rows of one serial, after plans of others, are its plan
  one_plan : (ps : List Plan) (n : ℕ) (xs : List JobRow) → AllByRecursion (λ (p : Plan). eqb p.serial n ≡ false) ps → AllByRecursion (λ (x : JobRow). eqb x.serial n ≡ true) xs
      → fold step ps xs ≡ ps ++ option_to_list (plan_with n (is_marked n) (jobs xs))
  one_plan ps n [] others all = sym (append-nil ps)
  one_plan ps n (x ∷ xs) others all =
      let same : x.serial ≡ n = grind (arith, nat_tests) in
      ap (λ l. fold step l xs)
      (ap (λ m. with_job ps m (is_marked m) x.job) same ∙ with_job_new ps n (is_marked n) x.job others)
      ∙ more_jobs ps n (x.job ∷ []) xs all.1

  -- ---- the rows of all plans

  module _ (all : List JobRow) where
    -- the rows under a serial
    abbrev under : ℕ → List JobRow
    under n = filter (λ (x : JobRow). eqb x.serial n) all

    -- the plan under it
    abbrev made : Item → List Plan
    made i = option_to_list (plan_with i.serial (is_marked i.serial) (jobs (under i.serial)))

    -- a plan that is made has the item's serial
    made_under : (n : ℕ) (fast : Bool) (js : List Job) (p : Plan) → Has (option_to_list (plan_with n fast js)) p → p.serial ≡ n
    made_under n fast [] p h = absurd h
    made_under n fast (j ∷ js) p (inl same) = ap (λ (q : Plan). q.serial) same
    made_under n fast (j ∷ js) p (inr none) = absurd none

    -- numbers below are others
    others_below : (n : ℕ) (ps : List Plan) → ((p : Plan) → Has ps p → p.serial < n) → AllByRecursion (λ (p : Plan). eqb p.serial n ≡ false) ps
    others_below n [] below = tt
    others_below n (p ∷ ps) below = (other p.serial n (below p (inl refl)), others_below n ps (λ q h. below q (inr h)))
      where
        other : (a b : ℕ) → a < b → eqb a b ≡ false
        other a b less = grind (arith, nat_tests)

    -- after plans of lower serials, each item's plan in turn
    plans_in_turn : (ps : List Plan) (is : List Item) → IsAscending (λ (i k : Item). i.serial < k.serial) is
        → ((p : Plan) → Has ps p → (i : Item) → Has is i → p.serial < i.serial)
        → fold step ps (flat_map (λ (i : Item). under i.serial) is) ≡ ps ++ flat_map made is
    plans_in_turn ps [] up below = sym (append-nil ps)
    plans_in_turn ps (i ∷ is) up below =
        fold-append step ps (under i.serial) (flat_map (λ (k : Item). under k.serial) is)
        ∙ ap (λ l. fold step l (flat_map (λ (k : Item). under k.serial) is))
        (one_plan ps i.serial (under i.serial) (others_below i.serial ps (λ p h. below p h i (inl refl))) (passing (λ (x : JobRow). eqb x.serial i.serial) all))
        ∙ plans_in_turn (ps ++ made i) is up.1 (λ p h k m. before p k m (has_either ps (made i) p h))
        ∙ append_assoc ps (made i) (flat_map made is)
      where
        before : (p : Plan) (k : Item) → Has is k → Has ps p ⊎ Has (made i) p → p.serial < k.serial
        before p k m (inl h) = below p h k (inr m)
        before p k m (inr h) =
            let same = made_under i.serial (is_marked i.serial) (jobs (under i.serial)) p h in
            let less = all_has (λ (l : Item). i.serial < l.serial) is k up.0 m in
            omega (arith, same, less)

    -- so the plans of the rows of items, in turn, are the items' plans
    pub plans_are : (is : List Item) → IsAscending (λ (i k : Item). i.serial < k.serial) is → plans_of marked (flat_map (λ (i : Item). under i.serial) is) ≡ flat_map made is
    plans_are is up = plans_in_turn [] is up (λ p none. absurd none)

-- ---- the marks

-- of the serial of one of these items, a mark among theirs is a mark
pub marked_alike : (fast : List ℕ) (is : List Item) (i : Item) → Has is i
    → list_any (λ m. eqb m i.serial) (flat_map (λ (k : Item). filter (λ m. eqb m k.serial) fast) is) ≡ list_any (λ m. eqb m i.serial) fast
marked_alike fast is i h = same_truth _ _ there back
  where
    marks : Item → List ℕ
    marks k = filter (λ m. eqb m k.serial) fast

    there : list_any (λ m. eqb m i.serial) (flat_map marks is) ≡ true → list_any (λ m. eqb m i.serial) fast ≡ true
    there some =
        let found = some_has (λ m. eqb m i.serial) (flat_map marks is) some in
        let at = has_of marks is found.0 found.1 in
        some_from (λ m. eqb m i.serial) fast found.0 (has_filtered (λ m. eqb m at.0.serial) fast found.0 at.2).0 found.2

    back : list_any (λ m. eqb m i.serial) fast ≡ true → list_any (λ m. eqb m i.serial) (flat_map marks is) ≡ true
    back some =
        let found = some_has (λ m. eqb m i.serial) fast some in
        some_from (λ m. eqb m i.serial) (flat_map marks is) found.0 (has_in marks is i found.0 h (has_kept (λ m. eqb m i.serial) fast found.0 found.1 found.2)) found.2

-- two makers that agree on all elements make the same
pub flat_alike : {X Y : Type 0} (f g : X → List Y) (xs : List X) → ((x : X) → Has xs x → f x ≡ g x) → flat_map f xs ≡ flat_map g xs
flat_alike f g [] same = refl
flat_alike f g (x ∷ xs) same = rw (same x (inl refl), flat_alike f g xs (λ y h. same y (inr h)))

-- ---- the last of some plans taken out

-- of no plans none is taken, and none is left
pub none_left : (o : Option Plan) (was len : ℕ) (ps : List Plan) → o ≡ None → MatchOption o ((was ≡ 0) × (len ≡ 0)) (λ _. len + 1 ≡ was) → len ≡ length ps → ps ≡ []
none_left o was len [] is cases long = refl
none_left o was len (p ∷ ps) is cases long =
    let none = (subst (λ q. MatchOption q ((was ≡ 0) × (len ≡ 0)) (λ _. len + 1 ≡ was)) is cases).1 in
    absurd (omega (arith, none, long))

-- a row more
pub next_plan : (marked : List ℕ) (done xs : List JobRow) (x : JobRow) (ps : List Plan) (n : ℕ) (fast : Bool) (j : Job) → ps ≡ plans_of marked done → n ≡ x.serial → j ≡ x.job
    → fast ≡ list_any (λ m. eqb m n) marked → xs ≡ done ++ x ∷ [] → with_job ps n fast j ≡ plans_of marked xs
next_plan marked done xs x ps n fast j is same job mark next =
    let told : fast ≡ list_any (λ m. eqb m x.serial) marked = mark ∙ ap (λ k. list_any (λ m. eqb m k) marked) same in
    (λ i. with_job (is i) (same i) (told i) (job i)) ∙ sym (fold-append (step marked) [] done (x ∷ [])) ∙ ap (plans_of marked) (sym next)
