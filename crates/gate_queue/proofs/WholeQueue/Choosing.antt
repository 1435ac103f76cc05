-- A choice by live builds is the first one, where each of them counts.
use Rattle.std.proofs.Common.{◌≡◌, ℕ, zero, suc, ◌+◌, Bool, true, false, not, ◌&&◌, ◌||◌, cond, Some, None, List, []}
use Rattle.std.proofs.Common.{◌∷◌, map, fold, take, add-zero, refl, sym, ap, ◌∙◌, lt-ltb, le-ltb}
use Rattle.std.specs.Prelude.{filter, ◌==◌, nat_lt, nat_le, count_by}
use Rattle.std.specs.List.{list_any, position, position_from, AllPass}
use Rattle.std.proofs.lemmas.Bool.{and_parts, leb-true, leb-false}
use Rattle.std.proofs.lemmas.Iterator.Adapters.{position_from-zero}
use Rattle.std.proofs.lemmas.List.Elements.{All-tail, All-head}
use Rattle.gate_types.specs.declared.config.Job.{Job}
use Rattle.gate_types.specs.declared.records.Item.{Item as ItemRow}
use Rattle.gate_types.specs.declared.records.Build.{Build}
use Rattle.gate_types.specs.declared.records.Outcome.{Outcome}
use Rattle.gate_types.specs.declared.records.Outcome.TheVariants as outcome
use Rattle.gate_types.specs.declared.records.Slot.TheVariants as slot
use Rattle.gate_types.specs.Names.{same_name}
use Rattle.gate_types.specs.Line.{Place, same_entries, line, ran_on}
use Rattle.gate_types.specs.Slot.{is_success, is_failure, is_lost, is_running, is_blocked, counts, outcomes_of}
use Rattle.gate_types.specs.Slot.{slot_of, raw_slot_of, has_failure, is_cut, cut_slot, is_failed_slot}
use Rattle.gate_types.specs.Slot.{is_waiting_slot}
use Rattle.gate_types.specs.Window.{within_window}
use Rattle.gate_queue.specs.declared.whole_queue.facts.ItemJobs.{ItemJobs}
use Rattle.gate_queue.specs.WholeQueue.Chooses.{first_waiting, first_choice, TellOf, live_builds_count}
use Rattle.gate_queue.specs.WholeQueue.Waiting.{is_running_of, waits, job_fails, waiting_job, choice_by}
use Rattle.gate_laws.proofs.Cuts.{waiting_cut}

counts_is : (l s n q : Bool) → not (l && s) || (l && s && n && q) ≡ true → (l && s && n && q) ≡ (l && s)
counts_is false s n q h = refl
counts_is true false n q h = refl
counts_is true true true true h = refl
counts_is true true true false h = h
counts_is true true false q h = h

and_comm : (x y : Bool) → x && y ≡ (y && x)
and_comm true true = refl
and_comm true false = refl
and_comm false true = refl
and_comm false false = refl

-- a build of the job counts just where it is a live one of the item
of_job : (p : Place) (job : Job) (b : Build) → not (b.live && b.serial == p.item.serial) || counts p b ≡ true → (same_name b.job job.name && counts p b) ≡ is_running_of p.item.serial job b
of_job p job b h =
    ap (λ t. same_name b.job job.name && t) (counts_is b.live (b.serial == p.item.serial) (not (is_blocked p)) (same_entries (ran_on p.landings b) (line p)) h)
    ∙ and_comm (same_name b.job job.name) (b.live && b.serial == p.item.serial)

any_cond : (f : Outcome → Bool) (t : Bool) (b : Build) (bs : List Build) → list_any f (map (λ (x : Build). x.outcome) (cond t (b ∷ bs) bs)) ≡ (t && f b.outcome || list_any f (map (λ (x : Build). x.outcome) bs))
any_cond f true b bs = refl
any_cond f false b bs = refl

any_of_job : (f : Outcome → Bool) (p : Place) (job : Job) (bs : List Build) → live_builds_count bs p ≡ true → list_any f (outcomes_of bs p job) ≡ list_any (λ b. is_running_of p.item.serial job b && f b.outcome) bs
any_of_job f p job [] h = refl
any_of_job f p job (b ∷ bs) h =
    let both = and_parts (not (b.live && b.serial == p.item.serial) || counts p b) (live_builds_count bs p) h in
    any_cond f (same_name b.job job.name && counts p b) b (filter (λ x. same_name x.job job.name && counts p x) bs)
    ∙ (λ k. of_job p job b both.0 k && f b.outcome || any_of_job f p job bs both.1 k)

count_cond : (f : Outcome → Bool) (n : ℕ) (t : Bool) (b : Build) (bs : List Build) →
    fold (λ m o. m + cond (f o) 1 0) n (map (λ (x : Build). x.outcome) (cond t (b ∷ bs) bs)) ≡ fold (λ m o. m + cond (f o) 1 0) (n + cond (t && f b.outcome) 1 0) (map (λ (x : Build). x.outcome) bs)
count_cond f n true b bs = refl
count_cond f n false b bs = ap (λ m. fold (λ k o. k + cond (f o) 1 0) m (map (λ (x : Build). x.outcome) bs)) (sym (add-zero n))

count_from : (f : Outcome → Bool) (n : ℕ) (p : Place) (job : Job) (bs : List Build) → live_builds_count bs p ≡ true →
    fold (λ m o. m + cond (f o) 1 0) n (outcomes_of bs p job) ≡ fold (λ m (b : Build). m + cond (is_running_of p.item.serial job b && f b.outcome) 1 0) n bs
count_from f n p job [] h = refl
count_from f n p job (b ∷ bs) h =
    let both = and_parts (not (b.live && b.serial == p.item.serial) || counts p b) (live_builds_count bs p) h in
    count_cond f n (same_name b.job job.name && counts p b) b (filter (λ x. same_name x.job job.name && counts p x) bs)
    ∙ ap (λ t. fold (λ m o. m + cond (f o) 1 0) (n + cond (t && f b.outcome) 1 0) (outcomes_of bs p job)) (of_job p job b both.0)
    ∙ count_from f (n + cond (is_running_of p.item.serial job b && f b.outcome) 1 0) p job bs both.1

count_of_job : (f : Outcome → Bool) (p : Place) (job : Job) (bs : List Build) → live_builds_count bs p ≡ true → count_by f (outcomes_of bs p job) ≡ count_by (λ b. is_running_of p.item.serial job b && f b.outcome) bs
count_of_job f p job bs h = count_from f 0 p job bs h

-- an outcome that isn't lost is one of the three others
told_is : (os : List Outcome) → list_any (λ o. not (is_lost o)) os ≡ (list_any is_success os || list_any is_failure os || list_any is_running os)
told_is [] = refl
told_is (outcome.Success ∷ os) = refl
told_is (outcome.Failure ∷ os) = some (list_any is_success os) (list_any is_running os)
  where
    some : (s r : Bool) → true ≡ (s || true || r)
    some true r = refl
    some false r = refl
told_is (outcome.Running ∷ os) = some (list_any is_success os) (list_any is_failure os)
  where
    some : (s f : Bool) → true ≡ (s || f || true)
    some true f = refl
    some false true = refl
    some false false = refl
told_is (outcome.Lost ∷ os) = told_is os

waiting_table : (s f r n : Bool) → is_waiting_slot (cond s slot.Success (cond (f || n) slot.Failure (cond r slot.Running slot.Waiting))) ≡ (not (s || f || r) && not n)
waiting_table true f r n = refl
waiting_table false true r n = refl
waiting_table false false true true = refl
waiting_table false false true false = refl
waiting_table false false false true = refl
waiting_table false false false false = refl

few_is : (n : ℕ) → nat_lt n 3 ≡ not (nat_le 3 n)
few_is n = by_test (nat_le 3 n) refl
  where
    by_test : (t : Bool) → nat_le 3 n ≡ t → nat_lt n 3 ≡ not (nat_le 3 n)
    by_test true e = le-ltb n 3 (leb-true 3 n e) ∙ ap not (sym e)
    by_test false e = lt-ltb n 3 (leb-false 3 n e) ∙ ap not (sym e)

pub waits_is : (p : Place) (bs : List Build) (job : Job) → live_builds_count bs p ≡ true → waits p.item.serial bs job ≡ is_waiting_slot (raw_slot_of bs p job)
waits_is p bs job h =
    let os = outcomes_of bs p job in
    (λ k. not (sym (any_of_job (λ o. not (is_lost o)) p job bs h) k) && nat_lt (sym (count_of_job is_lost p job bs h) k) 3)
    ∙ (λ k. not (told_is os k) && few_is (count_by is_lost os) k)
    ∙ sym (waiting_table (list_any is_success os) (list_any is_failure os) (list_any is_running os) (nat_le 3 (count_by is_lost os)))

failed_table : (s f r n : Bool) → is_failed_slot (cond s slot.Success (cond (f || n) slot.Failure (cond r slot.Running slot.Waiting))) ≡ (not s && (f || n))
failed_table true f r n = refl
failed_table false true r n = refl
failed_table false false r true = refl
failed_table false false true false = refl
failed_table false false false false = refl

fails_is : (p : Place) (bs : List Build) (job : Job) → live_builds_count bs p ≡ true → job_fails p.item.serial bs job ≡ is_failed_slot (raw_slot_of bs p job)
fails_is p bs job h =
    let os = outcomes_of bs p job in
    (λ k. not (sym (any_of_job is_success p job bs h) k) && (sym (any_of_job is_failure p job bs h) k || nat_le 3 (sym (count_of_job is_lost p job bs h) k)))
    ∙ sym (failed_table (list_any is_success os) (list_any is_failure os) (list_any is_running os) (nat_le 3 (count_by is_lost os)))

none_at : (jobs : List Job) (n : ℕ) → position_from (λ (j : Job). false) n jobs ≡ None
none_at [] n = refl
none_at (j ∷ jobs) n = none_at jobs (n + 1)

none_first : (jobs : List Job) → position (λ (j : Job). false) jobs ≡ None
none_first jobs = position_from-zero (λ (j : Job). false) jobs ∙ none_at jobs 0

-- the first waiting job of a cut item is none, and else that of its raw slots
first_waits : (bs : List Build) (p : Place) → first_waiting bs p ≡ cond (is_blocked p || p.fast && has_failure bs p) None (position (λ j. is_waiting_slot (raw_slot_of bs p j)) p.jobs)
first_waits bs p = by_blocked (is_blocked p) refl
  where
    by_cut : (t : Bool) → position (λ j. is_waiting_slot (cond t (cut_slot (raw_slot_of bs p j)) (raw_slot_of bs p j))) p.jobs ≡ cond t None (position (λ j. is_waiting_slot (raw_slot_of bs p j)) p.jobs)
    by_cut true = ap (λ (f : Job → Bool). position f p.jobs) (λ k j. waiting_cut true (raw_slot_of bs p j) k) ∙ none_first p.jobs
    by_cut false = refl

    drop_true : (f h : Bool) → f && true && h ≡ (f && h)
    drop_true true h = refl
    drop_true false h = refl

    by_blocked : (t : Bool) → is_blocked p ≡ t → cond t None (position (λ j. is_waiting_slot (slot_of bs p j)) p.jobs) ≡ cond (t || p.fast && has_failure bs p) None (position (λ j. is_waiting_slot (raw_slot_of bs p j)) p.jobs)
    by_blocked true e = refl
    by_blocked false e =
        by_cut (is_cut bs p)
        ∙ ap (λ t. cond t None (position (λ j. is_waiting_slot (raw_slot_of bs p j)) p.jobs))
        (ap (λ t. p.fast && not t && has_failure bs p) e ∙ drop_true p.fast (has_failure bs p))

job_is : (p : Place) (i : ItemRow) (j : ItemJobs) (bs : List Build) → p.item.serial ≡ i.serial → p.jobs ≡ j.jobs.now → is_blocked p ≡ j.blocked → p.fast ≡ j.fast → live_builds_count bs p ≡ true → waiting_job bs i j ≡ first_waiting bs p
job_is p i j bs es ej eb ef h =
    (λ k. cond (sym eb k || sym ef k && list_any (λ x. x.voting && job_fails (sym es k) bs x) (sym ej k)) None (position (waits (sym es k) bs) (sym ej k)))
    ∙ (λ k. cond (is_blocked p || p.fast && list_any (λ x. x.voting && fails_is p bs x h k) p.jobs) None (position (λ x. waits_is p bs x h k) p.jobs))
    ∙ sym (first_waits bs p)

first_passes : (bs : List Build) (p : Place) (ps : List Place) → AllPass (live_builds_count bs) (p ∷ ps) → live_builds_count bs p ≡ true
first_passes bs p ps h = All-head (λ x. live_builds_count bs x ≡ true) p ps h

choice_taken : (w : ℕ) (bs : List Build) (ps : List Place) (items : List ItemRow) (jobs : List ItemJobs) → TellOf ps items jobs → AllPass (live_builds_count bs) ps → choice_by bs (take w items) jobs ≡ first_choice bs (take w ps)
choice_taken zero bs ps items jobs t h = refl
choice_taken (suc w) bs [] [] [] t h = refl
choice_taken (suc w) bs [] [] (j ∷ jobs) t h = absurd t
choice_taken (suc w) bs [] (i ∷ items) jobs t h = absurd t
choice_taken (suc w) bs (p ∷ ps) [] jobs t h = absurd t
choice_taken (suc w) bs (p ∷ ps) (i ∷ items) [] t h = absurd t
choice_taken (suc w) bs (p ∷ ps) (i ∷ items) (j ∷ jobs) t h =
    λ k. elim (job_is p i j bs t.0 t.1 t.2 t.3 (first_passes bs p ps h) k) [ Some n ↦ Some (sym t.0 k, n) | None ↦ choice_taken w bs ps items jobs t.4 (All-tail (λ x. live_builds_count bs x ≡ true) p ps h) k ]

choice_all : (bs : List Build) (ps : List Place) (items : List ItemRow) (jobs : List ItemJobs) → TellOf ps items jobs → AllPass (live_builds_count bs) ps → choice_by bs items jobs ≡ first_choice bs ps
choice_all bs [] [] [] t h = refl
choice_all bs [] [] (j ∷ jobs) t h = absurd t
choice_all bs [] (i ∷ items) jobs t h = absurd t
choice_all bs (p ∷ ps) [] jobs t h = absurd t
choice_all bs (p ∷ ps) (i ∷ items) [] t h = absurd t
choice_all bs (p ∷ ps) (i ∷ items) (j ∷ jobs) t h =
    λ k. elim (job_is p i j bs t.0 t.1 t.2 t.3 (first_passes bs p ps h) k) [ Some n ↦ Some (sym t.0 k, n) | None ↦ choice_all bs ps items jobs t.4 (All-tail (λ x. live_builds_count bs x ≡ true) p ps h) k ]

pub chooses : (w : ℕ) (bs : List Build) (ps : List Place) (items : List ItemRow) (jobs : List ItemJobs) → TellOf ps items jobs → AllPass (live_builds_count bs) ps → choice_by bs (within_window w items) jobs ≡ first_choice bs (within_window w ps)
chooses w bs ps items jobs t h = by_bound (w == 0)
  where
    by_bound : (b : Bool) → choice_by bs (cond b items (take w items)) jobs ≡ first_choice bs (cond b ps (take w ps))
    by_bound true = choice_all bs ps items jobs t h
    by_bound false = choice_taken w bs ps items jobs t h
