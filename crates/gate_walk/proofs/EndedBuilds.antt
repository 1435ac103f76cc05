-- What becomes of the builds when one ends, or when their item leaves.
use Rattle.std.proofs.Common.{◌≡◌, ℕ, suc, ◌+◌, ◌≤◌, Bool, true, false, not, ◌&&◌, ◌||◌, cond, List, [], ◌∷◌, map}
use Rattle.std.proofs.Common.{length, ◌⊎◌, inl, inr, ⊎_elim, refl, sym, ap, ◌∙◌, subst, true≢false, arith}
use Rattle.std.specs.Prelude.{◌==◌, filter, count_by, nat_le}
use Rattle.std.specs.List.{list_any}
use Rattle.std.proofs.lemmas.Bool.{and_parts, eqb-true, eq-eqb, leb-true}
use Rattle.gate_types.specs.declared.config.Job.{Job}
use Rattle.gate_types.specs.declared.records.Build.{Build}
use Rattle.gate_types.specs.declared.records.Outcome.{Outcome}
use Rattle.gate_types.specs.declared.records.Outcome.TheVariants as outcome
use Rattle.gate_types.specs.declared.records.Slot.TheVariants as slot
use Rattle.gate_types.specs.declared.deliveries.Ending.{Ending}
use Rattle.gate_types.specs.Names.{same_name}
use Rattle.gate_types.specs.State.{State}
use Rattle.gate_types.specs.Line.{Place, same_entries, line, ran_on}
use Rattle.gate_types.specs.Slot.{is_blocked, is_success, is_failure, is_lost, is_running, counts, outcomes_of}
use Rattle.gate_types.specs.Slot.{raw_slot_of, slot_of_outcomes, is_failed_slot}
use Rattle.gate_types.specs.Standing.{is_failing}
use Rattle.gate_types.specs.Rebase.{with_live}
use Rattle.gate_types.specs.Sweep.{without_runs}
use Rattle.gate_types.specs.Step.{with_ending}
use Rattle.gate_types.specs.Lawful.{live_builds_of, is_single}
use Rattle.gate_types.specs.Rising.{RisesFrom, In}
use Rattle.std.proofs.lemmas.List.Sums.{sum_by-cons}
use Rattle.gate_laws.proofs.Members.{to_filter}
use Rattle.gate_laws.proofs.EndedBuild.{ended, ended_serial}
use Rattle.gate_queue_rules.proofs.Ordered.{build_number}
use Rattle.gate_walk.proofs.Slots.{is_live_of, all_count, count_all}
use Rattle.gate_walk.proofs.Moved.{Elsewhere}

-- ---- builds that a function changes

pub else_map : (t : ℕ) (f : Build → Build) (bs : List Build) → ((b : Build) → (f b).serial ≡ b.serial) → ((b : Build) → In b bs → (b.serial == t) ≡ false → f b ≡ b) → Elsewhere t bs (map f bs)
else_map t f [] hs h = tt
else_map t f (b ∷ bs) hs h = (hs b, h b (inl refl), else_map t f bs hs (λ x m. h x (inr m)))

pub rise_map : (f : Build → Build) (n : ℕ) (bs : List Build) → ((b : Build) → (f b).number ≡ b.number) → RisesFrom build_number n bs → RisesFrom build_number n (map f bs)
rise_map f n [] h r = tt
rise_map f n (b ∷ bs) h r = (
  subst (λ m. n ≤ m) (sym (h b)) r.0,
  subst (λ m. RisesFrom build_number (suc m) (map f bs)) (sym (h b)) (rise_map f (suc b.number) bs h r.1),
)

-- ---- the item leaves

off_run : (l r : Bool) → l && not (r && false) ≡ l
off_run true true = refl
off_run true false = refl
off_run false r = refl

pub stops_elsewhere : (t : ℕ) (bs : List Build) → Elsewhere t bs (without_runs (λ n. n == t) bs)
stops_elsewhere t bs = else_map t (λ b. with_live (b.live && not (is_running b.outcome && b.serial == t)) b) bs (λ b. refl)
    (λ b m e. λ k. with_live ((ap (λ x. b.live && not (is_running b.outcome && x)) e ∙ off_run b.live (is_running b.outcome)) k) b)

pub stops_rise : (t n : ℕ) (bs : List Build) → RisesFrom build_number n bs → RisesFrom build_number n (without_runs (λ m. m == t) bs)
stops_rise t n bs r = rise_map (λ b. with_live (b.live && not (is_running b.outcome && b.serial == t)) b) n bs (λ b. refl) r

-- ---- a build ends

ended_number : (e : Ending) (n : ℕ) (b : Build) → (ended e n b).number ≡ b.number
ended_number e n b = at (b.number == n)
  where
    at : (t : Bool) → (cond t (with_ending e b) b).number ≡ b.number
    at true = refl
    at false = refl

number_above : (n : ℕ) (bs : List Build) (b : Build) → RisesFrom build_number n bs → In b bs → n ≤ b.number
number_above n [] b r m = absurd m
number_above n (x ∷ xs) b r m =
    ⊎_elim (λ (e : x ≡ b). subst (λ (y : Build). n ≤ y.number) e r.0)
    (λ (h : In b xs). let i : suc x.number ≤ b.number = number_above (suc x.number) xs b r.1 h in let j : n ≤ x.number = r.0 in omega arith) m

-- a number is one build's
pub one_number : (n : ℕ) (bs : List Build) (a b : Build) → RisesFrom build_number n bs → In a bs → In b bs → a.number ≡ b.number → a ≡ b
one_number n [] a b r ma mb e = absurd ma
one_number n (x ∷ xs) a b r ma mb e =
    ⊎_elim
    (λ (ea : x ≡ a). ⊎_elim (λ (eb : x ≡ b). sym ea ∙ eb)
    (λ (hb : In b xs). let up : suc x.number ≤ b.number = number_above (suc x.number) xs b r.1 hb in let same : x.number ≡ a.number = ap (λ (y : Build). y.number) ea in absurd (omega (arith, e))) mb)
    (λ (ha : In a xs). ⊎_elim
    (λ (eb : x ≡ b). let up : suc x.number ≤ a.number = number_above (suc x.number) xs a r.1 ha in let same : x.number ≡ b.number = ap (λ (y : Build). y.number) eb in absurd (omega (arith, e)))
    (λ (hb : In b xs). one_number (suc x.number) xs a b r.1 ha hb e) mb) ma

pub ended_elsewhere : (e : Ending) (b : Build) (t : ℕ) (bs : List Build) → RisesFrom build_number 0 bs → In b bs → b.serial ≡ t → Elsewhere t bs (map (ended e b.number) bs)
ended_elsewhere e b t bs r mb s = else_map t (ended e b.number) bs (ended_serial e b.number) (λ x mx o. at x mx o (x.number == b.number) refl)
  where
    at : (x : Build) → In x bs → (x.serial == t) ≡ false → (y : Bool) → (x.number == b.number) ≡ y → cond (x.number == b.number) (with_ending e x) x ≡ x
    at x mx o false k = ap (λ y. cond y (with_ending e x) x) k
    at x mx o true k =
        let same = one_number 0 bs x b r mx mb (eqb-true x.number b.number k) in
        absurd (true≢false (sym (eq-eqb x.serial t (ap (λ (y : Build). y.serial) same ∙ s)) ∙ o))

pub ended_rise : (e : Ending) (m n : ℕ) (bs : List Build) → RisesFrom build_number n bs → RisesFrom build_number n (map (ended e m) bs)
ended_rise e m n bs r = rise_map (ended e m) n bs (ended_number e m) r

ended_counts : (e : Ending) (n : ℕ) (p : Place) (b : Build) → counts p (ended e n b) ≡ counts p b
ended_counts e n p b = at (b.number == n)
  where
    at : (t : Bool) → counts p (cond t (with_ending e b) b) ≡ counts p b
    at true = refl
    at false = refl

ended_live : (e : Ending) (n : ℕ) (p : Place) (b : Build) → is_live_of p (ended e n b) ≡ is_live_of p b
ended_live e n p b = at (b.number == n)
  where
    at : (t : Bool) → is_live_of p (cond t (with_ending e b) b) ≡ is_live_of p b
    at true = refl
    at false = refl

-- each live build counts still
pub ended_count : (e : Ending) (n : ℕ) (p : Place) (bs : List Build) → all_count (map (ended e n) bs) p ≡ all_count bs p
ended_count e n p [] = refl
ended_count e n p (b ∷ bs) = λ k. (not (ended_live e n p b k) || ended_counts e n p b k) && ended_count e n p bs k

-- ---- a job that fails has no running build

turn : (j l s : Bool) → j && (l && s) ≡ (l && s && j)
turn true true true = refl
turn true true false = refl
turn true false s = refl
turn false true true = refl
turn false true false = refl
turn false false s = refl

-- the counting builds of a job are its live ones
same_builds : (p : Place) (j : Job) (bs : List Build) → all_count bs p ≡ true → filter (λ b. same_name b.job j.name && counts p b) bs ≡ filter (λ b. b.live && b.serial == p.item.serial && same_name b.job j.name) bs
same_builds p j [] h = refl
same_builds p j (b ∷ bs) h =
    let both = and_parts (not (is_live_of p b) || counts p b) (all_count bs p) h in
    let one = ap (λ t. same_name b.job j.name && t) (count_all b.live (b.serial == p.item.serial) (not (is_blocked p)) (same_entries (ran_on p.landings b) (line p)) both.0) ∙ turn (same_name b.job j.name) b.live (b.serial == p.item.serial) in
    λ k. cond (one k) (b ∷ same_builds p j bs both.1 k) (same_builds p j bs both.1 k)

-- ---- outcomes, one of which is running

abbrev not_lost : Outcome → Bool
not_lost o = not (is_lost o)

count_cons : (test : Outcome → Bool) (o : Outcome) (os : List Outcome) (t : Bool) → test o ≡ t → count_by test (o ∷ os) ≡ cond t 1 0 + count_by test os
count_cons test o os t e = sum_by-cons (λ x. cond (test x) 1 0) o os ∙ ap (λ x. cond x 1 0 + count_by test os) e

split_count : (os : List Outcome) → count_by is_lost os + count_by not_lost os ≡ length os
split_count [] = refl
split_count (o ∷ os) = at (is_lost o) refl (split_count os)
  where
    at : (t : Bool) → is_lost o ≡ t → count_by is_lost os + count_by not_lost os ≡ length os → count_by is_lost (o ∷ os) + count_by not_lost (o ∷ os) ≡ suc (length os)
    at true e h =
        let a : count_by is_lost (o ∷ os) ≡ 1 + count_by is_lost os = count_cons is_lost o os true e in
        let b : count_by not_lost (o ∷ os) ≡ 0 + count_by not_lost os = count_cons not_lost o os false (ap not e) in
        omega arith
    at false e h =
        let a : count_by is_lost (o ∷ os) ≡ 0 + count_by is_lost os = count_cons is_lost o os false e in
        let b : count_by not_lost (o ∷ os) ≡ 1 + count_by not_lost os = count_cons not_lost o os true (ap not e) in
        omega arith

-- one that passes a test which no lost one passes
some_count : (test : Outcome → Bool) → ((o : Outcome) → test o ≡ true → not_lost o ≡ true) → (os : List Outcome) → list_any test os ≡ true → 1 ≤ count_by not_lost os
some_count test k [] h = absurd (true≢false (sym h))
some_count test k (o ∷ os) h = at (test o) refl (not_lost o) refl (some_count test k os) h
  where
    at : (t : Bool) → test o ≡ t → (l : Bool) → not_lost o ≡ l → (list_any test os ≡ true → 1 ≤ count_by not_lost os) → test o || list_any test os ≡ true → 1 ≤ count_by not_lost (o ∷ os)
    at true e true el ih h2 = let b : count_by not_lost (o ∷ os) ≡ 1 + count_by not_lost os = count_cons not_lost o os true el in omega arith
    at true e false el ih h2 = absurd (true≢false (sym (k o e) ∙ el))
    at false e true el ih h2 = let b : count_by not_lost (o ∷ os) ≡ 1 + count_by not_lost os = count_cons not_lost o os true el in omega arith
    at false e false el ih h2 =
        let b : count_by not_lost (o ∷ os) ≡ 0 + count_by not_lost os = count_cons not_lost o os false el in
        let rest : 1 ≤ count_by not_lost os = ih (ap (λ t. t || list_any test os) (sym e) ∙ h2) in
        omega arith

running_not_lost : (o : Outcome) → is_running o ≡ true → not_lost o ≡ true
running_not_lost outcome.Running h = refl
running_not_lost outcome.Success h = absurd (true≢false (sym h))
running_not_lost outcome.Failure h = absurd (true≢false (sym h))
running_not_lost outcome.Lost h = absurd (true≢false (sym h))

failure_not_lost : (o : Outcome) → is_failure o ≡ true → not_lost o ≡ true
failure_not_lost outcome.Running h = absurd (true≢false (sym h))
failure_not_lost outcome.Success h = absurd (true≢false (sym h))
failure_not_lost outcome.Failure h = refl
failure_not_lost outcome.Lost h = absurd (true≢false (sym h))

two_count : (os : List Outcome) → list_any is_running os ≡ true → list_any is_failure os ≡ true → 2 ≤ count_by not_lost os
two_count [] h k = absurd (true≢false (sym h))
two_count (outcome.Running ∷ os) h k =
    let b : count_by not_lost (outcome.Running ∷ os) ≡ 1 + count_by not_lost os = count_cons not_lost outcome.Running os true refl in
    let rest : 1 ≤ count_by not_lost os = some_count is_failure failure_not_lost os k in
    omega arith
two_count (outcome.Failure ∷ os) h k =
    let b : count_by not_lost (outcome.Failure ∷ os) ≡ 1 + count_by not_lost os = count_cons not_lost outcome.Failure os true refl in
    let rest : 1 ≤ count_by not_lost os = some_count is_running running_not_lost os h in
    omega arith
two_count (outcome.Success ∷ os) h k =
    let b : count_by not_lost (outcome.Success ∷ os) ≡ 1 + count_by not_lost os = count_cons not_lost outcome.Success os true refl in
    let rest : 2 ≤ count_by not_lost os = two_count os h k in
    omega arith
two_count (outcome.Lost ∷ os) h k =
    let b : count_by not_lost (outcome.Lost ∷ os) ≡ 0 + count_by not_lost os = count_cons not_lost outcome.Lost os false refl in
    let rest : 2 ≤ count_by not_lost os = two_count os h k in
    omega arith

-- at most three, at most one not lost, one of them running: no failure
not_failed : (os : List Outcome) → length os ≤ 3 → count_by not_lost os ≤ 1 → list_any is_running os ≡ true → is_failed_slot (slot_of_outcomes os) ≡ false
not_failed os three one run =
    by_tests (list_any is_success os) (list_any is_failure os) refl (nat_le 3 (count_by is_lost os)) refl (list_any is_running os)
  where
    by_tests : (a f : Bool) → list_any is_failure os ≡ f → (l : Bool) → nat_le 3 (count_by is_lost os) ≡ l → (r : Bool) → is_failed_slot (cond a slot.Success (cond (f || l) slot.Failure (cond r slot.Running slot.Waiting))) ≡ false
    by_tests true f ef l el r = refl
    by_tests false true ef l el r = let two : 2 ≤ count_by not_lost os = two_count os run ef in absurd (omega arith)
    by_tests false false ef true el r =
        let lost : 3 ≤ count_by is_lost os = leb-true 3 (count_by is_lost os) el in
        let all : count_by is_lost os + count_by not_lost os ≡ length os = split_count os in
        let some : 1 ≤ count_by not_lost os = some_count is_running running_not_lost os run in
        absurd (omega arith)
    by_tests false false ef false el true = refl
    by_tests false false ef false el false = refl

count_outcomes : (bs : List Build) → count_by (λ (b : Build). not (is_lost b.outcome)) bs ≡ count_by not_lost (map (λ (b : Build). b.outcome) bs)
count_outcomes [] = refl
count_outcomes (b ∷ bs) =
    sum_by-cons (λ (x : Build). cond (not (is_lost x.outcome)) 1 0) b bs
    ∙ ap (λ m. cond (not (is_lost b.outcome)) 1 0 + m) (count_outcomes bs)
    ∙ sym (sum_by-cons (λ o. cond (not_lost o) 1 0) b.outcome (map (λ (x : Build). x.outcome) bs))

length_outcomes : (bs : List Build) → length (map (λ (b : Build). b.outcome) bs) ≡ length bs
length_outcomes [] = refl
length_outcomes (b ∷ bs) = ap suc (length_outcomes bs)

has_running : (bs : List Build) (b : Build) → In b bs → is_running b.outcome ≡ true → list_any is_running (map (λ (x : Build). x.outcome) bs) ≡ true
has_running [] b m e = absurd m
has_running (x ∷ xs) b m e =
    ⊎_elim (λ (s : x ≡ b). ap (λ t. t || list_any is_running (map (λ (y : Build). y.outcome) xs)) (ap (λ (y : Build). is_running y.outcome) s ∙ e))
    (λ (r : In b xs). ap (λ t. is_running x.outcome || t) (has_running xs b r e) ∙ on (is_running x.outcome)) m
  where
    on : (t : Bool) → t || true ≡ true
    on true = refl
    on false = refl

-- the job of a running build hasn't failed
running_job : (s : State) (p : Place) (j : Job) (b : Build) → all_count s.builds p ≡ true → is_single s p j ≡ true → In b s.builds → b.live && is_running b.outcome ≡ true → b.serial ≡ p.item.serial → same_name b.job j.name ≡ true →
    is_failed_slot (raw_slot_of s.builds p j) ≡ false
running_job s p j b h single mb run own name =
    let parts = and_parts (nat_le (length (live_builds_of s p j)) 3) (nat_le (count_by (λ x. not (is_lost x.outcome)) (live_builds_of s p j)) 1) single in
    let same : outcomes_of s.builds p j ≡ map (λ (x : Build). x.outcome) (live_builds_of s p j) = ap (λ (l : List Build). map (λ (x : Build). x.outcome) l) (same_builds p j s.builds h) in
    let os = map (λ (x : Build). x.outcome) (live_builds_of s p j) in
    let both = and_parts b.live (is_running b.outcome) run in
    let there : In b (live_builds_of s p j) = to_filter (λ x. x.live && x.serial == p.item.serial && same_name x.job j.name) s.builds b mb (λ k. both.0 k && eq-eqb b.serial p.item.serial own k && name k) in
    let three : length (live_builds_of s p j) ≤ 3 = leb-true (length (live_builds_of s p j)) 3 parts.0 in
    let one : count_by (λ (x : Build). not (is_lost x.outcome)) (live_builds_of s p j) ≤ 1 = leb-true (count_by (λ x. not (is_lost x.outcome)) (live_builds_of s p j)) 1 parts.1 in
    ap (λ (l : List Outcome). is_failed_slot (slot_of_outcomes l)) same
    ∙ not_failed os (subst (λ m. m ≤ 3) (sym (length_outcomes (live_builds_of s p j))) three) (subst (λ m. m ≤ 1) (count_outcomes (live_builds_of s p j)) one) (has_running (live_builds_of s p j) b there both.1)

-- of another job nothing changes
other_job : (e : Ending) (b : Build) (p : Place) (j : Job) (all bs : List Build) → RisesFrom build_number 0 all → In b all → ((x : Build) → In x bs → In x all) → same_name b.job j.name ≡ false → outcomes_of (map (ended e b.number) bs) p j ≡ outcomes_of bs p j
other_job e b p j all [] r mb sub o = refl
other_job e b p j all (x ∷ xs) r mb sub o = at (x.number == b.number) refl (other_job e b p j all xs r mb (λ y m. sub y (inr m)) o)
  where
    none : (f : Bool) (y : Build) (l : List Build) → f ≡ false → map (λ (z : Build). z.outcome) (cond f (y ∷ l) l) ≡ map (λ (z : Build). z.outcome) l
    none f y l h = ap (λ t. map (λ (z : Build). z.outcome) (cond t (y ∷ l) l)) h

    push : (f : Bool) (y : Build) (l : List Build) → map (λ (z : Build). z.outcome) (cond f (y ∷ l) l) ≡ cond f (y.outcome ∷ map (λ (z : Build). z.outcome) l) (map (λ (z : Build). z.outcome) l)
    push true y l = refl
    push false y l = refl

    at : (t : Bool) → (x.number == b.number) ≡ t → outcomes_of (map (ended e b.number) xs) p j ≡ outcomes_of xs p j → outcomes_of (map (ended e b.number) (x ∷ xs)) p j ≡ outcomes_of (x ∷ xs) p j
    at true k ih =
        let same = one_number 0 all x b r (sub x (inl refl)) mb (eqb-true x.number b.number k) in
        let off : same_name x.job j.name ≡ false = ap (λ (y : Build). same_name y.job j.name) same ∙ o in
        ap (λ t. outcomes_of (cond t (with_ending e x) x ∷ map (ended e b.number) xs) p j) k
        ∙ none (same_name x.job j.name && counts p (with_ending e x)) (with_ending e x) (filter (λ y. same_name y.job j.name && counts p y) (map (ended e b.number) xs)) (ap (λ t. t && counts p (with_ending e x)) off)
        ∙ ih
        ∙ sym (none (same_name x.job j.name && counts p x) x (filter (λ y. same_name y.job j.name && counts p y) xs) (ap (λ t. t && counts p x) off))
    at false k ih =
        ap (λ t. outcomes_of (cond t (with_ending e x) x ∷ map (ended e b.number) xs) p j) k
        ∙ push (same_name x.job j.name && counts p x) x (filter (λ y. same_name y.job j.name && counts p y) (map (ended e b.number) xs))
        ∙ (λ i. cond (same_name x.job j.name && counts p x) (x.outcome ∷ ih i) (ih i))
        ∙ sym (push (same_name x.job j.name && counts p x) x (filter (λ y. same_name y.job j.name && counts p y) xs))

-- a failing item that has a running build is failing still when that ends
pub ended_fails : (s : State) (p : Place) (b : Build) (e : Ending) → RisesFrom build_number 0 s.builds → all_count s.builds p ≡ true → ((j : Job) → In j p.jobs → is_single s p j ≡ true) → In b s.builds → b.live && is_running b.outcome ≡ true → b.serial ≡ p.item.serial →
    is_failing s.builds p ≡ true → is_failing (map (ended e b.number) s.builds) p ≡ true
ended_fails s p b e r h single mb run own f =
    ⊎_elim (λ (x : is_blocked p ≡ true). ap (λ t. t || list_any (λ j. j.voting && is_failed_slot (raw_slot_of (map (ended e b.number) s.builds) p j)) p.jobs) x)
    (λ (x : list_any (λ j. j.voting && is_failed_slot (raw_slot_of s.builds p j)) p.jobs ≡ true). ap (λ t. is_blocked p || t) (each p.jobs single x) ∙ on (is_blocked p))
    (or_split (is_blocked p) (list_any (λ j. j.voting && is_failed_slot (raw_slot_of s.builds p j)) p.jobs) f)
  where
    on : (t : Bool) → t || true ≡ true
    on true = refl
    on false = refl

    or_split : (x y : Bool) → x || y ≡ true → (x ≡ true) ⊎ (y ≡ true)
    or_split true y k = inl refl
    or_split false y k = inr k

    and_two : (x y z : Bool) → x && y ≡ true → (y ≡ true → z ≡ true) → x && z ≡ true
    and_two true y z k g = g k
    and_two false y z k g = absurd (true≢false (sym k))

    job : (j : Job) → is_single s p j ≡ true → is_failed_slot (raw_slot_of s.builds p j) ≡ true → is_failed_slot (raw_slot_of (map (ended e b.number) s.builds) p j) ≡ true
    job j sj k = by_name (same_name b.job j.name) refl
      where
        by_name : (t : Bool) → same_name b.job j.name ≡ t → is_failed_slot (raw_slot_of (map (ended e b.number) s.builds) p j) ≡ true
        by_name true n = absurd (true≢false (sym k ∙ running_job s p j b h sj mb run own n))
        by_name false n = ap (λ (l : List Outcome). is_failed_slot (slot_of_outcomes l)) (other_job e b p j s.builds s.builds r mb (λ x m. m) n) ∙ k

    each : (js : List Job) → ((j : Job) → In j js → is_single s p j ≡ true) → list_any (λ j. j.voting && is_failed_slot (raw_slot_of s.builds p j)) js ≡ true → list_any (λ j. j.voting && is_failed_slot (raw_slot_of (map (ended e b.number) s.builds) p j)) js ≡ true
    each [] sj k = absurd (true≢false (sym k))
    each (j ∷ js) sj k =
        ⊎_elim (λ (x : j.voting && is_failed_slot (raw_slot_of s.builds p j) ≡ true). ap (λ t. t || list_any (λ i. i.voting && is_failed_slot (raw_slot_of (map (ended e b.number) s.builds) p i)) js) (and_two j.voting (is_failed_slot (raw_slot_of s.builds p j)) (is_failed_slot (raw_slot_of (map (ended e b.number) s.builds) p j)) x (job j (sj j (inl refl)))))
        (λ (x : list_any (λ i. i.voting && is_failed_slot (raw_slot_of s.builds p i)) js ≡ true). ap (λ t. j.voting && is_failed_slot (raw_slot_of (map (ended e b.number) s.builds) p j) || t) (each js (λ i m. sj i (inr m)) x) ∙ on (j.voting && is_failed_slot (raw_slot_of (map (ended e b.number) s.builds) p j)))
        (or_split (j.voting && is_failed_slot (raw_slot_of s.builds p j)) (list_any (λ i. i.voting && is_failed_slot (raw_slot_of s.builds p i)) js) k)
