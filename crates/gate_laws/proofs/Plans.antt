-- Plans: what is found under a serial once some went or one came, and what that leaves of places.
use Rattle.std.proofs.Common.{◌≡◌, ℕ, Bool, true, false, not, ◌&&◌, ◌||◌, cond, Option, Some, None, List, [], ◌∷◌}
use Rattle.std.proofs.Common.{map, refl, sym, ap, ◌∙◌, subst, inl, inr, ◌≤◌, true≢false}
use Rattle.std.specs.Prelude.{◌==◌, nat_lt, find, unwrap_or}
use Rattle.std.specs.List.{list_any}
use Rattle.std.proofs.lemmas.Bool.{eq-eqb, eqb-true, ne_eqb, or_cases}
use Rattle.gate_types.specs.declared.records.Landing.{Landing}
use Rattle.gate_types.specs.declared.records.Plan.{Plan}
use Rattle.gate_types.specs.Settings.{Settings}
use Rattle.gate_types.specs.State.{Item, Queue, State, put_by, plan_in, plan_of, put_plan}
use Rattle.gate_types.specs.Standing.{needs_of, place_of, places, places_after}
use Rattle.gate_types.specs.Sweep.{without_plans}
use Rattle.gate_types.specs.Step.{is_of_change}
use Rattle.gate_types.specs.Lawful.{IsSound, is_of_an_item, is_of_a_landing}
use Rattle.gate_types.specs.Keys.{serial_of_plan}
use Rattle.gate_types.specs.Rising.{In}
use Rattle.gate_laws.proofs.Members.{none_to, map_same, filter_all, any_from, any_to, found, not_found}
use Rattle.gate_laws.proofs.Alone.{serial_alone}
use Rattle.gate_laws.proofs.Serials.{landing_unqueued}
use Rattle.gate_laws.proofs.Drawn.{item_drawn, landing_drawn}

-- a serial is that of a plan
abbrev pub is_under : ℕ → Plan → Bool
is_under n p = p.serial == n

-- where there is no plan
abbrev pub no_plan : ℕ → Plan
no_plan n = record { serial = n; jobs = []; fast = false }

-- ---- plans that go

find_left : (leaves : ℕ → Bool) (ps : List Plan) (n : ℕ) →
    ((p : Plan) → In p ps → p.serial == n ≡ true → leaves p.serial ≡ false) →
    find (is_under n) (without_plans leaves ps) ≡ find (is_under n) ps
find_left leaves [] n h = refl
find_left leaves (p ∷ ps) n h =
    by_test (leaves p.serial) refl (p.serial == n) refl (find_left leaves ps n (λ q m. h q (inr m)))
  where
    by_test : (t : Bool) → leaves p.serial ≡ t → (u : Bool) → p.serial == n ≡ u →
        find (is_under n) (without_plans leaves ps) ≡ find (is_under n) ps →
        find (is_under n) (cond (not t) (p ∷ without_plans leaves ps) (without_plans leaves ps))
        ≡ cond u (Some p) (find (is_under n) ps)
    by_test true l true k ih = absurd (true≢false (sym l ∙ h p (inl refl) k))
    by_test true l false k ih = ih
    by_test false l u k ih = λ i. cond (k i) (Some p) (ih i)

-- what is found under a serial stays, where no plan of it goes
pub plan_left : (leaves : ℕ → Bool) (ps : List Plan) (n : ℕ) →
    ((p : Plan) → In p ps → p.serial == n ≡ true → leaves p.serial ≡ false) →
    plan_in (without_plans leaves ps) n ≡ plan_in ps n
plan_left leaves ps n h = ap (λ o. unwrap_or o (no_plan n)) (find_left leaves ps n h)

-- so it does where the serial doesn't leave
pub plan_stays : (leaves : ℕ → Bool) (ps : List Plan) (n : ℕ) → leaves n ≡ false →
    plan_in (without_plans leaves ps) n ≡ plan_in ps n
plan_stays leaves ps n e = plan_left leaves ps n (λ p m k. ap leaves (eqb-true p.serial n k) ∙ e)

-- where none goes
pub plans_all_stay : (ps : List Plan) (leaves : ℕ → Bool) → ((n : ℕ) → leaves n ≡ false) → without_plans leaves ps ≡ ps
plans_all_stay ps leaves h = filter_all (λ p. not (leaves p.serial)) ps (λ p m. ap not (h p.serial))

-- a plan is there still, if it was and doesn't go
pub any_stays : (leaves : ℕ → Bool) (ps : List Plan) (n : ℕ) →
    list_any (is_under n) (without_plans leaves ps) ≡ (not (leaves n) && list_any (is_under n) ps)
any_stays leaves [] n = off (not (leaves n))
  where
    off : (b : Bool) → false ≡ (b && false)
    off true = refl
    off false = refl
any_stays leaves (p ∷ ps) n = by_test (leaves p.serial) refl (p.serial == n) refl (any_stays leaves ps n)
  where
    first : (b x : Bool) → b ≡ false → true ≡ (not b && true)
    first true x e = absurd (true≢false e)
    first false x e = refl

    by_test : (t : Bool) → leaves p.serial ≡ t → (u : Bool) → p.serial == n ≡ u →
        list_any (is_under n) (without_plans leaves ps) ≡ (not (leaves n) && list_any (is_under n) ps) →
        list_any (is_under n) (cond (not t) (p ∷ without_plans leaves ps) (without_plans leaves ps))
        ≡ (not (leaves n) && (u || list_any (is_under n) ps))
    by_test true l true k h =
        h ∙ ap (λ b. not b && list_any (is_under n) ps) (sym (ap leaves (eqb-true p.serial n k)) ∙ l)
        ∙ sym (ap (λ b. not b && true) (sym (ap leaves (eqb-true p.serial n k)) ∙ l))
    by_test true l false k h = h
    by_test false l true k h =
        ap (λ b. b || list_any (is_under n) (without_plans leaves ps)) k
        ∙ first (leaves n) true (sym (ap leaves (eqb-true p.serial n k)) ∙ l)
    by_test false l false k h = ap (λ b. b || list_any (is_under n) (without_plans leaves ps)) k ∙ h

-- ---- a plan that comes

pub find_put : (p : Plan) (ps : List Plan) (n : ℕ) →
    find (is_under n) (put_by serial_of_plan p ps) ≡ cond (p.serial == n) (Some p) (find (is_under n) ps)
find_put p [] n = refl
find_put p (x ∷ xs) n = by_equal (p.serial == x.serial) refl (nat_lt p.serial x.serial) (find_put p xs n)
  where
    rest : Option Plan
    rest = find (is_under n) xs

    twice : (t : Bool) → cond t (Some p) rest ≡ cond t (Some p) (cond t (Some x) rest)
    twice true = refl
    twice false = refl

    swap : (s t : Bool) → (s ≡ true → t ≡ true → ⊥) →
        cond t (Some x) (cond s (Some p) rest) ≡ cond s (Some p) (cond t (Some x) rest)
    swap true true d = absurd (d refl refl)
    swap true false d = refl
    swap false t d = refl

    by_equal : (b : Bool) → p.serial == x.serial ≡ b → (l : Bool) →
        find (is_under n) (put_by serial_of_plan p xs) ≡ cond (p.serial == n) (Some p) rest →
        find (is_under n) (cond b (p ∷ xs) (cond l (p ∷ x ∷ xs) (x ∷ put_by serial_of_plan p xs)))
        ≡ cond (p.serial == n) (Some p) (cond (x.serial == n) (Some x) rest)
    by_equal true e l h =
        twice (p.serial == n)
        ∙ ap (λ t. cond (p.serial == n) (Some p) (cond t (Some x) rest))
        (ap (λ m. m == n) (eqb-true p.serial x.serial e))
    by_equal false e true h = refl
    by_equal false e false h = ap (λ o. cond (x.serial == n) (Some x) o) h
        ∙ swap (p.serial == n) (x.serial == n)
        (λ a b. true≢false (sym (eq-eqb p.serial x.serial (eqb-true p.serial n a ∙ sym (eqb-true x.serial n b))) ∙ e))

-- it is found
pub plan_put : (p : Plan) (ps : List Plan) → plan_in (put_by serial_of_plan p ps) p.serial ≡ p
plan_put p ps = ap (λ o. unwrap_or o (no_plan p.serial)) (find_put p ps p.serial
    ∙ ap (λ t. cond t (Some p) (find (is_under p.serial) ps)) (eq-eqb p.serial p.serial refl))

-- any other stays
pub plan_kept : (p : Plan) (ps : List Plan) (n : ℕ) → p.serial == n ≡ false →
    plan_in (put_by serial_of_plan p ps) n ≡ plan_in ps n
plan_kept p ps n e = ap (λ o. unwrap_or o (no_plan n)) (find_put p ps n
    ∙ ap (λ t. cond t (Some p) (find (is_under n) ps)) e)

pub any_put : (p : Plan) (ps : List Plan) (n : ℕ) →
    list_any (is_under n) (put_by serial_of_plan p ps) ≡ (p.serial == n || list_any (is_under n) ps)
any_put p [] n = refl
any_put p (x ∷ xs) n = by_equal (p.serial == x.serial) refl (nat_lt p.serial x.serial) (any_put p xs n)
  where
    twice : (t r : Bool) → t || r ≡ (t || (t || r))
    twice true r = refl
    twice false r = refl

    swap : (s t r : Bool) → t || (s || r) ≡ (s || (t || r))
    swap true true r = refl
    swap true false r = refl
    swap false t r = refl

    by_equal : (b : Bool) → p.serial == x.serial ≡ b → (l : Bool) →
        list_any (is_under n) (put_by serial_of_plan p xs) ≡ (p.serial == n || list_any (is_under n) xs) →
        list_any (is_under n) (cond b (p ∷ xs) (cond l (p ∷ x ∷ xs) (x ∷ put_by serial_of_plan p xs)))
        ≡ (p.serial == n || (x.serial == n || list_any (is_under n) xs))
    by_equal true e l h =
        twice (p.serial == n) (list_any (is_under n) xs)
        ∙ ap (λ t. p.serial == n || (t || list_any (is_under n) xs)) (ap (λ m. m == n) (eqb-true p.serial x.serial e))
    by_equal false e true h = refl
    by_equal false e false h = ap (λ t. x.serial == n || t) h
        ∙ swap (p.serial == n) (x.serial == n) (list_any (is_under n) xs)

-- what is found under the serial of a plan is a plan of that serial
pub plan_there : (ps : List Plan) (n : ℕ) → list_any (is_under n) ps ≡ true →
    In (plan_in ps n) ps × ((plan_in ps n).serial ≡ n)
plan_there ps n h = by_plan (find (is_under n) ps) refl
  where
    by_plan : (o : Option Plan) → find (is_under n) ps ≡ o →
        In (unwrap_or o (no_plan n)) ps × ((unwrap_or o (no_plan n)).serial ≡ n)
    by_plan None e =
        let x = any_from (is_under n) ps h in absurd (true≢false (sym x.2 ∙ not_found (is_under n) ps e x.0 x.1))
    by_plan (Some p) e = let x = found (is_under n) ps p e in (x.0, eqb-true p.serial n x.1)

-- ---- places

-- by what a place is made of
pub same_place : (c : Settings) (s t : State) (q r : Queue) (i : Item) → r.landings ≡ q.landings →
    needs_of t i.change ≡ needs_of s i.change → plan_of t i.serial ≡ plan_of s i.serial →
    place_of c t r i ≡ place_of c s q i
same_place c s t q r i l n p = λ k. record {
  landings = l k;
  ahead = [];
  item = i;
  needs = n k;
  jobs = (p k).jobs;
  fast = (p k).fast;
}

-- where items keep their plans
pub replanned : (c : Settings) (s : State) (plans : List Plan) (q : Queue) (is : List Item) →
    ((i : Item) → In i is → plan_in plans i.serial ≡ plan_of s i.serial) →
    map (place_of c (record s { plans = plans }) q) is ≡ map (place_of c s q) is
replanned c s plans q is h =
    map_same (place_of c (record s { plans = plans }) q) (place_of c s q) is
    (λ i m. same_place c s (record s { plans = plans }) q q i refl refl (h i m))

-- where a plan comes under another serial
pub planned_places : (c : Settings) (s : State) (p : Plan) (q : Queue) →
    ((i : Item) → In i q.items → p.serial == i.serial ≡ false) → places c (put_plan p s) q ≡ places c s q
planned_places c s p q h = ap (places_after s.builds [])
    (replanned c s (put_by serial_of_plan p s.plans) q q.items (λ i m. plan_kept p s.plans i.serial (h i m)))

-- ---- the item of a change leaves

-- an item of another change keeps its plan
pub other_stays : (c : Settings) (s : State) → IsSound c s → (n : ℕ) (q : Queue) → In q s.queues → (i : Item) →
    In i q.items → i.change == n ≡ false → is_of_change n s i.serial ≡ false
other_stays c s h n q mq i mi e =
    none_to (λ (r : Queue). list_any (λ j. j.change == n && j.serial == i.serial) r.items) s.queues (λ r mr.
    none_to (λ (j : Item). j.change == n && j.serial == i.serial) r.items
    (λ j mj. by_serial r mr j mj (j.serial == i.serial) refl))
  where
    off : (b : Bool) → b && false ≡ false
    off true = refl
    off false = refl

    by_serial : (r : Queue) → In r s.queues → (j : Item) → In j r.items → (t : Bool) → j.serial == i.serial ≡ t →
        j.change == n && t ≡ false
    by_serial r mr j mj true k = ap (λ t. t && true)
        (ap (λ (x : Item). x.change == n)
        (serial_alone c s h r q j i mr mq mj mi (eqb-true j.serial i.serial k)).1 ∙ e)
    by_serial r mr j mj false k = off (j.change == n)

-- so does a landing
pub landing_stays : (c : Settings) (s : State) → IsSound c s → (n : ℕ) (q : Queue) → In q s.queues → (l : Landing) →
    In l q.landings → is_of_change n s l.serial ≡ false
landing_stays c s h n q mq l ml =
    none_to (λ (r : Queue). list_any (λ j. j.change == n && j.serial == l.serial) r.items) s.queues (λ r mr.
    none_to (λ (j : Item). j.change == n && j.serial == l.serial) r.items
    (λ j mj. ap (λ t. j.change == n && t)
    (ne_eqb j.serial l.serial (λ e. landing_unqueued c s h r q j l mr mq mj ml (sym e))) ∙ off (j.change == n)))
  where
    off : (b : Bool) → b && false ≡ false
    off true = refl
    off false = refl

-- ---- who has a plan

-- an item or a landing, so its serial was drawn
pub plan_drawn : (c : Settings) (s : State) → IsSound c s → (p : Plan) → In p s.plans → p.serial ≤ s.counters.order
plan_drawn c s h p m =
    elim (or_cases (is_of_an_item s.queues p.serial) (is_of_a_landing s.queues p.serial)
    (sym (h.planned.kept p.serial) ∙ any_to (is_under p.serial) s.plans p m (eq-eqb p.serial p.serial refl))) [
      | inl e ↦ (
          let q = any_from (λ (q : Queue). list_any (λ i. i.serial == p.serial) q.items) s.queues e in
          let i = any_from (λ (i : Item). i.serial == p.serial) q.0.items q.2 in
          subst (λ n. n ≤ s.counters.order) (eqb-true i.0.serial p.serial i.2) (item_drawn c s h q.0 q.1 i.0 i.1))
      | inr e ↦ (
          let q = any_from (λ (q : Queue). list_any (λ l. l.serial == p.serial) q.landings) s.queues e in
          let l = any_from (λ (l : Landing). l.serial == p.serial) q.0.landings q.2 in
          subst (λ n. n ≤ s.counters.order) (eqb-true l.0.serial p.serial l.2) (landing_drawn c s h q.0 q.1 l.0 l.1))
    ]

-- once some went: those that stay, and the landings
pub still_planned : (leaves : ℕ → Bool) (plans : List Plan) (n : ℕ) (items landings items2 landings2 : Bool) →
    list_any (is_under n) plans ≡ (items || landings) → (leaves n ≡ true → items2 ≡ false) →
    (leaves n ≡ true → landings2 ≡ false) → (leaves n ≡ false → items2 ≡ items) → landings2 ≡ landings →
    list_any (is_under n) (without_plans leaves plans) ≡ (items2 || landings2)
still_planned leaves plans n items landings items2 landings2 had gone passed stay same =
    any_stays leaves plans n ∙ by_test (leaves n) refl
  where
    by_test : (t : Bool) → leaves n ≡ t → (not t && list_any (is_under n) plans) ≡ (items2 || landings2)
    by_test true e = λ k. sym (gone e) k || sym (passed e) k
    by_test false e = had ∙ (λ k. sym (stay e) k || sym same k)
