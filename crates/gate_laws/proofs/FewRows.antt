-- Each report, landing, build, ready change has a number of its own among those drawn, so there are at most so many.
use Rattle.std.proofs.Common.{◌≡◌, ℕ, ◌+◌, ◌≤◌, ◌<◌, true, false, Option, Some, None, List, [], ◌∷◌, map, length, ap}
use Rattle.std.proofs.Common.{◌∙◌, subst, inl, inr, arith}
use Rattle.std.specs.Prelude.{nat_le, nat_eq, filter_map, max}
use Rattle.std.specs.List.{flat_map, list_any, cons_option, enumerate_from}
use Rattle.std.specs.List.Sorted.{IsStrictlyIncreasing}
use Rattle.std.proofs.lemmas.Bool.{and_parts, eq-eqb, eqb-true, leb-true, ltb-false}
use Rattle.std.proofs.lemmas.Bool.Decides.{eqb_tells}
use Rattle.std.proofs.lemmas.List.Concat.{flat_map-cons}
use Rattle.std.proofs.lemmas.Map.Steps.{length-le_from_distinct_below}
use Rattle.std.proofs.lemmas.Map.Made.{IsDistinct-from_AllPairs}
use Rattle.std.proofs.lemmas.List.{length-map}
use Rattle.gate_types.specs.declared.records.Build.{Build}
use Rattle.gate_types.specs.declared.records.Change.{Change}
use Rattle.gate_types.specs.declared.records.Report.{Report}
use Rattle.gate_types.specs.Settings.{Settings}
use Rattle.gate_types.specs.declared.records.Ready.{Ready}
use Rattle.gate_types.specs.State.{Queue, State}
use Rattle.gate_types.specs.Step.{is_exhausted}
use Rattle.gate_types.specs.Lawful.{IsSound, serials_of, landing_of, TellsLandings}
use Rattle.gate_types.specs.Forms.{is_change_number, is_change_in_form}
use Rattle.gate_laws.specs.InForm.{RowsAreFew}
use Rattle.gate_laws.proofs.Members.{every, all, any_from, from_map}
use Rattle.gate_laws.proofs.Counts.{times, hits, misses, times-append, times_out, distinct_from, distinct_to}
use Rattle.gate_laws.proofs.Rising.{Rising, rising}
use Rattle.gate_laws.proofs.Alone.{item_serials, report_serials}
use Rattle.gate_laws.proofs.Told.{length-told}
use Rattle.gate_laws.proofs.Drawn.{report_drawn}
use Rattle.gate_laws.proofs.Plans.{plan_drawn}
use Rattle.gate_laws.proofs.Shapes.{Shaped, shaped_from, least, most}
use Rattle.gate_types.specs.Counters.{last_number}
use Rattle.gate_types.specs.Keys.{serial_of_plan}
use Rattle.gate_types.specs.Rising.{In}

-- ---- numbers

-- numbers from 1 to a top, none of them twice
pub few_numbers : (xs : List ℕ) (top : ℕ) → ((n : ℕ) → times n xs ≤ 1) →
    ((n : ℕ) → In n xs → (1 ≤ n) × (n ≤ top)) → length xs ≤ top
few_numbers xs top once h =
    let more = length-le_from_distinct_below (0 ∷ xs) (top + 1)
    (IsDistinct-from_AllPairs (λ a b. (eqb-true a b, eq-eqb a b)) (0 ∷ xs) (distinct_to (0 ∷ xs) once_more))
    below in
    omega (arith, more)
  where
    once_more : (n : ℕ) → times n (0 ∷ xs) ≤ 1
    once_more n = elim (eqb_tells 0 n) [
      | inl e ↦ (let none = times_out n xs (λ m. let low = (h n m).0 in let zero = e.1 in omega (arith, low, zero)) in
          let one = hits 0 n e.1 in omega (arith, none, one))
      | inr e ↦ (let none = misses 0 n e.1 in let most = once n in omega (arith, none, most))
    ]

    below : (q : ℕ) → list_any (nat_eq q) (0 ∷ xs) ≡ true → q < top + 1
    below q e =
        let x = any_from (nat_eq q) (0 ∷ xs) e in
        let same = eqb-true q x.0 x.2 in
        elim x.1 [ inl z ↦ omega (arith, same, z) | inr m ↦ (let high = (h x.0 m).1 in omega (arith, same, high)) ]

-- numbers that rise stand once
rising_once : {X : Type 0} (key : X → ℕ) (xs : List X) → Rising key xs → (n : ℕ) → times n (map key xs) ≤ 1
rising_once key [] r n = omega arith
rising_once key (x ∷ xs) r n = elim (eqb_tells (key x) n) [
  | inl e ↦ (
      let none = times_out n (map key xs) (λ m. let y = from_map key xs n m in let low = r.0 y.0 y.1 in let one = y.2 in
      let two = e.1 in omega (arith, low, one, two)) in
      let one = hits (key x) n e.1 in
      omega (arith, none, one))
  | inr e ↦ (let none = misses (key x) n e.1 in let rest = rising_once key xs r.1 n in omega (arith, none, rest))
]

-- rows that rise by a number from 1 to a top
pub few_rising : {X : Type 0} (key : X → ℕ) (xs : List X) (top : ℕ) → IsStrictlyIncreasing (map key xs) →
    ((x : X) → In x xs → (1 ≤ key x) × (key x ≤ top)) → length xs ≤ top
few_rising key xs top r h =
    let few = few_numbers (map key xs) top (rising_once key xs (rising key xs r)) (λ n m. let y = from_map key xs n m in
    subst (λ k. (1 ≤ k) × (k ≤ top)) y.2 (h y.0 y.1)) in
    let same = length-map xs key in
    omega (arith, few, same)

-- ---- how many

-- a part of joined lists
times_part : {X : Type 0} (n : ℕ) (f : X → List ℕ) (xs : List X) (x : X) → In x xs →
    times n (f x) ≤ times n (flat_map f xs)
times_part n f [] x m = absurd m
times_part n f (y ∷ ys) x m =
    let sum = ap (times n) (flat_map-cons f y ys) ∙ times-append n (f y) (flat_map f ys) in
    elim m [
      | inl e ↦ (let same : times n (f y) ≡ times n (f x) = ap (λ z. times n (f z)) e in omega (arith, sum, same))
      | inr k ↦ (let rest = times_part n f ys x k in omega (arith, sum, rest))
    ]

pub few_reports : (c : Settings) (s : State) → IsSound c s → Shaped c s → (q : Queue) → In q s.queues →
    length q.reports ≤ s.counters.order
few_reports c s h k q mq =
    let few = few_numbers (report_serials q) s.counters.order
    (λ n. let all = distinct_from (flat_map serials_of s.queues) h.serials_differ n in
    let part = times_part n serials_of s.queues q mq in
    let sum = times-append n (item_serials q) (report_serials q) in omega (arith, all, part, sum))
    (λ n m. let x = from_map (λ (r : Report). r.serial) q.reports n m in
    subst (λ j. (1 ≤ j) × (j ≤ s.counters.order)) x.2 (
      ((k.queues q mq).reports x.0 x.1).0.0,
      report_drawn c s h q mq x.0 x.1,
    )) in
    let same = length-map q.reports (λ (r : Report). r.serial) in
    omega (arith, few, same)

filter_map_short : {X Y : Type 0} (f : X → Option Y) (xs : List X) → length (filter_map f xs) ≤ length xs
filter_map_short f [] = omega arith
filter_map_short {X = X} {Y = Y} f (x ∷ xs) = by_option (f x) (filter_map_short f xs)
  where
    by_option : (o : Option Y) → length (filter_map f xs) ≤ length xs →
        length (cons_option o (filter_map f xs)) ≤ length (x ∷ xs)
    by_option None h = omega (arith, h)
    by_option (Some y) h = omega (arith, h)

pub few_landings : (c : Settings) (s : State) → IsSound c s → Shaped c s → (q : Queue) → In q s.queues →
    length q.landings ≤ s.counters.order
few_landings c s h k q mq =
    let reports = few_reports c s h k q mq in
    let less = filter_map_short landing_of q.reports in
    let same : length (filter_map landing_of q.reports) ≡ length (enumerate_from 1 q.landings) =
    ap length (every TellsLandings s.queues h.reports_tell_landings q mq) in
    let long = length-told 1 q.landings in
    omega (arith, reports, less, same, long)

-- ---- the tops

pub record Tops (s : State) : Type 0 where
  pub approval : s.counters.approval ≤ last_number
  pub build : s.counters.build ≤ last_number
  pub order : s.counters.order ≤ last_number

pub tops : (s : State) → is_exhausted s ≡ false → Tops s
tops s e =
    let all = ltb-false last_number (max s.counters.approval (max s.counters.build s.counters.order)) e in
    record { approval = omega (arith, all); build = omega (arith, all); order = omega (arith, all) }

-- ---- the law

pub rows_are_few : RowsAreFew
rows_are_few c s h f =
    let k = shaped_from c s f in
    record {
      reports = all (λ q. length q.reports ≤ s.counters.order) s.queues (few_reports c s h k);
      landings = all (λ q. length q.landings ≤ s.counters.order) s.queues (few_landings c s h k);
      plans = few_rising serial_of_plan s.plans s.counters.order h.planned.rise
          (λ p m. ((k.plans p m).0, plan_drawn c s h p m));
      ready = few_rising (λ (r : Ready). r.approval) s.ready s.counters.approval h.ready_rises
          (λ r m. (
            (k.ready r m).0,
            leb-true r.approval s.counters.approval
                (every (λ r. nat_le r.approval s.counters.approval ≡ true) s.ready h.approvals_are_drawn r m),
          ));
      builds = few_rising (λ (b : Build). b.number) s.builds s.counters.build h.builds_rise
          (λ b m. (
            (k.builds b m).0.counted,
            leb-true b.number s.counters.build
                (every (λ b. nat_le b.number s.counters.build ≡ true) s.builds h.builds_are_drawn b m),
          ));
      changes = few_rising (λ (x : Change). x.number) s.changes 999999999 h.changes_rise (λ x m.
          let number = number_of_change x (k.changes x m) in
          (least 999999999 x.number number, most 999999999 x.number number));
    }
  where
    number_of_change : (x : Change) → is_change_in_form x ≡ true → is_change_number x.number ≡ true
    number_of_change x e =
        let p4 = and_parts _ _ e in
        let p3 = and_parts _ _ p4.0 in
        let p2 = and_parts _ _ p3.0 in
        (and_parts _ _ p2.0).0
