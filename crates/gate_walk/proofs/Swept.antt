-- What settling leaves of a touched queue, within the whole state.
use Rattle.std.proofs.Common.{◌≡◌, ℕ, Bool, true, false, not, ◌&&◌, cond, is_some, List, [], ◌∷◌, map, inl, inr, refl}
use Rattle.std.proofs.Common.{sym, ap, ◌∙◌, subst, true≢false, append-nil}
use Rattle.std.specs.Prelude.{filter, flat_map}
use Rattle.std.specs.List.{list_any}
use Rattle.std.specs.List.Sorted.{IsStrictlyIncreasing}
use Rattle.std.proofs.lemmas.Bool.{and_parts, not-true, false_from_ne_true}
use Rattle.std.proofs.lemmas.List.Concat.{flat_map-cons}
use Rattle.gate_types.specs.declared.records.Build.{Build}
use Rattle.gate_types.specs.declared.records.Plan.{Plan}
use Rattle.gate_types.specs.Names.{same_name}
use Rattle.gate_types.specs.Settings.{Settings, are_distinct}
use Rattle.gate_types.specs.State.{Item, Queue, State}
use Rattle.gate_types.specs.Standing.{with_ahead, next_ahead, places_after, place_of, places}
use Rattle.gate_types.specs.Rebase.{rebase, with_live, stays_live}
use Rattle.gate_types.specs.Window.{bounds_of}
use Rattle.gate_types.specs.Sweep.{Judged, verdict_of, judge, judged, judged_after, next_staying, goes, without_runs}
use Rattle.gate_types.specs.Sweep.{without_plans, swept_queue, sweep}
use Rattle.gate_types.specs.Rows.{rows_of}
use Rattle.gate_types.specs.Rising.{In}
use Rattle.gate_types.proofs.NameLemmas.{same_name_is}
use Rattle.gate_laws.specs.Touch.{queues_named, rebase_one, settle_one}
use Rattle.gate_queue_rules.specs.Settled.{rebased, verdicts, settled_rows, rows_in, swept_of}
use Rattle.gate_laws.proofs.Members.{to_map, none_from, filter_none}
use Rattle.gate_laws.proofs.Alone.{same_name_of}
use Rattle.gate_laws.proofs.AfterRebase.{judged_rebased}
use Rattle.gate_laws.proofs.Swept.{items_left, staying_items, staying_not}
use Rattle.gate_laws.proofs.Plans.{plan_stays, replanned}
use Rattle.gate_queue_rules.proofs.Ordered.{Tells, rises, ahead_rise, items_rise}
use Rattle.gate_laws.proofs.Stays.{stayers}
use Rattle.gate_queue_rules.proofs.Settled.{goes_tells, verdicts_rebased}

-- ---- the queue of a name

pub only_named : (qs : List Queue) → are_distinct (map (λ q. q.name) qs) ≡ true → (q : Queue) → In q qs → filter (λ x. same_name x.name q.name) qs ≡ q ∷ []
only_named [] h q m = absurd m
only_named (x ∷ xs) h q m =
    let both = and_parts (not (list_any (same_name x.name) (map (λ y. y.name) xs))) (are_distinct (map (λ y. y.name) xs)) h in
    let none : (y : Queue) → In y xs → same_name x.name y.name ≡ false =
    λ y n. none_from (same_name x.name) (map (λ z. z.name) xs) (not-true (list_any (same_name x.name) (map (λ z. z.name) xs)) both.0) y.name (to_map (λ z. z.name) xs y n) in
    elim m [
      | inl e ↦
          (λ k. cond (same_name_of x.name q.name (ap (λ (z : Queue). z.name) e) k) (e k ∷ filter (λ z. same_name z.name q.name) xs) (filter (λ z. same_name z.name q.name) xs))
          ∙ ap (λ l. q ∷ l) (filter_none (λ z. same_name z.name q.name) xs (λ y n. false_from_ne_true (same_name y.name q.name)
          (λ s. true≢false (sym (same_name_of x.name y.name (ap (λ (z : Queue). z.name) e ∙ sym (same_name_is y.name q.name s))) ∙ none y n))))
      | inr n ↦
          ap (λ t. cond t (x ∷ filter (λ z. same_name z.name q.name) xs) (filter (λ z. same_name z.name q.name) xs)) (none q n) ∙ only_named xs both.1 q n
    ]

-- ---- the places of the items that stay

places_left : (c : Settings) (s : State) (q : Queue) (bs : List Build) (ahead staying is : List Item) (leaves : ℕ → Bool) → Tells leaves (judged_after bs staying (places_after bs ahead (map (place_of c s q) is))) →
    map (place_of c s q) (map (λ j. j.item) (filter (λ j. not (is_some j.verdict)) (judged_after bs staying (places_after bs ahead (map (place_of c s q) is))))) ≡ stayers leaves (map (place_of c s q) is)
places_left c s q bs ahead staying [] leaves t = refl
places_left c s q bs ahead staying (i ∷ is) leaves t =
    let p = with_ahead ahead (place_of c s q i) in
    let next = next_staying staying (judge bs staying p) in
    let rest = judged_after bs next (places_after bs (next_ahead bs p) (map (place_of c s q) is)) in
    one (judge bs staying p) rest (is_some (verdict_of bs staying p))
    ∙ (λ k. cond (not (sym t.0 k)) (place_of c s q i ∷ places_left c s q bs (next_ahead bs p) next is leaves t.1 k) (places_left c s q bs (next_ahead bs p) next is leaves t.1 k))
  where
    one : (j : Judged) (js : List Judged) (g : Bool) →
        map (place_of c s q) (map (λ (x : Judged). x.item) (cond (not g) (j ∷ filter (λ x. not (is_some x.verdict)) js) (filter (λ x. not (is_some x.verdict)) js)))
        ≡ cond (not g) (place_of c s q j.item ∷ map (place_of c s q) (map (λ (x : Judged). x.item) (filter (λ x. not (is_some x.verdict)) js))) (map (place_of c s q) (map (λ (x : Judged). x.item) (filter (λ x. not (is_some x.verdict)) js)))
    one j js true = refl
    one j js false = refl

-- ---- where settling the whole is settling this queue, its rows are those of settling it by itself

pub settled_within : (c : Settings) (t : State) (o : Queue) → In o t.queues → IsStrictlyIncreasing (map (λ i. i.serial) o.items) → queues_named o.name t ≡ o ∷ [] → sweep c (rebase c t) ≡ settle_one o.name c t →
    settled_rows (bounds_of c o) (map (place_of c t o) o.items) t.builds o ≡ rows_in c (sweep c (rebase c t)) (swept_of c t o)
settled_within c t o m r named alone =
    let ps = map (place_of c t o) o.items in
    let bounds = bounds_of c o in
    let left_live = rebased ps t.builds in
    let js = verdicts ps left_live in
    let left = without_runs (goes js) left_live in
    let same_js : judged c (rebase c t) o ≡ js = judged_rebased c t o m ∙ sym (verdicts_rebased ps t.builds) in
    let own : flat_map (places c t) (queues_named o.name t) ≡ places c t o = ap (flat_map (places c t)) named ∙ flat_map-cons (places c t) o [] ∙ append-nil (places c t o) in
    let first = rebase_one o.name c t in
    let lives : first.builds ≡ left_live = λ k. map (λ b. with_live (b.live && stays_live t.builds (own k) b) b) t.builds in
    let told_by : flat_map (judged c first) (queues_named o.name t) ≡ js =
    ap (flat_map (judged c first)) named ∙ flat_map-cons (judged c first) o [] ∙ append-nil (judged c first o) ∙ (λ k. judged_after (lives k) [] (places_after (lives k) [] ps)) in
    let u = sweep c (rebase c t) in
    let builds : u.builds ≡ left = ap (λ (x : State). x.builds) alone ∙ (λ k. without_runs (goes (told_by k)) (lives k)) in
    let told : Tells (goes js) js = goes_tells left_live 0 [] (places_after left_live [] ps) (ahead_rise left_live 0 [] ps (items_rise c t o o.items 0 (rises (λ (i : Item). i.serial) o.items r))) in
    let stay = places_left c t o left_live [] [] o.items (goes js) told in
    let fewer : List Plan = without_plans (goes js) t.plans in
    let plans : u.plans ≡ fewer = ap (λ (x : State). x.plans) alone ∙ (λ k. without_plans (goes (told_by k)) t.plans) in
    let staying : List Item = map (λ j. j.item) (filter (λ j. not (is_some j.verdict)) js) in
    let stayed : staying ≡ staying_items (goes js) o.items = items_left c t o left_live [] [] o.items (goes js) told in
    let planned : map (place_of c (record t { plans = fewer }) o) staying ≡ map (place_of c t o) staying =
    replanned c t fewer o staying (λ i n. plan_stays (goes js) t.plans i.serial (staying_not (goes js) o.items i (subst (In i) stayed n))) in
    sym ((λ k. rows_of (places_after (builds k) [] (map (place_of c (record t { plans = plans k }) o) (map (λ j. j.item) (filter (λ j. not (is_some j.verdict)) (same_js k))))) (builds k) (swept_queue bounds (same_js k) o))
    ∙ (λ k. rows_of (places_after left [] ((planned ∙ stay) k)) left (swept_queue bounds js o)))
