-- Plans that are put one after another, each under a serial of its own.
use Rattle.std.proofs.Common.{◌≡◌, ℕ, ◌+◌, ◌≤◌, Bool, true, false, ◌||◌, List, [], ◌∷◌, map, refl, ap, ◌∙◌, subst}
use Rattle.std.proofs.Common.{◌⊎◌, inl, inr, arith}
use Rattle.std.specs.Prelude.{◌==◌, filter_map}
use Rattle.std.specs.List.{list_any, flat_map, enumerate_from}
use Rattle.std.proofs.lemmas.Bool.{ne_eqb}
use Rattle.std.proofs.lemmas.List.{map-append}
use Rattle.std.proofs.lemmas.List.Folds.{list_any-append}
use Rattle.std.proofs.lemmas.List.Concat.{flat_map-cons}
use Rattle.gate_types.specs.declared.records.Landing.{Landing}
use Rattle.gate_types.specs.declared.records.Plan.{Plan}
use Rattle.gate_types.specs.declared.records.Report.{Report}
use Rattle.gate_types.specs.declared.records.Verdict.{Verdict}
use Rattle.gate_types.specs.declared.records.Verdict.TheVariants as verdict
use Rattle.gate_types.specs.Settings.{Settings}
use Rattle.gate_types.specs.State.{Queue, State, put_by, plan_in}
use Rattle.gate_types.specs.Migrate.{item_plan, landing_plan, plans_of_queue, put_all}
use Rattle.gate_types.specs.Lawful.{serials_of, landing_of, TellsLandings, is_of_an_item, is_of_a_landing}
use Rattle.gate_types.specs.Keys.{serial_of_plan}
use Rattle.gate_types.specs.Rising.{In}
use Rattle.gate_laws.proofs.Members.{any_map, map_map}
use Rattle.gate_laws.proofs.Counts.{times, hits, times-append, times_flat_le}
use Rattle.gate_laws.proofs.Alone.{item_serials, report_serials, map-flat}
use Rattle.gate_laws.proofs.Rising.{Rising, rising_put, from_put}
use Rattle.gate_laws.proofs.Plans.{is_under, plan_put, plan_kept, any_put}

pub rising_all : (rows ps : List Plan) → Rising serial_of_plan rows → Rising serial_of_plan (put_all rows ps)
rising_all rows [] r = r
rising_all rows (p ∷ ps) r = rising_all (put_by serial_of_plan p rows) ps (rising_put serial_of_plan p rows r)

pub from_all : (rows ps : List Plan) (x : Plan) → In x (put_all rows ps) → In x ps ⊎ In x rows
from_all rows [] x m = inr m
from_all rows (p ∷ ps) x m = elim (from_all (put_by serial_of_plan p rows) ps x m) [
  | inl a ↦ inl (inr a)
  | inr b ↦ (elim (from_put serial_of_plan p rows x b) [ inl e ↦ inl (inl e) | inr k ↦ inr k ])
]

pub any_all : (rows ps : List Plan) (n : ℕ) →
    list_any (is_under n) (put_all rows ps) ≡ (list_any (is_under n) ps || list_any (is_under n) rows)
any_all rows [] n = refl
any_all rows (p ∷ ps) n =
    any_all (put_by serial_of_plan p rows) ps n ∙ ap (λ b. list_any (is_under n) ps || b) (any_put p rows n)
    ∙ turn (list_any (is_under n) ps) (p.serial == n) (list_any (is_under n) rows)
  where
    turn : (a b d : Bool) → a || (b || d) ≡ ((b || a) || d)
    turn true true d = refl
    turn true false d = refl
    turn false true d = refl
    turn false false d = refl

none_put : (rows ps : List Plan) (n : ℕ) → times n (map serial_of_plan ps) ≡ 0 → plan_in (put_all rows ps) n ≡ plan_in rows n
none_put rows [] n h = refl
none_put rows (p ∷ ps) n h =
    none_put (put_by serial_of_plan p rows) ps n (omega (arith, h))
    ∙ plan_kept p rows n (ne_eqb p.serial n (λ e. let one = hits p.serial n e in omega (arith, h, one)))

-- each is found under its serial
pub plan_all : (ps rows : List Plan) (p : Plan) → In p ps → times p.serial (map serial_of_plan ps) ≤ 1 →
    plan_in (put_all rows ps) p.serial ≡ p
plan_all [] rows p m h = absurd m
plan_all (x ∷ xs) rows p m h = elim m [
  | inl e ↦ (
      let one = hits x.serial p.serial (ap serial_of_plan e) in
      none_put (put_by serial_of_plan x rows) xs p.serial (omega (arith, h, one))
      ∙ subst (λ y. plan_in (put_by serial_of_plan x rows) y.serial ≡ y) e (plan_put x rows))
  | inr k ↦ plan_all xs (put_by serial_of_plan x rows) p k (omega (arith, h))
]

-- ---- the serials of landings are those of reports

told_less : (n : ℕ) (rs : List Report) →
    times n (map (λ (x : ℕ × Landing). x.1.serial) (filter_map landing_of rs)) ≤ times n (map (λ r. r.serial) rs)
told_less n [] = omega arith
told_less n (r ∷ rs) = by_verdict r.verdict (told_less n rs)
  where
    by_verdict : (v : Verdict) →
        times n (map (λ (x : ℕ × Landing). x.1.serial) (filter_map landing_of rs)) ≤ times n (map (λ r. r.serial) rs) →
        times n (map (λ (x : ℕ × Landing). x.1.serial) (filter_map landing_of (record r { verdict = v } ∷ rs))) ≤ times n
        (map (λ r. r.serial) (r ∷ rs))
    by_verdict (verdict.Landed k) h = omega (arith, h)
    by_verdict verdict.Failed h = omega (arith, h)
    by_verdict verdict.Refused h = omega (arith, h)
    by_verdict verdict.Needs h = omega (arith, h)
    by_verdict verdict.Superseded h = omega (arith, h)
    by_verdict verdict.Withdrawn h = omega (arith, h)
    by_verdict verdict.Closed h = omega (arith, h)

numbered_serials : (k : ℕ) (ls : List Landing) →
    map (λ (x : ℕ × Landing). x.1.serial) (enumerate_from k ls) ≡ map (λ l. l.serial) ls
numbered_serials k [] = refl
numbered_serials k (l ∷ ls) = ap (λ x. l.serial ∷ x) (numbered_serials (k + 1) ls)

landings_less : (n : ℕ) (q : Queue) → TellsLandings q →
    times n (map (λ l. l.serial) q.landings) ≤ times n (report_serials q)
landings_less n q h =
    let less = told_less n q.reports in
    let same = ap (λ l. times n (map (λ (x : ℕ × Landing). x.1.serial) l)) h in
    let plain = ap (times n) (numbered_serials 1 q.landings) in
    omega (arith, less, same, plain)

-- so the plans of a state have serials of their own
pub plans_apart : (c : Settings) (s : State) (n : ℕ) (qs : List Queue) → ((q : Queue) → In q qs → TellsLandings q) →
    times n (map serial_of_plan (flat_map (plans_of_queue c s) qs)) ≤ times n (flat_map serials_of qs)
plans_apart c s n qs told =
    let flat = ap (times n) (map-flat serial_of_plan (plans_of_queue c s) qs) in
    let less = times_flat_le n (λ q. map serial_of_plan (plans_of_queue c s q)) serials_of qs (λ q m.
    let plans = ap (times n) (map-append serial_of_plan (map (item_plan c s) q.items) (map (landing_plan c s) q.landings))
    ∙ times-append n (map serial_of_plan (map (item_plan c s) q.items)) (map serial_of_plan (map (landing_plan c s) q.landings)) in
    let items = ap (times n) (map_map serial_of_plan (item_plan c s) q.items) in
    let landings = ap (times n) (map_map serial_of_plan (landing_plan c s) q.landings) in
    let told_of = landings_less n q (told q m) in
    let both = times-append n (item_serials q) (report_serials q) in
    omega (arith, plans, items, landings, told_of, both)) in
    omega (arith, flat, less)

-- they are those of the items and the landings
pub planned_all : (c : Settings) (s : State) (n : ℕ) (qs : List Queue) →
    list_any (is_under n) (flat_map (plans_of_queue c s) qs) ≡ (is_of_an_item qs n || is_of_a_landing qs n)
planned_all c s n [] = refl
planned_all c s n (q ∷ qs) =
    ap (list_any (is_under n)) (flat_map-cons (plans_of_queue c s) q qs)
    ∙ list_any-append (is_under n) (plans_of_queue c s q) (flat_map (plans_of_queue c s) qs)
    ∙ (λ k. here k || planned_all c s n qs k)
    ∙ regroup (list_any (λ i. i.serial == n) q.items) (list_any (λ l. l.serial == n) q.landings) (is_of_an_item qs n)
    (is_of_a_landing qs n)
  where
    here : list_any (is_under n) (plans_of_queue c s q) ≡ (list_any (λ i. i.serial == n) q.items || list_any
        (λ l. l.serial == n) q.landings)
    here = list_any-append (is_under n) (map (item_plan c s) q.items) (map (landing_plan c s) q.landings)
        ∙ (λ k. any_map (is_under n) (item_plan c s) q.items k || any_map (is_under n) (landing_plan c s) q.landings k)

    regroup : (a b x y : Bool) → (a || b) || (x || y) ≡ ((a || x) || (b || y))
    regroup true b x y = refl
    regroup false true true y = refl
    regroup false true false y = refl
    regroup false false true y = refl
    regroup false false false y = refl
