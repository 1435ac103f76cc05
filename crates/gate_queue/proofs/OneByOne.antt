-- One sweep is the same as removal one by one.
use Rattle.std.proofs.Common.{◌≡◌, ℕ, suc, ◌<◌, ◌≤◌, Bool, true, false, not, ◌&&◌, ◌||◌, cond, Option, Some, None}
use Rattle.std.proofs.Common.{is_some, List, [], ◌∷◌, ◌++◌, fold, length, refl, sym, ap, ◌∙◌, subst, arith}
use Rattle.std.proofs.Common.{true≢false, append_assoc, append-nil}
use Rattle.std.specs.Prelude.{filter, filter_map, find, unwrap_or, ◌==◌}
use Rattle.std.specs.Option.{option_map_or}
use Rattle.std.proofs.lemmas.Bool.{eq-eqb, ne_eqb}
use Rattle.gate_types.specs.Window.{Bounds}
use Rattle.gate_types.specs.declared.records.Build.{Build}
use Rattle.gate_types.specs.declared.records.Report.{Report}
use Rattle.gate_types.specs.declared.records.Verdict.{Verdict}
use Rattle.gate_types.specs.State.{Item}
use Rattle.gate_types.specs.Line.{Place}
use Rattle.gate_types.specs.Slot.{is_running}
use Rattle.gate_types.specs.Standing.{with_ahead, next_ahead, places_after}
use Rattle.gate_types.specs.Rebase.{with_live}
use Rattle.gate_types.specs.Sweep.{Judged, judge, judged_after, next_staying, next_window, verdict_of, goes, report_on}
use Rattle.gate_types.specs.Sweep.{without_runs}
use Rattle.gate_types.specs.Rising.{RisesFrom}
use Rattle.gate_types.proofs.PlainLemmas.{or_false}
use Rattle.gate_queue_rules.specs.Settled.{verdicts}
use Rattle.gate_queue.specs.Laws.{Scan, swept_at_once, one_taken_out, one_out, OneSweepIsOneByOne}
use Rattle.gate_queue_rules.proofs.Ordered.{rises, ahead_rise}
use Rattle.gate_laws.proofs.Alike.{verdict_alike}
use Rattle.gate_laws.proofs.StoppedRuns.{stopped_alike}
use Rattle.gate_laws.proofs.Stays.{Among, among_next, goes_failing, at_place, stayers}
use Rattle.gate_laws.proofs.IdleSweep.{stop_none}
use Rattle.gate_laws.proofs.LiveBuildsCount.{place_serial}

-- a test passes only items that go
abbrev Only : (ℕ → Bool) → List Judged → Type 0
Only leaves [] = Unit {0}
Only leaves (j ∷ js) = (leaves j.item.serial ≡ true → is_some j.verdict ≡ true) × Only leaves js

-- where only some that go are taken out, the places of the others are what they were
places_left : (bs : List Build) (ahead staying : List Item) (ps : List Place) (leaves : ℕ → Bool) → Among ahead staying → Only leaves (judged_after bs staying (places_after bs ahead ps)) →
    places_after (without_runs leaves bs) ahead (stayers leaves ps) ≡ stayers leaves (places_after bs ahead ps)
places_left bs ahead staying [] leaves a o = refl
places_left bs ahead staying (p ∷ ps) leaves a o =
    let q = with_ahead ahead p in
    let next = next_staying staying (judge bs staying q) in
    at_place bs ahead staying p ps leaves (leaves p.item.serial) refl (places_left bs (next_ahead bs q) next ps leaves (among_next bs staying q a) o.1) (λ e. goes_failing bs staying q a (o.0 e))

-- the verdicts on those that are left
abbrev left_of : (ℕ → Bool) → List Judged → List Judged
left_of leaves js = filter (λ j. not (leaves j.item.serial)) js

verdicts_left : (bs : List Build) (staying : List Item) (ps : List Place) (leaves : ℕ → Bool) → Only leaves (judged_after bs staying ps) →
    judged_after (without_runs leaves bs) staying (stayers leaves ps) ≡ left_of leaves (judged_after bs staying ps)
verdicts_left bs staying [] leaves o = refl
verdicts_left bs staying (p ∷ ps) leaves o = by_place (leaves p.item.serial) refl o.0 (verdicts_left bs (next_staying staying (judge bs staying p)) ps leaves o.1)
  where
    by_place : (t : Bool) → leaves p.item.serial ≡ t → (t ≡ true → is_some (verdict_of bs staying p) ≡ true) →
        judged_after (without_runs leaves bs) (next_staying staying (judge bs staying p)) (stayers leaves ps) ≡ left_of leaves (judged_after bs (next_staying staying (judge bs staying p)) ps) →
        judged_after (without_runs leaves bs) staying (cond (not t) (p ∷ stayers leaves ps) (stayers leaves ps)) ≡ cond (not t) (judge bs staying p ∷ left_of leaves (judged_after bs (next_staying staying (judge bs staying p)) ps)) (left_of leaves (judged_after bs (next_staying staying (judge bs staying p)) ps))
    by_place true e g h = ap (λ (u : Bool). judged_after (without_runs leaves bs) (cond u staying (staying ++ p.item ∷ [])) (stayers leaves ps)) (sym (g refl)) ∙ h
    by_place false e g h =
        (λ k. let j : Judged = record { item = p.item; verdict = verdict_alike (without_runs leaves bs) bs staying p (stopped_alike leaves bs p) k } in j ∷ judged_after (without_runs leaves bs) (next_staying staying j) (stayers leaves ps))
        ∙ ap (λ l. judge bs staying p ∷ l) h

-- ---- the first that goes, apart from the others

abbrev serial_of : Judged → ℕ
serial_of j = j.item.serial

abbrev first_out : List Judged → Option Judged
first_out js = find (λ j. is_some j.verdict) js

abbrev is_one : Judged → ℕ → Bool
is_one j = goes (j ∷ [])

-- what taking one out leaves of a sweep
record Apart (bounds : Bounds) (js : List Judged) (j : Judged) (rest : List Judged) : Type 0 where
  window : (w : ℕ) → fold (next_window bounds) w js ≡ fold (next_window bounds) (next_window bounds w j) rest
  going : (n : ℕ) → goes js n ≡ (is_one j n || goes rest n)
  reports : filter_map report_on js ≡ filter_map report_on (j ∷ []) ++ filter_map report_on rest
  only : Only (is_one j) js
  fewer : length (filter_map report_on js) ≡ suc (length (filter_map report_on rest))
  above : (n : ℕ) → RisesFrom serial_of n js → n ≤ j.item.serial

none_left : (j : Judged) (n : ℕ) (js : List Judged) → j.item.serial < n → RisesFrom serial_of n js → left_of (is_one j) js ≡ js
none_left j n [] l r = refl
none_left j n (x ∷ xs) l r =
    let from : n ≤ x.item.serial = r.0 in
    ap (λ t. cond (not (is_some j.verdict && t || false)) (x ∷ left_of (is_one j) xs) (left_of (is_one j) xs)) (ne_eqb j.item.serial x.item.serial (λ e. omega (arith, e)))
    ∙ off (is_some j.verdict)
    ∙ ap (λ l. x ∷ l) (none_left j (suc x.item.serial) xs (omega arith) r.1)
  where
    off : (g : Bool) → cond (not (g && false || false)) (x ∷ left_of (is_one j) xs) (left_of (is_one j) xs) ≡ x ∷ left_of (is_one j) xs
    off true = refl
    off false = refl

only_none : (j : Judged) (n : ℕ) (js : List Judged) → j.item.serial < n → RisesFrom serial_of n js → Only (is_one j) js
only_none j n [] l r = tt
only_none j n (x ∷ xs) l r =
    let from : n ≤ x.item.serial = r.0 in (
      (λ e. absurd (true≢false (sym e ∙ ap (λ t. is_some j.verdict && t || false) (ne_eqb j.item.serial x.item.serial (λ s. omega (arith, s))) ∙ off (is_some j.verdict)))),
      only_none j (suc x.item.serial) xs (omega arith) r.1,
    )
  where
    off : (g : Bool) → g && false || false ≡ false
    off true = refl
    off false = refl

window_same : (bounds : Bounds) (w : ℕ) (x : Judged) → is_some x.verdict ≡ false → next_window bounds w x ≡ w
window_same bounds w x e = by_verdict x.verdict e
  where
    by_verdict : (v : Option Verdict) → is_some v ≡ false → next_window bounds w (record { item = x.item; verdict = v }) ≡ w
    by_verdict None h = refl
    by_verdict (Some v) h = absurd (true≢false h)

no_report : (x : Judged) (js : List Judged) → is_some x.verdict ≡ false → filter_map report_on (x ∷ js) ≡ filter_map report_on js
no_report x js e = by_verdict x.verdict e
  where
    by_verdict : (v : Option Verdict) → is_some v ≡ false → filter_map report_on (record { item = x.item; verdict = v } ∷ js) ≡ filter_map report_on js
    by_verdict None h = refl
    by_verdict (Some v) h = absurd (true≢false h)

one_report : (x : Judged) (js : List Judged) → filter_map report_on (x ∷ js) ≡ filter_map report_on (x ∷ []) ++ filter_map report_on js
one_report x js = by_verdict x.verdict
  where
    by_verdict : (v : Option Verdict) → filter_map report_on (record { item = x.item; verdict = v } ∷ js) ≡ filter_map report_on (record { item = x.item; verdict = v } ∷ []) ++ filter_map report_on js
    by_verdict None = refl
    by_verdict (Some v) = refl

off : (g : Bool) → g && false || false ≡ false
off true = refl
off false = refl

report_counts : (x : Judged) (js : List Judged) → is_some x.verdict ≡ true → length (filter_map report_on (x ∷ js)) ≡ suc (length (filter_map report_on js))
report_counts x js e = by_verdict x.verdict e
  where
    by_verdict : (v : Option Verdict) → is_some v ≡ true → length (filter_map report_on (record { item = x.item; verdict = v } ∷ js)) ≡ suc (length (filter_map report_on js))
    by_verdict None h = absurd (true≢false (sym h))
    by_verdict (Some v) h = refl

-- the first one goes
apart_first : (bounds : Bounds) (n : ℕ) (x : Judged) (xs : List Judged) → is_some x.verdict ≡ true → RisesFrom serial_of n (x ∷ xs) → Apart bounds (x ∷ xs) x (left_of (is_one x) (x ∷ xs))
apart_first bounds n x xs g r =
    subst (λ (l : List Judged). Apart bounds (x ∷ xs) x l)
    (sym
    ((λ k. cond (not (g k && eq-eqb x.item.serial x.item.serial refl k || false)) (x ∷ left_of (is_one x) xs) (left_of (is_one x) xs))
    ∙ none_left x (suc x.item.serial) xs (omega arith) r.1))
    (record {
      window = λ w. refl;
      going = λ m. ap (λ t. t || goes xs m) (sym (or_false (is_some x.verdict && x.item.serial == m)));
      reports = one_report x xs;
      only = ((λ e. g), only_none x (suc x.item.serial) xs (omega arith) r.1);
      fewer = report_counts x xs g;
      above = λ m s. s.0;
    })

-- one behind it does
apart_later : (bounds : Bounds) (n : ℕ) (x : Judged) (xs : List Judged) (j : Judged) → is_some x.verdict ≡ false → RisesFrom serial_of n (x ∷ xs) → Apart bounds xs j (left_of (is_one j) xs) → Apart bounds (x ∷ xs) j (left_of (is_one j) (x ∷ xs))
apart_later bounds n x xs j g r ih =
    let low : suc x.item.serial ≤ j.item.serial = ih.above (suc x.item.serial) r.1 in
    let other : j.item.serial == x.item.serial ≡ false = ne_eqb j.item.serial x.item.serial (λ e. omega (arith, e)) in
    let rest = left_of (is_one j) xs in
    let skipped : is_one j x.item.serial ≡ false = ap (λ t. is_some j.verdict && t || false) other ∙ off (is_some j.verdict) in
    subst (λ (l : List Judged). Apart bounds (x ∷ xs) j l)
    (sym (ap (λ t. cond (not t) (x ∷ rest) rest) skipped))
    (record {
      window = λ w. ap (λ v. fold (next_window bounds) v xs) (window_same bounds w x g) ∙ ih.window w ∙ ap (λ v. fold (next_window bounds) v rest) (sym (window_same bounds (next_window bounds w j) x g));
      going = λ m. ap (λ t. t && x.item.serial == m || goes xs m) g ∙ ih.going m ∙ ap (λ t. is_one j m || (t && x.item.serial == m || goes rest m)) (sym g);
      reports = no_report x xs g ∙ ih.reports ∙ ap (λ l. filter_map report_on (j ∷ []) ++ l) (sym (no_report x rest g));
      only = ((λ e. absurd (true≢false (sym e ∙ skipped))), ih.only);
      fewer = ap length (no_report x xs g) ∙ ih.fewer ∙ ap (λ (l : List Report). suc (length l)) (sym (no_report x rest g));
      above = λ m s. let from : m ≤ x.item.serial = s.0 in omega arith;
    })

apart : (bounds : Bounds) (n : ℕ) (js : List Judged) (j : Judged) → RisesFrom serial_of n js → first_out js ≡ Some j → Apart bounds js j (left_of (is_one j) js)
apart bounds n [] j r e = absurd (none_some e)
  where
    none_some : {X : Type 0} {x : X} → None ≡ Some x → ⊥
    none_some h = true≢false (sym (ap is_some h))
apart bounds n (x ∷ xs) j r e = by_verdict (λ h. apart bounds (suc x.item.serial) xs j r.1 h) (is_some x.verdict) refl e
  where
    by_verdict : (first_out xs ≡ Some j → Apart bounds xs j (left_of (is_one j) xs)) → (g : Bool) → is_some x.verdict ≡ g → cond g (Some x) (first_out xs) ≡ Some j → Apart bounds (x ∷ xs) j (left_of (is_one j) (x ∷ xs))
    by_verdict ih true g h = subst (λ (y : Judged). Apart bounds (x ∷ xs) y (left_of (is_one y) (x ∷ xs))) (ap (λ (o : Option Judged). unwrap_or o x) h) (apart_first bounds n x xs g r)
    by_verdict ih false g h = apart_later bounds n x xs j g r (ih h)

-- ---- scans

stay_twice : (ps : List Place) (one more all : ℕ → Bool) → ((n : ℕ) → all n ≡ (one n || more n)) → stayers more (stayers one ps) ≡ stayers all ps
stay_twice [] one more all h = refl
stay_twice (p ∷ ps) one more all h =
    by_test (one p.item.serial)
    ∙ (λ k. cond (not (sym (h p.item.serial) k)) (p ∷ stay_twice ps one more all h k) (stay_twice ps one more all h k))
  where
    by_test : (x : Bool) → stayers more (cond (not x) (p ∷ stayers one ps) (stayers one ps)) ≡ cond (not (x || more p.item.serial)) (p ∷ stayers more (stayers one ps)) (stayers more (stayers one ps))
    by_test true = refl
    by_test false = refl

stop_twice : (bs : List Build) (one more all : ℕ → Bool) → ((n : ℕ) → all n ≡ (one n || more n)) → without_runs more (without_runs one bs) ≡ without_runs all bs
stop_twice [] one more all h = refl
stop_twice (b ∷ bs) one more all h =
    λ k. with_live (both b.live (is_running b.outcome) (one b.serial) (more b.serial) (all b.serial) (h b.serial) k) b ∷ stop_twice bs one more all h k
  where
    both : (l r x y z : Bool) → z ≡ (x || y) → l && not (r && x) && not (r && y) ≡ (l && not (r && z))
    both l r x y z e = table l r x y ∙ ap (λ t. l && not (r && t)) (sym e)
      where
        table : (l r x y : Bool) → l && not (r && x) && not (r && y) ≡ (l && not (r && (x || y)))
        table false r x y = refl
        table true false x y = refl
        table true true true y = refl
        table true true false y = refl

rise_less : (m n : ℕ) (ps : List Place) → m ≤ n → RisesFrom place_serial n ps → RisesFrom place_serial m ps
rise_less m n [] l r = tt
rise_less m n (p ∷ ps) l r = let from : n ≤ p.item.serial = r.0 in (omega arith, r.1)

rise_stayers : (n : ℕ) (ps : List Place) (leaves : ℕ → Bool) → RisesFrom place_serial n ps → RisesFrom place_serial n (stayers leaves ps)
rise_stayers n [] leaves r = tt
rise_stayers n (p ∷ ps) leaves r = by_test (leaves p.item.serial) (rise_stayers (suc p.item.serial) ps leaves r.1)
  where
    by_test : (t : Bool) → RisesFrom place_serial (suc p.item.serial) (stayers leaves ps) → RisesFrom place_serial n (cond (not t) (p ∷ stayers leaves ps) (stayers leaves ps))
    by_test true h = let from : n ≤ p.item.serial = r.0 in rise_less n (suc p.item.serial) (stayers leaves ps) (omega arith) h
    by_test false h = (r.0, h)

-- the verdicts rise as their places do
judged_rise : (bs : List Build) (n : ℕ) (staying : List Item) (ps : List Place) → RisesFrom place_serial n ps → RisesFrom serial_of n (judged_after bs staying ps)
judged_rise bs n staying [] r = tt
judged_rise bs n staying (p ∷ ps) r = (r.0, judged_rise bs (suc p.item.serial) (next_staying staying (judge bs staying p)) ps r.1)

-- taking one out leaves the sweep as it is
out_same : (bounds : Bounds) (q : Scan) (j : Judged) → RisesFrom place_serial 0 q.places → first_out (verdicts q.places q.builds) ≡ Some j →
    (swept_at_once bounds (one_taken_out bounds q j) ≡ swept_at_once bounds q) × (length (filter_map report_on (verdicts q.places q.builds)) ≡ suc (length (filter_map report_on (verdicts (one_taken_out bounds q j).places (one_taken_out bounds q j).builds))))
out_same bounds q j r e =
    let js = verdicts q.places q.builds in
    let rest = left_of (is_one j) js in
    let qs = places_after q.builds [] q.places in
    let t = apart bounds 0 js j (judged_rise q.builds 0 [] qs (ahead_rise q.builds 0 [] q.places r)) e in
    let next = one_taken_out bounds q j in
    let left : verdicts next.places next.builds ≡ rest =
    ap (judged_after next.builds []) (places_left q.builds [] [] q.places (is_one j) (λ n h. h) t.only) ∙ verdicts_left q.builds [] qs (is_one j) t.only in
    let sweep_by : List Judged → Scan = λ ks. record {
      window = fold (next_window bounds) next.window ks;
      places = stayers (goes ks) next.places;
      builds = without_runs (goes ks) next.builds;
      reports = next.reports ++ filter_map report_on ks;
    } in (
      ap sweep_by left
          ∙ (λ k. record {
            window = sym (t.window q.window) k;
            places = stay_twice q.places (is_one j) (goes rest) (goes js) t.going k;
            builds = stop_twice q.builds (is_one j) (goes rest) (goes js) t.going k;
            reports = (append_assoc q.reports (filter_map report_on (j ∷ [])) (filter_map report_on rest) ∙ ap (λ l. q.reports ++ l) (sym t.reports)) k;
          }),
      t.fewer ∙ ap (λ (l : List Judged). suc (length (filter_map report_on l))) (sym left),
    )

-- where nobody goes
record Idle (bounds : Bounds) (js : List Judged) : Type 0 where
  window : (w : ℕ) → fold (next_window bounds) w js ≡ w
  going : (n : ℕ) → goes js n ≡ false
  reports : filter_map report_on js ≡ []

idle : (bounds : Bounds) (js : List Judged) → first_out js ≡ None → Idle bounds js
idle bounds [] e = record { window = λ w. refl; going = λ n. refl; reports = refl }
idle bounds (x ∷ xs) e = by_verdict (λ h. idle bounds xs h) (is_some x.verdict) refl e
  where
    by_verdict : (first_out xs ≡ None → Idle bounds xs) → (g : Bool) → is_some x.verdict ≡ g → cond g (Some x) (first_out xs) ≡ None → Idle bounds (x ∷ xs)
    by_verdict ih true g h = absurd (true≢false (ap is_some h))
    by_verdict ih false g h = record {
      window = λ w. ap (λ v. fold (next_window bounds) v xs) (window_same bounds w x g) ∙ (ih h).window w;
      going = λ n. ap (λ t. t && x.item.serial == n || goes xs n) g ∙ (ih h).going n;
      reports = no_report x xs g ∙ (ih h).reports;
    }

stay_all : (ps : List Place) (leaves : ℕ → Bool) → ((n : ℕ) → leaves n ≡ false) → stayers leaves ps ≡ ps
stay_all [] leaves h = refl
stay_all (p ∷ ps) leaves h = ap (λ t. cond (not t) (p ∷ stayers leaves ps) (stayers leaves ps)) (h p.item.serial) ∙ ap (λ l. p ∷ l) (stay_all ps leaves h)

idle_same : (bounds : Bounds) (q : Scan) → first_out (verdicts q.places q.builds) ≡ None → swept_at_once bounds q ≡ q
idle_same bounds q e =
    let js = verdicts q.places q.builds in
    let i = idle bounds js e in
    λ k. record {
      window = i.window q.window k;
      places = stay_all q.places (goes js) i.going k;
      builds = stop_none q.builds (goes js) i.going k;
      reports = (ap (λ l. q.reports ++ l) i.reports ∙ append-nil q.reports) k;
    }

outs : (bounds : Bounds) (l : List Place) (q : Scan) → RisesFrom place_serial 0 q.places → length (filter_map report_on (verdicts q.places q.builds)) ≤ length l → fold (λ t _. one_out bounds t) q l ≡ swept_at_once bounds q
outs bounds [] q r few = by_first (first_out (verdicts q.places q.builds)) refl
  where
    by_first : (o : Option Judged) → first_out (verdicts q.places q.builds) ≡ o → q ≡ swept_at_once bounds q
    by_first None e = sym (idle_same bounds q e)
    by_first (Some j) e = let more = (out_same bounds q j r e).1 in absurd (omega arith)
outs bounds (x ∷ l) q r few = by_first (λ t h k. outs bounds l t h k) (first_out (verdicts q.places q.builds)) refl
  where
    by_first : ((t : Scan) → RisesFrom place_serial 0 t.places → length (filter_map report_on (verdicts t.places t.builds)) ≤ length l → fold (λ t _. one_out bounds t) t l ≡ swept_at_once bounds t) →
        (o : Option Judged) → first_out (verdicts q.places q.builds) ≡ o → fold (λ t _. one_out bounds t) (one_out bounds q) l ≡ swept_at_once bounds q
    by_first ih None e =
        let none : length (filter_map report_on (verdicts q.places q.builds)) ≡ 0 = ap length (idle bounds (verdicts q.places q.builds) e).reports in
        ap (λ (o : Option Judged). fold (λ t _. one_out bounds t) (option_map_or (one_taken_out bounds q) o q) l) e ∙ ih q r (omega arith)
    by_first ih (Some j) e =
        let same = out_same bounds q j r e in
        let more : length (filter_map report_on (verdicts q.places q.builds)) ≡ suc (length (filter_map report_on (verdicts (one_taken_out bounds q j).places (one_taken_out bounds q j).builds))) = same.1 in
        ap (λ (o : Option Judged). fold (λ t _. one_out bounds t) (option_map_or (one_taken_out bounds q) o q) l) e
        ∙ ih (one_taken_out bounds q j) (rise_stayers 0 q.places (is_one j) r) (omega arith)
        ∙ same.0

reports-le : (js : List Judged) → length (filter_map report_on js) ≤ length js
reports-le [] = omega arith
reports-le (x ∷ js) = by_verdict x.verdict (reports-le js)
  where
    by_verdict : (v : Option Verdict) → length (filter_map report_on js) ≤ length js → length (filter_map report_on (record { item = x.item; verdict = v } ∷ js)) ≤ suc (length js)
    by_verdict None h = omega arith
    by_verdict (Some v) h = omega arith

verdict_each : (bs : List Build) (ahead staying : List Item) (ps : List Place) → length (judged_after bs staying (places_after bs ahead ps)) ≡ length ps
verdict_each bs ahead staying [] = refl
verdict_each bs ahead staying (p ∷ ps) = let q = with_ahead ahead p in ap suc (verdict_each bs (next_ahead bs q) (next_staying staying (judge bs staying q)) ps)

pub one_sweep_is_one_by_one : OneSweepIsOneByOne
one_sweep_is_one_by_one bounds q r =
    let few : length (filter_map report_on (verdicts q.places q.builds)) ≤ length (verdicts q.places q.builds) = reports-le (verdicts q.places q.builds) in
    let each : length (verdicts q.places q.builds) ≡ length q.places = verdict_each q.builds [] [] q.places in
    outs bounds q.places q (rises place_serial q.places r) (omega arith)
