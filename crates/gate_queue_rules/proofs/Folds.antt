-- The fold of a queue's edits over its rows, part by part.
use Rattle.std.proofs.Common.{◌≡◌, ℕ, suc, ◌+◌, ◌<◌, ◌≤◌, Bool, cond, not, ◌||◌, Option, Some, None, is_some, List}
use Rattle.std.proofs.Common.{[], ◌∷◌, ◌++◌, map, fold, length, refl, sym, ap, ◌∙◌, arith, append_assoc, append-nil}
use Rattle.std.proofs.Common.{length-append}
use Rattle.std.specs.Prelude.{filter, filter_map, option_map, ◌==◌, nat_lt}
use Rattle.std.proofs.lemmas.List.Sums.{fold-append}
use Rattle.std.proofs.lemmas.Bool.{eq-eqb, ne_eqb, le-ltb}
use Rattle.gate_types.specs.declared.records.Item.{Item as ItemRow}
use Rattle.gate_types.specs.declared.records.Build.{Build}
use Rattle.gate_types.specs.declared.records.Report.{Report}
use Rattle.gate_types.specs.declared.records.Verdict.{Verdict}
use Rattle.gate_types.specs.declared.records.Verdict.TheVariants as verdict
use Rattle.gate_types.specs.declared.edits.Edit.{Edit}
use Rattle.gate_types.specs.declared.edits.Edit.TheVariants as edit
use Rattle.gate_types.specs.State.{Item, put_by}
use Rattle.gate_types.specs.Line.{Place}
use Rattle.gate_types.specs.Slot.{is_cut}
use Rattle.gate_types.specs.Standing.{places_after, with_ahead, next_ahead}
use Rattle.gate_types.specs.Sweep.{Judged, judge, judged_after, verdict_of, next_staying, next_window, report_of}
use Rattle.gate_types.specs.Window.{Bounds}
use Rattle.gate_types.specs.declared.rows.ReportRow.{ReportRow}
use Rattle.gate_types.specs.Rows.{Rows, row_of, numbered_reports, edited, edited_items, edited_builds, edited_reports}
use Rattle.gate_types.specs.Rows.{edited_window, fold_edits}
use Rattle.gate_types.specs.Rising.{RisesFrom}
use Rattle.gate_queue_rules.specs.Edits.{stops, stop_edits, item_edits, edits_at, edits_after, next_reports}
use Rattle.gate_queue_rules.specs.Edits.{window_behind}
use Rattle.gate_queue_rules.proofs.Ordered.{AllBelow, GoWith, Tells, row_serial}
use Rattle.gate_laws.proofs.Stays.{stayers}
use Rattle.gate_laws.proofs.Touches.{name_itself}

-- each part of the rows is edited by itself
pub fold_parts : (r : Rows) (edits : List Edit) → fold_edits r edits ≡ record {
  name = r.name;
  window = fold (edited_window r.name) r.window edits;
  items = fold (edited_items r.name) r.items edits;
  builds = fold (edited_builds r.name) r.builds edits;
  reports = fold (edited_reports r.name) r.reports edits;
}
fold_parts r [] = refl
fold_parts r (e ∷ edits) = fold_parts (edited r e) edits

-- the edits of items that stand at their places
abbrev pub edits_along : List ℕ → List Build → ℕ → List Item → List Place → List Edit
edits_along name bs n staying [] = []
edits_along name bs n staying (p ∷ ps) =
    edits_at name bs n staying p ++ edits_along name bs (next_reports n (verdict_of bs staying p)) (next_staying staying (judge bs staying p)) ps

pub along : (name : List ℕ) (bs : List Build) (n : ℕ) (ahead staying : List Item) (ps : List Place) → edits_after name bs n ahead staying ps ≡ edits_along name bs n staying (places_after bs ahead ps)
along name bs n ahead staying [] = refl
along name bs n ahead staying (p ∷ ps) =
    let q = with_ahead ahead p in
    ap (λ l. edits_at name bs n staying q ++ l) (along name bs (next_reports n (verdict_of bs staying q)) (next_ahead bs q) (next_staying staying (judge bs staying q)) ps)

-- stops leave a part alone
pub stops_leave : {Y : Type 0} (f : Y → Edit → Y) → ((y : Y) (n : ℕ) → f y (edit.StopBuild n) ≡ y) → (y : Y) (bs : List Build) → fold f y (map (λ b. edit.StopBuild b.number) bs) ≡ y
stops_leave f h y [] = refl
stops_leave f h y (b ∷ bs) = ap (λ z. fold f z (map (λ (x : Build). edit.StopBuild x.number) bs)) (h y b.number) ∙ stops_leave f h y bs

-- the edits of one item, at such a part
pub at_step : {Y : Type 0} (f : Y → Edit → Y) (h : (y : Y) (n : ℕ) → f y (edit.StopBuild n) ≡ y) (name : List ℕ) (bs : List Build) (n : ℕ) (staying : List Item) (p : Place) (y : Y) (rest : List Edit) →
    fold f y (edits_at name bs n staying p ++ rest) ≡ fold f (fold f y (item_edits name n (row_of bs p) (verdict_of bs staying p))) rest
at_step f h name bs n staying p y rest =
    let stop = stop_edits bs p (is_some (verdict_of bs staying p) || is_cut bs p) in
    let own = item_edits name n (row_of bs p) (verdict_of bs staying p) in
    fold-append f y (stop ++ own) rest
    ∙ ap (λ z. fold f z rest) (fold-append f y stop own ∙ ap (λ z. fold f z own) (stops_leave f h y (filter (stops p (is_some (verdict_of bs staying p) || is_cut bs p)) bs)))

-- ---- the window

pub window_own : (name : List ℕ) (w n : ℕ) (i : ItemRow) (v : Option Verdict) → fold (edited_window name) w (item_edits name n i v) ≡ w
window_own name w n i None = refl
window_own name w n i (Some v) = refl

pub window_fold : (name : List ℕ) (w : ℕ) (bs : List Build) (n : ℕ) (staying : List Item) (ps : List Place) → fold (edited_window name) w (edits_along name bs n staying ps) ≡ w
window_fold name w bs n staying [] = refl
window_fold name w bs n staying (p ∷ ps) =
    let v = verdict_of bs staying p in
    let rest = edits_along name bs (next_reports n v) (next_staying staying (judge bs staying p)) ps in
    at_step (edited_window name) (λ y k. refl) name bs n staying p w rest
    ∙ ap (λ z. fold (edited_window name) z rest) (window_own name w n (row_of bs p) v)
    ∙ window_fold name w bs (next_reports n v) (next_staying staying (judge bs staying p)) ps

pub window_same : (bounds : Bounds) (w : ℕ) (i : Item) (v : Option Verdict) → window_behind bounds w v ≡ next_window bounds w (record { item = i; verdict = v })
window_same bounds w i None = refl
window_same bounds w i (Some verdict.Failed) = refl
window_same bounds w i (Some verdict.Needs) = refl
window_same bounds w i (Some verdict.Refused) = refl
window_same bounds w i (Some verdict.Superseded) = refl
window_same bounds w i (Some verdict.Withdrawn) = refl
window_same bounds w i (Some verdict.Closed) = refl
window_same bounds w i (Some (verdict.Landed n)) = refl

-- ---- the reports

-- a report behind all others is the last row
pub put_last : (k : ℕ) (rs : List Report) (r : Report) (n : ℕ) → n ≡ k + length rs → put_by (λ (x : ReportRow). x.place) (record { place = n + 1; report = r }) (numbered_reports k rs) ≡ numbered_reports k (rs ++ r ∷ [])
put_last k [] r n e = let at : n + 1 ≡ suc k = omega arith in ap (λ m. record { place = m; report = r } ∷ []) at
put_last k (x ∷ rs) r n e =
    let rest = put_by (λ (y : ReportRow). y.place) (record { place = n + 1; report = r }) (numbered_reports (suc k) rs) in
    let first : ReportRow = record { place = suc k; report = x } in
    let new : ReportRow = record { place = n + 1; report = r } in
    ap (λ t. cond t (new ∷ numbered_reports (suc k) rs) (cond (nat_lt (n + 1) (suc k)) (new ∷ first ∷ numbered_reports (suc k) rs) (first ∷ rest))) (ne_eqb (n + 1) (suc k) (λ s. omega (arith, s)))
    ∙ ap (λ t. cond t (new ∷ first ∷ numbered_reports (suc k) rs) (first ∷ rest)) (le-ltb (n + 1) (suc k) (omega arith))
    ∙ ap (λ l. first ∷ l) (put_last (suc k) rs r n (omega arith))

abbrev pub reports_of : List Judged → List Report
reports_of js = filter_map (λ j. option_map (λ v. report_of v j.item) j.verdict) js

pub reports_own : (name : List ℕ) (rs : List Report) (bs : List Build) (p : Place) (v : Option Verdict) (js : List Judged) →
    (l : List Report) × (fold (edited_reports name) (numbered_reports 0 rs) (item_edits name (length rs) (row_of bs p) v) ≡ numbered_reports 0 l) × (length l ≡ next_reports (length rs) v) × (l ++ reports_of js ≡ rs ++ reports_of (record { item = p.item; verdict = v } ∷ js))
reports_own name rs bs p None js = (rs, refl, refl, refl)
reports_own name rs bs p (Some v) js =
    let r = report_of v p.item in (
      rs ++ r ∷ [],
      ap (λ t. cond t (put_by (λ (x : ReportRow). x.place) (record { place = length rs + 1; report = r }) (numbered_reports 0 rs)) (numbered_reports 0 rs)) (name_itself name) ∙ put_last 0 rs r (length rs) (omega arith),
      length-append rs (r ∷ []),
      append_assoc rs (r ∷ []) (reports_of js),
    )

pub reports_fold : (name : List ℕ) (rs : List Report) (bs : List Build) (n : ℕ) (staying : List Item) (ps : List Place) → length rs ≡ n →
    fold (edited_reports name) (numbered_reports 0 rs) (edits_along name bs n staying ps) ≡ numbered_reports 0 (rs ++ reports_of (judged_after bs staying ps))
reports_fold name rs bs n staying [] e = ap (numbered_reports 0) (sym (append-nil rs))
reports_fold name rs bs n staying (p ∷ ps) e =
    let v = verdict_of bs staying p in
    let next = next_staying staying (judge bs staying p) in
    let rest = edits_along name bs (next_reports n v) next ps in
    let own = reports_own name rs bs p v (judged_after bs next ps) in
    at_step (edited_reports name) (λ y k. refl) name bs n staying p (numbered_reports 0 rs) rest
    ∙ ap (λ m. fold (edited_reports name) (fold (edited_reports name) (numbered_reports 0 rs) (item_edits name m (row_of bs p) v)) rest) (sym e)
    ∙ ap (λ z. fold (edited_reports name) z rest) own.1
    ∙ reports_fold name own.0 bs (next_reports n v) next ps (own.2 ∙ ap (λ m. next_reports m v) e)
    ∙ ap (numbered_reports 0) own.3

-- ---- the items

put_there : (done rest : List ItemRow) (i x : ItemRow) → x.serial ≡ i.serial → AllBelow row_serial i.serial done → put_by row_serial x (done ++ i ∷ rest) ≡ done ++ x ∷ rest
put_there [] rest i x e h = ap (λ t. cond t (x ∷ rest) (cond (nat_lt x.serial i.serial) (x ∷ i ∷ rest) (i ∷ put_by row_serial x rest))) (eq-eqb x.serial i.serial e)
put_there (y ∷ ys) rest i x e h =
    let below : y.serial < i.serial = h.0 in
    ap (λ t. cond t (x ∷ (ys ++ i ∷ rest)) (cond (nat_lt x.serial y.serial) (x ∷ y ∷ (ys ++ i ∷ rest)) (y ∷ put_by row_serial x (ys ++ i ∷ rest)))) (ne_eqb x.serial y.serial (λ s. omega (arith, s)))
    ∙ ap (λ t. cond t (x ∷ y ∷ (ys ++ i ∷ rest)) (y ∷ put_by row_serial x (ys ++ i ∷ rest))) (le-ltb x.serial y.serial (omega arith))
    ∙ ap (λ zs. y ∷ zs) (put_there ys rest i x e h.1)

drop_none : (s n : ℕ) (is : List ItemRow) → s < n → RisesFrom row_serial n is → filter (λ j. not (j.serial == s)) is ≡ is
drop_none s n [] l r = refl
drop_none s n (i ∷ is) l r =
    let from : n ≤ i.serial = r.0 in
    ap (λ t. cond (not t) (i ∷ filter (λ j. not (j.serial == s)) is) (filter (λ j. not (j.serial == s)) is)) (ne_eqb i.serial s (λ x. omega (arith, x)))
    ∙ ap (λ zs. i ∷ zs) (drop_none s (suc i.serial) is (omega arith) r.1)

drop_there : (done : List ItemRow) (i : ItemRow) (is : List ItemRow) → AllBelow row_serial i.serial done → RisesFrom row_serial (suc i.serial) is → filter (λ j. not (j.serial == i.serial)) (done ++ i ∷ is) ≡ done ++ is
drop_there [] i is h r =
    ap (λ t. cond (not t) (i ∷ filter (λ j. not (j.serial == i.serial)) is) (filter (λ j. not (j.serial == i.serial)) is)) (eq-eqb i.serial i.serial refl)
    ∙ drop_none i.serial (suc i.serial) is (omega arith) r
drop_there (y ∷ ys) i is h r =
    let below : y.serial < i.serial = h.0 in
    ap (λ t. cond (not t) (y ∷ filter (λ j. not (j.serial == i.serial)) (ys ++ i ∷ is)) (filter (λ j. not (j.serial == i.serial)) (ys ++ i ∷ is))) (ne_eqb y.serial i.serial (λ s. omega (arith, s)))
    ∙ ap (λ zs. y ∷ zs) (drop_there ys i is h.1 r)

pub below_more : (n m : ℕ) (done : List ItemRow) → n ≤ m → AllBelow row_serial n done → AllBelow row_serial m done
below_more n m [] l h = tt
below_more n m (x ∷ xs) l h = let below : x.serial < n = h.0 in (omega arith, below_more n m xs l h.1)

-- what is put in place of an item, or nothing
abbrev pub kept : Option Verdict → ItemRow → List ItemRow
kept v row = cond (is_some v) [] (row ∷ [])

pub below_kept : (n : ℕ) (done : List ItemRow) (x : ItemRow) (v : Option Verdict) → x.serial < n → AllBelow row_serial n done → AllBelow row_serial n (done ++ kept v x)
below_kept n [] x None l h = (l, tt)
below_kept n [] x (Some v) l h = tt
below_kept n (y ∷ ys) x v l h = (h.0, below_kept n ys x v l h.1)

pub items_own : (name : List ℕ) (n : ℕ) (done : List ItemRow) (i x : ItemRow) (v : Option Verdict) (rest : List ItemRow) → x.serial ≡ i.serial → AllBelow row_serial i.serial done → RisesFrom row_serial (suc i.serial) rest →
    fold (edited_items name) (done ++ i ∷ rest) (item_edits name n x v) ≡ (done ++ kept v x) ++ rest
items_own name n done i x None rest e h r =
    ap (λ t. cond t (put_by row_serial x (done ++ i ∷ rest)) (done ++ i ∷ rest)) (name_itself name)
    ∙ put_there done rest i x e h
    ∙ sym (append_assoc done (x ∷ []) rest)
items_own name n done i x (Some v) rest e h r =
    ap (λ s. filter (λ j. not (j.serial == s)) (done ++ i ∷ rest)) e
    ∙ drop_there done i rest h r
    ∙ ap (λ d. d ++ rest) (sym (append-nil done))

pub kept_cons : (done tail : List ItemRow) (bs : List Build) (p : Place) (v : Option Verdict) (leaves : ℕ → Bool) (ps : List Place) → leaves p.item.serial ≡ is_some v →
    (done ++ kept v (row_of bs p)) ++ (map (row_of bs) (stayers leaves ps) ++ tail) ≡ done ++ (map (row_of bs) (stayers leaves (p ∷ ps)) ++ tail)
kept_cons done tail bs p v leaves ps e =
    by_verdict v
    ∙ ap (λ t. done ++ (map (row_of bs) (cond (not t) (p ∷ stayers leaves ps) (stayers leaves ps)) ++ tail)) (sym e)
  where
    by_verdict : (w : Option Verdict) → (done ++ kept w (row_of bs p)) ++ (map (row_of bs) (stayers leaves ps) ++ tail) ≡ done ++ (map (row_of bs) (cond (not (is_some w)) (p ∷ stayers leaves ps) (stayers leaves ps)) ++ tail)
    by_verdict None = append_assoc done (row_of bs p ∷ []) (map (row_of bs) (stayers leaves ps) ++ tail)
    by_verdict (Some w) = ap (λ d. d ++ (map (row_of bs) (stayers leaves ps) ++ tail)) (append-nil done)

-- between rows that are done and a tail, each item that stays has its row with both columns
pub items_fold : (name : List ℕ) (bs : List Build) (n m : ℕ) (staying : List Item) (leaves : ℕ → Bool) (done is tail : List ItemRow) (ps : List Place) →
    AllBelow row_serial m done → RisesFrom row_serial m (is ++ tail) → GoWith is ps → Tells leaves (judged_after bs staying ps) →
    fold (edited_items name) (done ++ (is ++ tail)) (edits_along name bs n staying ps) ≡ done ++ (map (row_of bs) (stayers leaves ps) ++ tail)
items_fold name bs n m staying leaves done [] tail [] h r g t = refl
items_fold name bs n m staying leaves done [] tail (p ∷ ps) h r g t = absurd g
items_fold name bs n m staying leaves done (i ∷ is) tail [] h r g t = absurd g
items_fold name bs n m staying leaves done (i ∷ is) tail (p ∷ ps) h r g t =
    let v = verdict_of bs staying p in
    let next = next_staying staying (judge bs staying p) in
    let rest = edits_along name bs (next_reports n v) next ps in
    let same : i.serial ≡ p.item.serial = g.0 in
    let from : m ≤ i.serial = r.0 in
    let here = below_more m i.serial done from h in
    at_step (edited_items name) (λ y k. refl) name bs n staying p (done ++ i ∷ (is ++ tail)) rest
    ∙ ap (λ z. fold (edited_items name) z rest) (items_own name n done i (row_of bs p) v (is ++ tail) (sym same) here r.1)
    ∙ items_fold name bs (next_reports n v) (suc i.serial) next leaves (done ++ kept v (row_of bs p)) is tail ps (below_kept (suc i.serial) done (row_of bs p) v (omega arith) (below_more i.serial (suc i.serial) done (omega arith) here)) r.1 g.1 t.1
    ∙ kept_cons done tail bs p v leaves ps t.0
