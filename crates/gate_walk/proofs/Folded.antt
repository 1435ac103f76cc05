-- The edits of the rows that a walk asked for, folded over the stored rows, settle the queue.
use Rattle.std.proofs.Common.{◌||◌, ◌≡◌, ℕ, suc, ◌≤◌, Bool, true, false, cond, Option, Some, None, is_some, List, []}
use Rattle.std.proofs.Common.{◌∷◌, ◌++◌, map, fold, length, refl, sym, ap, ◌∙◌, true≢false, arith, append-nil}
use Rattle.std.proofs.Common.{append_assoc}
use Rattle.std.specs.Prelude.{filter, nat_eq, ◌==◌, ◌&&◌}
use Rattle.std.specs.Bool.{beq}
use Rattle.std.specs.Cmp.{booleans_Decides}
use Rattle.std.specs.Option.{option_eq}
use Rattle.std.proofs.lemmas.Bool.{and_parts, eqb-true}
use Rattle.std.proofs.lemmas.List.Sums.{fold-append}
use Rattle.gate_types.specs.declared.records.Item.{Item as ItemRow}
use Rattle.gate_types.specs.declared.records.Landing.{Landing}
use Rattle.gate_types.specs.declared.records.Build.{Build}
use Rattle.gate_types.specs.declared.records.Report.{Report}
use Rattle.gate_types.specs.declared.records.Verdict.{Verdict}
use Rattle.gate_types.specs.declared.records.Verdict.TheVariants as verdict
use Rattle.gate_types.specs.declared.edits.Edit.{Edit}
use Rattle.gate_types.specs.declared.edits.Edit.TheVariants as edit
use Rattle.gate_types.specs.State.{Item}
use Rattle.gate_types.specs.Line.{Place}
use Rattle.gate_types.specs.Standing.{places_after}
use Rattle.gate_types.specs.Slot.{is_cut}
use Rattle.gate_types.specs.Sweep.{judge, judged_after, next_staying, next_window, verdict_of, goes}
use Rattle.gate_types.specs.Window.{Bounds}
use Rattle.gate_types.specs.Rows.{numbered_reports, row_of, fold_edits, edited_items, edited_builds, edited_reports}
use Rattle.gate_types.specs.Rows.{edited_window}
use Rattle.gate_types.specs.Rising.{RisesFrom}
use Rattle.gate_queue_rules.specs.Edits.{stops, stop_edits, item_edits, edits_at, next_reports, window_behind}
use Rattle.gate_queue_rules.specs.Settled.{verdicts, settled_rows}
use Rattle.gate_walk.specs.Walk.{Seen, Carry, is_asked_for, carried, is_same_row, row_edits, visit_edits, walk_edits}
use Rattle.gate_walk.specs.Walk.{window_edits_by}
use Rattle.gate_queue_rules.proofs.Ordered.{AllBelow, GoWith, Tells, row_serial, build_number, places_rise}
use Rattle.gate_queue_rules.proofs.Ordered.{ahead_rise, ahead_with}
use Rattle.gate_queue_rules.proofs.Folds.{fold_parts, edits_along, stops_leave, window_own, window_same, reports_fold}
use Rattle.gate_queue_rules.proofs.Folds.{items_own, below_kept, below_more, kept, kept_cons}
use Rattle.gate_laws.proofs.Stays.{stayers}
use Rattle.gate_laws.proofs.Touches.{name_itself}
use Rattle.gate_queue_rules.proofs.Builds.{builds_fold}
use Rattle.gate_queue_rules.proofs.Settled.{goes_tells, edits_make, settles}
use Rattle.gate_walk.proofs.Steps.{edits_for}
use Rattle.gate_walk.proofs.Resets.{Right, asked}

-- the edits of the rows that are asked for, one after another
abbrev pub told : List (Option (List Edit)) → List Edit
told [] = []
told (Some edits ∷ es) = edits ++ told es
told (None ∷ es) = told es

-- they are those of the walk
pub asked_told : (name : List ℕ) (bounds : Bounds) (k : Carry) (vs : List Seen) → told (asked name bounds k vs) ≡ walk_edits name bounds k vs
asked_told name bounds k [] = refl
asked_told name bounds k (v ∷ vs) =
    by_test (is_asked_for k v) ∙ (λ i. cond (is_asked_for k v) (visit_edits name bounds k v ++ asked_told name bounds (carried bounds k v) vs i) (asked_told name bounds k vs i))
  where
    by_test : (t : Bool) → told (cond t (Some (visit_edits name bounds k v) ∷ asked name bounds (carried bounds k v) vs) (None ∷ asked name bounds k vs)) ≡ cond t (visit_edits name bounds k v ++ told (asked name bounds (carried bounds k v) vs)) (told (asked name bounds k vs))
    by_test true = refl
    by_test false = refl

-- ---- a window edit is the window's alone

pub window_aside : {Y : Type 0} (f : Y → Edit → Y) (name : List ℕ) (bounds : Bounds) (w : ℕ) (v : Option Verdict) (y : Y) → ((m : ℕ) → f y (edit.SetWindow name m) ≡ y) → fold f y (window_edits_by name bounds w v) ≡ y
window_aside f name bounds w v y h = by_test (w == window_behind bounds w v)
  where
    by_test : (t : Bool) → fold f y (cond t [] (edit.SetWindow name (window_behind bounds w v) ∷ [])) ≡ y
    by_test true = refl
    by_test false = h (window_behind bounds w v)

window_set : (name : List ℕ) (bounds : Bounds) (w : ℕ) (i : Item) (v : Option Verdict) → fold (edited_window name) w (window_edits_by name bounds w v) ≡ next_window bounds w (record { item = i; verdict = v })
window_set name bounds w i v = by_test (w == window_behind bounds w v) refl ∙ window_same bounds w i v
  where
    by_test : (t : Bool) → (w == window_behind bounds w v) ≡ t → fold (edited_window name) w (cond t [] (edit.SetWindow name (window_behind bounds w v) ∷ [])) ≡ window_behind bounds w v
    by_test true e = eqb-true w (window_behind bounds w v) e
    by_test false e = ap (λ t. cond t (window_behind bounds w v) w) (name_itself name)

-- ---- a row that stays as it is stored

same_ahead : (a b : Option ℕ) → option_eq nat_eq a b ≡ true → a ≡ b
same_ahead None None e = refl
same_ahead None (Some b) e = absurd (true≢false (sym e))
same_ahead (Some a) None e = absurd (true≢false (sym e))
same_ahead (Some a) (Some b) e = ap Some (eqb-true a b e)

same_row : (a b : ItemRow) → is_same_row a b ≡ true → a ≡ b
same_row a b e =
    let serial = a.serial == b.serial in
    let change = a.change == b.change in
    let revision = a.revision == b.revision in
    let ahead = option_eq nat_eq a.ahead b.ahead in
    let marks = and_parts (serial && change && revision && ahead) (beq a.failing b.failing) e in
    let columns = and_parts (serial && change && revision) ahead marks.0 in
    let revisions = and_parts (serial && change) revision columns.0 in
    let entries = and_parts serial change revisions.0 in
    λ i. record {
      serial = eqb-true a.serial b.serial entries.0 i;
      change = eqb-true a.change b.change entries.1 i;
      revision = eqb-true a.revision b.revision revisions.1 i;
      ahead = same_ahead a.ahead b.ahead columns.1 i;
      failing = (booleans_Decides a.failing b.failing).0 marks.1 i;
    }

-- where a part isn't the items', its edits are those of a row that is put anyway
row_aside : {Y : Type 0} (f : Y → Edit → Y) (name : List ℕ) (n : ℕ) (i x : ItemRow) (v : Option Verdict) (y : Y) → ((z : Y) (j : ItemRow) → f z (edit.PutItem name j) ≡ z) →
    fold f y (row_edits name n i x v) ≡ fold f y (item_edits name n x v)
row_aside f name n i x None y h = by_test (is_same_row i x)
  where
    by_test : (t : Bool) → fold f y (cond t [] (edit.PutItem name x ∷ [])) ≡ f y (edit.PutItem name x)
    by_test true = sym (h y x)
    by_test false = refl
row_aside f name n i x (Some v) y h = refl

-- and the items are the same
pub items_row : (name : List ℕ) (n : ℕ) (done : List ItemRow) (i x : ItemRow) (v : Option Verdict) (rest : List ItemRow) → x.serial ≡ i.serial → AllBelow row_serial i.serial done → RisesFrom row_serial (suc i.serial) rest →
    fold (edited_items name) (done ++ i ∷ rest) (row_edits name n i x v) ≡ (done ++ kept v x) ++ rest
items_row name n done i x None rest e h r = by_test (is_same_row i x) refl
  where
    by_test : (t : Bool) → is_same_row i x ≡ t → fold (edited_items name) (done ++ i ∷ rest) (cond t [] (edit.PutItem name x ∷ [])) ≡ (done ++ kept None x) ++ rest
    by_test true s = sym (append_assoc done (i ∷ []) rest) ∙ ap (λ (y : ItemRow). (done ++ y ∷ []) ++ rest) (same_row i x s)
    by_test false s = items_own name n done i x None rest e h r
items_row name n done i x (Some v) rest e h r = items_own name n done i x (Some v) rest e h r

-- ---- one row, at one part of the rows

-- asked for: the edits of a look at the whole queue, and then the window's
pub asked_step : {Y : Type 0} (f : Y → Edit → Y) (h : (y : Y) (m : ℕ) → f y (edit.StopBuild m) ≡ y) (name : List ℕ) (bounds : Bounds) (bs : List Build) (n w : ℕ) (staying : List Item) (p : Place) (i : ItemRow) (edits rest : List Edit) (y : Y) →
    edits ≡ edits_for name bs n staying p i ++ window_edits_by name bounds w (verdict_of bs staying p) →
    fold f y (edits ++ rest) ≡ fold f (fold f (fold f y (row_edits name n i (row_of bs p) (verdict_of bs staying p))) (window_edits_by name bounds w (verdict_of bs staying p))) rest
asked_step f h name bounds bs n w staying p i edits rest y e =
    let v = verdict_of bs staying p in
    let stop = stop_edits bs p (is_some v || is_cut bs p) in
    let own = row_edits name n i (row_of bs p) v in
    let win = window_edits_by name bounds w v in
    ap (λ l. fold f y (l ++ rest)) e
    ∙ fold-append f y ((stop ++ own) ++ win) rest
    ∙ ap (λ z. fold f z rest) (fold-append f y (stop ++ own) win ∙ ap (λ z. fold f z win) (fold-append f y stop own ∙ ap (λ z. fold f z own) (stops_leave f h y (filter (stops p (is_some v || is_cut bs p)) bs))))

-- not asked for: a look at the whole queue would put the row as it is
not_asked : (name : List ℕ) (bs : List Build) (n : ℕ) (staying : List Item) (p : Place) → verdict_of bs staying p ≡ None → filter (stops p (is_cut bs p)) bs ≡ [] → edits_at name bs n staying p ≡ edit.PutItem name (row_of bs p) ∷ []
not_asked name bs n staying p e h =
    ap (λ (v : Option Verdict). stop_edits bs p (is_some v || is_cut bs p) ++ item_edits name n (row_of bs p) v) e
    ∙ ap (λ (l : List Build). map (λ (b : Build). edit.StopBuild b.number) l ++ (edit.PutItem name (row_of bs p) ∷ [])) h

-- ---- the window

pub window_told : (name : List ℕ) (bounds : Bounds) (bs : List Build) (n w : ℕ) (staying : List Item) (ps : List Place) (is : List ItemRow) (es : List (Option (List Edit))) → Right name bounds bs n w staying ps is es →
    fold (edited_window name) w (told es) ≡ fold (next_window bounds) w (judged_after bs staying ps)
window_told name bounds bs n w staying [] [] [] r = refl
window_told name bounds bs n w staying [] [] (e ∷ es) r = absurd r
window_told name bounds bs n w staying [] (i ∷ is) es r = absurd r
window_told name bounds bs n w staying (p ∷ ps) [] es r = absurd r
window_told name bounds bs n w staying (p ∷ ps) (i ∷ is) [] r = absurd r
window_told name bounds bs n w staying (p ∷ ps) (i ∷ is) (Some edits ∷ es) r =
    let v = verdict_of bs staying p in
    let next = next_staying staying (judge bs staying p) in
    asked_step (edited_window name) (λ y m. refl) name bounds bs n w staying p i edits (told es) w r.0
    ∙ ap (λ m. fold (edited_window name) (fold (edited_window name) m (window_edits_by name bounds w v)) (told es)) (row_aside (edited_window name) name n i (row_of bs p) v w (λ z j. refl) ∙ window_own name w n (row_of bs p) v)
    ∙ ap (λ m. fold (edited_window name) m (told es)) (window_set name bounds w p.item v ∙ sym (window_same bounds w p.item v))
    ∙ window_told name bounds bs (next_reports n v) (window_behind bounds w v) next ps is es r.1
    ∙ ap (λ m. fold (next_window bounds) m (judged_after bs next ps)) (window_same bounds w p.item v)
window_told name bounds bs n w staying (p ∷ ps) (i ∷ is) (None ∷ es) r =
    let v = verdict_of bs staying p in
    let next = next_staying staying (judge bs staying p) in
    let stays : v ≡ None = r.0.1 in
    ap (λ (o : Option Verdict). fold (edited_window name) (window_behind bounds w o) (told es)) (sym stays)
    ∙ window_told name bounds bs (next_reports n v) (window_behind bounds w v) next ps is es r.1
    ∙ ap (λ m. fold (next_window bounds) m (judged_after bs next ps)) (window_same bounds w p.item v)

-- ---- builds and reports

pub part_told : {Y : Type 0} (f : Y → Edit → Y) (name : List ℕ) (bounds : Bounds) (bs : List Build) (n w : ℕ) (staying : List Item) (ps : List Place) (is : List ItemRow) (es : List (Option (List Edit))) (y : Y) →
    ((z : Y) (m : ℕ) → f z (edit.SetWindow name m) ≡ z) → ((z : Y) (i : ItemRow) → f z (edit.PutItem name i) ≡ z) → Right name bounds bs n w staying ps is es →
    fold f y (told es) ≡ fold f y (edits_along name bs n staying ps)
part_told f name bounds bs n w staying [] [] [] y hw hp r = refl
part_told f name bounds bs n w staying [] [] (e ∷ es) y hw hp r = absurd r
part_told f name bounds bs n w staying [] (i ∷ is) es y hw hp r = absurd r
part_told f name bounds bs n w staying (p ∷ ps) [] es y hw hp r = absurd r
part_told f name bounds bs n w staying (p ∷ ps) (i ∷ is) [] y hw hp r = absurd r
part_told f name bounds bs n w staying (p ∷ ps) (i ∷ is) (Some edits ∷ es) y hw hp r =
    let v = verdict_of bs staying p in
    let next = next_staying staying (judge bs staying p) in
    let stop = stop_edits bs p (is_some v || is_cut bs p) in
    let put = item_edits name n (row_of bs p) v in
    let row = row_edits name n i (row_of bs p) v in
    let own = edits_at name bs n staying p in
    let win = window_edits_by name bounds w v in
    let same : fold f y (stop ++ row) ≡ fold f y own =
    fold-append f y stop row ∙ row_aside f name n i (row_of bs p) v (fold f y stop) hp ∙ sym (fold-append f y stop put) in
    ap (λ l. fold f y (l ++ told es)) r.0
    ∙ fold-append f y ((stop ++ row) ++ win) (told es)
    ∙ ap (λ z. fold f z (told es)) (fold-append f y (stop ++ row) win ∙ window_aside f name bounds w v (fold f y (stop ++ row)) (hw (fold f y (stop ++ row))) ∙ same)
    ∙ part_told f name bounds bs (next_reports n v) (window_behind bounds w v) next ps is es (fold f y own) hw hp r.1
    ∙ sym (fold-append f y own (edits_along name bs (next_reports n v) next ps))
part_told f name bounds bs n w staying (p ∷ ps) (i ∷ is) (None ∷ es) y hw hp r =
    let v = verdict_of bs staying p in
    let next = next_staying staying (judge bs staying p) in
    part_told f name bounds bs (next_reports n v) (window_behind bounds w v) next ps is es y hw hp r.1
    ∙ ap (λ z. fold f z (edits_along name bs (next_reports n v) next ps)) (sym (hp y (row_of bs p)))
    ∙ ap (λ l. fold f y (l ++ edits_along name bs (next_reports n v) next ps)) (sym (not_asked name bs n staying p r.0.1 r.0.2))

-- ---- the items

-- between rows that are done and a tail, each item that stays has its row with both columns
items_told : (name : List ℕ) (bounds : Bounds) (bs : List Build) (n m w : ℕ) (staying : List Item) (leaves : ℕ → Bool) (done is : List ItemRow) (ps : List Place) (es : List (Option (List Edit))) →
    AllBelow row_serial m done → RisesFrom row_serial m is → GoWith is ps → Tells leaves (judged_after bs staying ps) → Right name bounds bs n w staying ps is es →
    fold (edited_items name) (done ++ is) (told es) ≡ done ++ (map (row_of bs) (stayers leaves ps) ++ [])
items_told name bounds bs n m w staying leaves done [] [] [] h r g t a = refl
items_told name bounds bs n m w staying leaves done [] [] (e ∷ es) h r g t a = absurd a
items_told name bounds bs n m w staying leaves done [] (p ∷ ps) es h r g t a = absurd g
items_told name bounds bs n m w staying leaves done (i ∷ is) [] es h r g t a = absurd g
items_told name bounds bs n m w staying leaves done (i ∷ is) (p ∷ ps) [] h r g t a = absurd a
items_told name bounds bs n m w staying leaves done (i ∷ is) (p ∷ ps) (Some edits ∷ es) h r g t a =
    let v = verdict_of bs staying p in
    let next = next_staying staying (judge bs staying p) in
    let same : i.serial ≡ p.item.serial = g.0 in
    let from : m ≤ i.serial = r.0 in
    let here = below_more m i.serial done from h in
    let there = (done ++ kept v (row_of bs p)) ++ is in
    asked_step (edited_items name) (λ y k. refl) name bounds bs n w staying p i edits (told es) (done ++ i ∷ is) a.0
    ∙ ap (λ z. fold (edited_items name) (fold (edited_items name) z (window_edits_by name bounds w v)) (told es)) (items_row name n done i (row_of bs p) v is (sym same) here r.1)
    ∙ ap (λ z. fold (edited_items name) z (told es)) (window_aside (edited_items name) name bounds w v there (λ k. refl))
    ∙ items_told name bounds bs (next_reports n v) (suc i.serial) (window_behind bounds w v) next leaves (done ++ kept v (row_of bs p)) is ps es (below_kept (suc i.serial) done (row_of bs p) v (omega arith) (below_more i.serial (suc i.serial) done (omega arith) here)) r.1 g.1 t.1 a.1
    ∙ kept_cons done [] bs p v leaves ps t.0
items_told name bounds bs n m w staying leaves done (i ∷ is) (p ∷ ps) (None ∷ es) h r g t a =
    let v = verdict_of bs staying p in
    let next = next_staying staying (judge bs staying p) in
    let same : i.serial ≡ p.item.serial = g.0 in
    let from : m ≤ i.serial = r.0 in
    let here = below_more m i.serial done from h in
    let stays : v ≡ None = a.0.1 in
    let there : done ++ i ∷ is ≡ (done ++ kept v (row_of bs p)) ++ is =
    sym (append_assoc done (i ∷ []) is) ∙ (λ k. (done ++ a.0.0 k ∷ []) ++ is) ∙ ap (λ (o : Option Verdict). (done ++ kept o (row_of bs p)) ++ is) (sym stays) in
    ap (λ z. fold (edited_items name) z (told es)) there
    ∙ items_told name bounds bs (next_reports n v) (suc i.serial) (window_behind bounds w v) next leaves (done ++ kept v (row_of bs p)) is ps es (below_kept (suc i.serial) done (row_of bs p) v (omega arith) (below_more i.serial (suc i.serial) done (omega arith) here)) r.1 g.1 t.1 a.1
    ∙ kept_cons done [] bs p v leaves ps t.0

-- ---- all of it

-- the walk's edits settle the queue as a look at all of it would
pub walk_settles : (name : List ℕ) (bounds : Bounds) (w n : ℕ) (bs : List Build) (is : List ItemRow) (ls : List Landing) (ps : List Place) (rs : List Report) (items : List Item) (es : List (Option (List Edit))) →
    length rs ≡ n → GoWith is ps → RisesFrom row_serial 0 is → RisesFrom build_number 0 bs → Right name bounds bs n w [] (places_after bs [] ps) is es →
    fold_edits (record { name = name; window = w; items = is; builds = bs; reports = numbered_reports 0 rs }) (told es)
    ≡ settled_rows bounds ps bs (record { name = name; window = w; landings = ls; items = items; reports = rs })
walk_settles name bounds w n bs is ls ps rs items es en g r rb a =
    let qs = places_after bs [] ps in
    let js = verdicts ps bs in
    let rq = ahead_rise bs 0 [] ps (places_rise 0 is ps g r) in
    let windows = window_told name bounds bs n w [] qs is es a in
    let items_are = items_told name bounds bs n 0 w [] (goes js) [] is qs es tt r (ahead_with bs [] is ps g) (goes_tells bs 0 [] qs rq) a ∙ append-nil (map (row_of bs) (stayers (goes js) qs)) in
    let builds = part_told (edited_builds name) name bounds bs n w [] qs is es bs (λ z m. refl) (λ z i. refl) a ∙ builds_fold name bs n qs rb rq in
    let reports = part_told (edited_reports name) name bounds bs n w [] qs is es (numbered_reports 0 rs) (λ z m. refl) (λ z i. refl) a ∙ reports_fold name rs bs n [] qs en in
    fold_parts (record { name = name; window = w; items = is; builds = bs; reports = numbered_reports 0 rs }) (told es)
    ∙ (λ k. record { name = name; window = windows k; items = items_are k; builds = builds k; reports = reports k })
    ∙ sym (edits_make name bounds w n bs is ps rs en g r rb)
    ∙ settles name bounds w n bs is ls ps rs items en g r rb
