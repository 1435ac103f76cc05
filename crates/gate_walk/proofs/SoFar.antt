-- Between two visits: what the walk has told so far settles the items up to there, and leaves all others.
use Rattle.std.proofs.Common.{◌≡◌, ℕ, suc, ◌≤◌, Bool, true, false, cond, Option, Some, None, List, [], ◌∷◌, ◌++◌, map}
use Rattle.std.proofs.Common.{fold, length, refl, sym, ap, ◌∙◌, arith, append_assoc}
use Rattle.gate_types.specs.Window.{Bounds}
use Rattle.gate_types.specs.declared.records.Item.{Item as ItemRow}
use Rattle.gate_types.specs.declared.records.Build.{Build}
use Rattle.gate_types.specs.declared.records.Landing.{Landing}
use Rattle.gate_types.specs.declared.records.Report.{Report}
use Rattle.gate_types.specs.declared.records.Verdict.{Verdict}
use Rattle.gate_types.specs.declared.edits.Edit.{Edit}
use Rattle.gate_types.specs.State.{Item}
use Rattle.gate_types.specs.Line.{Place}
use Rattle.gate_types.specs.Sweep.{judge, judged_after, next_staying, verdict_of, goes}
use Rattle.gate_types.specs.Rows.{numbered_reports, row_of, fold_edits, edited_items, edited_builds, edited_reports}
use Rattle.gate_types.specs.Rising.{RisesFrom}
use Rattle.gate_queue_rules.specs.Edits.{next_reports, window_behind}
use Rattle.gate_walk.specs.Rescan.{settled_to}
use Rattle.gate_walk.specs.Walk.{Seen, Carry, is_asked_for, carried, visit_edits, window_edits_by}
use Rattle.gate_queue_rules.proofs.Ordered.{AllBelow, GoWith, Tells, row_serial, build_number}
use Rattle.gate_queue_rules.proofs.Folds.{fold_parts, below_kept, below_more, kept, kept_cons, reports_fold}
use Rattle.gate_laws.proofs.Stays.{stayers}
use Rattle.gate_laws.proofs.LiveBuildsCount.{place_serial}
use Rattle.gate_queue_rules.proofs.Builds.{builds_fold}
use Rattle.gate_queue_rules.proofs.Settled.{goes_tells}
use Rattle.gate_walk.proofs.Resets.{Right, asked}
use Rattle.gate_walk.proofs.Folded.{told, asked_step, items_row, window_aside, window_told, part_told}

-- ---- the first part of a walk

-- what is right of all rows is right of the first ones
pub right_first : (name : List ℕ) (bounds : Bounds) (bs : List Build) (n w : ℕ) (staying : List Item) (ps qs : List Place) (is js : List ItemRow) (es fs : List (Option (List Edit))) → length ps ≡ length is → length is ≡ length es →
    Right name bounds bs n w staying (ps ++ qs) (is ++ js) (es ++ fs) → Right name bounds bs n w staying ps is es
right_first name bounds bs n w staying [] qs [] js [] fs a b r = tt
right_first name bounds bs n w staying [] qs [] js (e ∷ es) fs a b r = absurd (omega (arith, b))
right_first name bounds bs n w staying [] qs (i ∷ is) js es fs a b r = absurd (omega (arith, a))
right_first name bounds bs n w staying (p ∷ ps) qs [] js es fs a b r = absurd (omega (arith, a))
right_first name bounds bs n w staying (p ∷ ps) qs (i ∷ is) js [] fs a b r = absurd (omega (arith, b))
right_first name bounds bs n w staying (p ∷ ps) qs (i ∷ is) js (e ∷ es) fs a b r =
    let v = verdict_of bs staying p in
    (r.0, right_first name bounds bs (next_reports n v) (window_behind bounds w v) (next_staying staying (judge bs staying p)) ps qs is js es fs (omega (arith, a)) (omega (arith, b)) r.1)

-- what is carried behind rows
abbrev pub carried_on : List ℕ → Bounds → Carry → List Seen → Carry
carried_on name bounds k [] = k
carried_on name bounds k (v ∷ vs) = carried_on name bounds (cond (is_asked_for k v) (carried bounds k v) k) vs

-- a walk over rows and then more rows
pub asked_more : (name : List ℕ) (bounds : Bounds) (k : Carry) (us vs : List Seen) → asked name bounds k (us ++ vs) ≡ asked name bounds k us ++ asked name bounds (carried_on name bounds k us) vs
asked_more name bounds k [] vs = refl
asked_more name bounds k (u ∷ us) vs =
    by_test (is_asked_for k u) (asked_more name bounds (carried bounds k u) us vs) (asked_more name bounds k us vs)
  where
    by_test : (t : Bool) → asked name bounds (carried bounds k u) (us ++ vs) ≡ asked name bounds (carried bounds k u) us ++ asked name bounds (carried_on name bounds (carried bounds k u) us) vs →
        asked name bounds k (us ++ vs) ≡ asked name bounds k us ++ asked name bounds (carried_on name bounds k us) vs →
        cond t (Some (visit_edits name bounds k u) ∷ asked name bounds (carried bounds k u) (us ++ vs)) (None ∷ asked name bounds k (us ++ vs))
        ≡ cond t (Some (visit_edits name bounds k u) ∷ asked name bounds (carried bounds k u) us) (None ∷ asked name bounds k us) ++ asked name bounds (carried_on name bounds (cond t (carried bounds k u) k) us) vs
    by_test true a b = ap (λ l. Some (visit_edits name bounds k u) ∷ l) a
    by_test false a b = ap (λ l. None ∷ l) b

-- ---- its fold

-- between rows that are done and a tail that isn't reached yet
items_so_far : (name : List ℕ) (bounds : Bounds) (bs : List Build) (n m w : ℕ) (staying : List Item) (leaves : ℕ → Bool) (done is tail : List ItemRow) (ps : List Place) (es : List (Option (List Edit))) →
    AllBelow row_serial m done → RisesFrom row_serial m (is ++ tail) → GoWith is ps → Tells leaves (judged_after bs staying ps) → Right name bounds bs n w staying ps is es →
    fold (edited_items name) (done ++ (is ++ tail)) (told es) ≡ done ++ (map (row_of bs) (stayers leaves ps) ++ tail)
items_so_far name bounds bs n m w staying leaves done [] tail [] [] h r g t a = refl
items_so_far name bounds bs n m w staying leaves done [] tail [] (e ∷ es) h r g t a = absurd a
items_so_far name bounds bs n m w staying leaves done [] tail (p ∷ ps) es h r g t a = absurd g
items_so_far name bounds bs n m w staying leaves done (i ∷ is) tail [] es h r g t a = absurd g
items_so_far name bounds bs n m w staying leaves done (i ∷ is) tail (p ∷ ps) [] h r g t a = absurd a
items_so_far name bounds bs n m w staying leaves done (i ∷ is) tail (p ∷ ps) (Some edits ∷ es) h r g t a =
    let v = verdict_of bs staying p in
    let next = next_staying staying (judge bs staying p) in
    let same : i.serial ≡ p.item.serial = g.0 in
    let from : m ≤ i.serial = r.0 in
    let here = below_more m i.serial done from h in
    let there = (done ++ kept v (row_of bs p)) ++ (is ++ tail) in
    asked_step (edited_items name) (λ y k. refl) name bounds bs n w staying p i edits (told es) (done ++ i ∷ (is ++ tail)) a.0
    ∙ ap (λ z. fold (edited_items name) (fold (edited_items name) z (window_edits_by name bounds w v)) (told es)) (items_row name n done i (row_of bs p) v (is ++ tail) (sym same) here r.1)
    ∙ ap (λ z. fold (edited_items name) z (told es)) (window_aside (edited_items name) name bounds w v there (λ k. refl))
    ∙ items_so_far name bounds bs (next_reports n v) (suc i.serial) (window_behind bounds w v) next leaves (done ++ kept v (row_of bs p)) is tail ps es (below_kept (suc i.serial) done (row_of bs p) v (omega arith) (below_more i.serial (suc i.serial) done (omega arith) here)) r.1 g.1 t.1 a.1
    ∙ kept_cons done tail bs p v leaves ps t.0
items_so_far name bounds bs n m w staying leaves done (i ∷ is) tail (p ∷ ps) (None ∷ es) h r g t a =
    let v = verdict_of bs staying p in
    let next = next_staying staying (judge bs staying p) in
    let same : i.serial ≡ p.item.serial = g.0 in
    let from : m ≤ i.serial = r.0 in
    let here = below_more m i.serial done from h in
    let stays : v ≡ None = a.0.1 in
    let there : done ++ i ∷ (is ++ tail) ≡ (done ++ kept v (row_of bs p)) ++ (is ++ tail) =
    sym (append_assoc done (i ∷ []) (is ++ tail)) ∙ (λ k. (done ++ a.0.0 k ∷ []) ++ (is ++ tail)) ∙ ap (λ (o : Option Verdict). (done ++ kept o (row_of bs p)) ++ (is ++ tail)) (sym stays) in
    ap (λ z. fold (edited_items name) z (told es)) there
    ∙ items_so_far name bounds bs (next_reports n v) (suc i.serial) (window_behind bounds w v) next leaves (done ++ kept v (row_of bs p)) is tail ps es (below_kept (suc i.serial) done (row_of bs p) v (omega arith) (below_more i.serial (suc i.serial) done (omega arith) here)) r.1 g.1 t.1 a.1
    ∙ kept_cons done tail bs p v leaves ps t.0

-- so it is with the fold of what was told of the first rows
pub told_so_far : (name : List ℕ) (bounds : Bounds) (w : ℕ) (bs : List Build) (qs : List Place) (is behind : List ItemRow) (ls : List Landing) (items : List Item) (rs : List Report) (es : List (Option (List Edit))) →
    GoWith is qs → RisesFrom row_serial 0 (is ++ behind) → RisesFrom place_serial 0 qs → RisesFrom build_number 0 bs → Right name bounds bs (length rs) w [] qs is es →
    fold_edits (record { name = name; window = w; items = is ++ behind; builds = bs; reports = numbered_reports 0 rs }) (told es) ≡ settled_to bounds bs qs behind (record { name = name; window = w; landings = ls; items = items; reports = rs })
told_so_far name bounds w bs qs is behind ls items rs es g r rq rb a =
    let js = judged_after bs [] qs in
    let windows = window_told name bounds bs (length rs) w [] qs is es a in
    let items = items_so_far name bounds bs (length rs) 0 w [] (goes js) [] is behind qs es tt r g (goes_tells bs 0 [] qs rq) a in
    let builds = part_told (edited_builds name) name bounds bs (length rs) w [] qs is es bs (λ z m. refl) (λ z i. refl) a ∙ builds_fold name bs (length rs) qs rb rq in
    let reports = part_told (edited_reports name) name bounds bs (length rs) w [] qs is es (numbered_reports 0 rs) (λ z m. refl) (λ z i. refl) a ∙ reports_fold name rs bs (length rs) [] qs refl in
    fold_parts (record { name = name; window = w; items = is ++ behind; builds = bs; reports = numbered_reports 0 rs }) (told es)
    ∙ (λ k. record { name = name; window = windows k; items = items k; builds = builds k; reports = reports k })
