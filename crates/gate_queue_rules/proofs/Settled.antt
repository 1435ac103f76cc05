-- The edits, folded over the rows of a queue, settle it.
use Rattle.std.proofs.Common.{◌≡◌, ℕ, suc, ◌<◌, ◌≤◌, Bool, true, false, not, cond, is_some, List, [], ◌∷◌, ◌++◌, map}
use Rattle.std.proofs.Common.{fold, length, refl, sym, ap, ◌∙◌, subst, arith, append-nil}
use Rattle.std.specs.Prelude.{◌==◌, ◌&&◌, ◌||◌}
use Rattle.std.proofs.lemmas.List.Sums.{fold-append}
use Rattle.std.proofs.lemmas.Bool.{eq-eqb, ne_eqb, eqb-true}
use Rattle.gate_types.specs.Window.{Bounds}
use Rattle.gate_types.specs.declared.records.Item.{Item as ItemRow}
use Rattle.gate_types.specs.declared.records.Landing.{Landing}
use Rattle.gate_types.specs.declared.records.Build.{Build}
use Rattle.gate_types.specs.declared.records.Report.{Report}
use Rattle.gate_types.specs.declared.edits.Edit.{Edit}
use Rattle.gate_types.specs.declared.edits.Edit.TheVariants as edit
use Rattle.gate_types.specs.State.{Item, Queue}
use Rattle.gate_types.specs.Line.{Place}
use Rattle.gate_types.specs.Standing.{places_after}
use Rattle.gate_types.specs.Rebase.{stays_live}
use Rattle.gate_types.specs.Sweep.{Judged, judge, judged_after, next_staying, next_window, verdict_of, goes}
use Rattle.gate_types.specs.Sweep.{without_runs}
use Rattle.gate_types.specs.Rows.{numbered_reports, row_of, fold_edits, edited_items, edited_builds, edited_reports}
use Rattle.gate_types.specs.Rows.{edited_window}
use Rattle.gate_types.specs.Rising.{RisesFrom}
use Rattle.gate_queue_rules.specs.Edits.{edits_after, window_edits, edits_of_queue}
use Rattle.gate_queue_rules.specs.Settled.{rebased, verdicts, swept_rows, settled_rows}
use Rattle.gate_queue_rules.proofs.Ordered.{GoWith, Tells, row_serial, build_number, places_rise, ahead_rise}
use Rattle.gate_queue_rules.proofs.Ordered.{ahead_with}
use Rattle.gate_queue_rules.proofs.Folds.{fold_parts, edits_along, along, window_fold, reports_fold, items_fold}
use Rattle.gate_queue_rules.proofs.Folds.{reports_of}
use Rattle.gate_queue_rules.proofs.Builds.{builds_fold}
use Rattle.gate_laws.proofs.Members.{from_filter}
use Rattle.gate_laws.proofs.Keeps.{keeps}
use Rattle.gate_laws.proofs.Stays.{stayers, places_stay}
use Rattle.gate_laws.proofs.LiveBuildsCount.{place_serial}
use Rattle.gate_laws.proofs.Touches.{name_itself}
use Rattle.gate_queue_rules.proofs.Keeps.{PassesAll, all_alike, places_kept, verdicts_kept, rebase_passes, rows_alike}
use Rattle.gate_queue_rules.proofs.Keeps.{rows_stay}

-- an item of another serial isn't told of
goes_none : (bs : List Build) (n m : ℕ) (staying : List Item) (ps : List Place) → n < m → RisesFrom place_serial m ps → goes (judged_after bs staying ps) n ≡ false
goes_none bs n m staying [] l r = refl
goes_none bs n m staying (p ∷ ps) l r =
    let from : m ≤ p.item.serial = r.0 in
    ap (λ z. is_some (verdict_of bs staying p) && z || goes (judged_after bs (next_staying staying (judge bs staying p)) ps) n) (ne_eqb p.item.serial n (λ s. omega (arith, s)))
    ∙ ap (λ z. z || goes (judged_after bs (next_staying staying (judge bs staying p)) ps) n) (v_off (is_some (verdict_of bs staying p)))
    ∙ goes_none bs n (suc p.item.serial) (next_staying staying (judge bs staying p)) ps (omega arith) r.1
  where
    v_off : (g : Bool) → g && false ≡ false
    v_off true = refl
    v_off false = refl

tells_more : (leaves more : ℕ → Bool) (bs : List Build) (m : ℕ) (staying : List Item) (ps : List Place) → ((n : ℕ) → m ≤ n → more n ≡ leaves n) → RisesFrom place_serial m ps → Tells leaves (judged_after bs staying ps) → Tells more (judged_after bs staying ps)
tells_more leaves more bs m staying [] h r t = tt
tells_more leaves more bs m staying (p ∷ ps) h r t =
    let from : m ≤ p.item.serial = r.0 in (
      h p.item.serial from ∙ t.0,
      tells_more leaves more bs (suc p.item.serial) (next_staying staying (judge bs staying p)) ps (λ n l. h n (omega arith)) r.1 t.1,
    )

-- the verdicts tell which of their items go
pub goes_tells : (bs : List Build) (m : ℕ) (staying : List Item) (ps : List Place) → RisesFrom place_serial m ps → Tells (goes (judged_after bs staying ps)) (judged_after bs staying ps)
goes_tells bs m staying [] r = tt
goes_tells bs m staying (p ∷ ps) r =
    let next = next_staying staying (judge bs staying p) in
    let g = is_some (verdict_of bs staying p) in
    let others = goes (judged_after bs next ps) in (
      ap (λ z. g && z || others p.item.serial) (eq-eqb p.item.serial p.item.serial refl)
          ∙ ap (λ z. g && true || z) (goes_none bs p.item.serial (suc p.item.serial) next ps (omega arith) r.1)
          ∙ only g,
      tells_more others (goes (judged_after bs staying (p ∷ ps))) bs (suc p.item.serial) next ps (λ n l. ap (λ z. g && z || others n) (ne_eqb p.item.serial n (λ s. omega (arith, s))) ∙ skipped g (others n)) r.1 (goes_tells bs (suc p.item.serial) next ps r.1),
    )
  where
    only : (g : Bool) → g && true || false ≡ g
    only true = refl
    only false = refl

    skipped : (g z : Bool) → g && false || z ≡ z
    skipped true z = refl
    skipped false z = refl

-- the last edit sets the window where it changed
window_set : (name : List ℕ) (old new : ℕ) → fold (edited_window name) old (window_edits name old new) ≡ new
window_set name old new = by_test (old == new) refl
  where
    by_test : (t : Bool) → old == new ≡ t → fold (edited_window name) old (window_edits name old new) ≡ new
    by_test true e = ap (λ t. fold (edited_window name) old (cond t [] (edit.SetWindow name new ∷ []))) e ∙ eqb-true old new e
    by_test false e = ap (λ t. fold (edited_window name) old (cond t [] (edit.SetWindow name new ∷ []))) e ∙ ap (λ t. cond t new old) (name_itself name)

-- and leaves all else
window_leaves : {Y : Type 0} (f : Y → Edit → Y) (name : List ℕ) (old new : ℕ) (y : Y) → f y (edit.SetWindow name new) ≡ y → fold f y (window_edits name old new) ≡ y
window_leaves f name old new y h = by_test (old == new)
  where
    by_test : (t : Bool) → fold f y (cond t [] (edit.SetWindow name new ∷ [])) ≡ y
    by_test true = refl
    by_test false = h

stayers_kept : (bs : List Build) (ps : List Place) (leaves : ℕ → Bool) (test : Build → Bool) → PassesAll bs test ps →
    map (row_of (map (keeps test) bs)) (stayers leaves ps) ≡ map (row_of bs) (stayers leaves ps)
stayers_kept bs ps leaves test h =
    rows_alike (map (keeps test) bs) bs (stayers leaves ps)
    (λ p m. all_alike bs ps test h p (from_filter (λ p. not (leaves p.item.serial)) ps p m).0)

-- after a rebase the verdicts are what they were
pub verdicts_rebased : (ps : List Place) (bs : List Build) → verdicts ps (rebased ps bs) ≡ verdicts ps bs
verdicts_rebased ps bs =
    let test = stays_live bs (places_after bs [] ps) in
    ap (judged_after (rebased ps bs) []) (places_kept bs [] ps test (rebase_passes bs (places_after bs [] ps))) ∙ verdicts_kept bs [] (places_after bs [] ps) test (rebase_passes bs (places_after bs [] ps))

-- the rows of the items that stay, worked out anew from what a rebase and a sweep leave
rows_settled : (ps : List Place) (bs : List Build) → RisesFrom place_serial 0 ps →
    (let leaves = goes (verdicts ps bs) in let left = without_runs leaves (rebased ps bs) in map (row_of left) (places_after left [] (stayers leaves ps)) ≡ map (row_of bs) (stayers leaves (places_after bs [] ps)))
rows_settled ps bs r =
    let test = stays_live bs (places_after bs [] ps) in
    let mid = rebased ps bs in
    let js = verdicts ps bs in
    let leaves = goes js in
    let left = without_runs leaves mid in
    let tells = subst (Tells leaves) (sym (verdicts_rebased ps bs)) (goes_tells bs 0 [] (places_after bs [] ps) (ahead_rise bs 0 [] ps r)) in
    ap (map (row_of left)) (places_stay mid [] [] ps leaves (λ n h. h) tells ∙ ap (stayers leaves) (places_kept bs [] ps test (rebase_passes bs (places_after bs [] ps))))
    ∙ rows_stay mid (stayers leaves (places_after bs [] ps)) leaves
    ∙ stayers_kept bs (places_after bs [] ps) leaves test (rebase_passes bs (places_after bs [] ps))

-- what the edits make of the rows
pub edits_make : (name : List ℕ) (bounds : Bounds) (w n : ℕ) (bs : List Build) (is : List ItemRow) (ps : List Place) (rs : List Report) → length rs ≡ n → GoWith is ps → RisesFrom row_serial 0 is → RisesFrom build_number 0 bs →
    fold_edits (record { name = name; window = w; items = is; builds = bs; reports = numbered_reports 0 rs }) (edits_of_queue name bounds w n bs ps)
    ≡ record {
      name = name;
      window = fold (next_window bounds) w (verdicts ps bs);
      items = map (row_of bs) (stayers (goes (verdicts ps bs)) (places_after bs [] ps));
      builds = without_runs (goes (verdicts ps bs)) (rebased ps bs);
      reports = numbered_reports 0 (rs ++ reports_of (verdicts ps bs));
    }
edits_make name bounds w n bs is ps rs en g r rb =
    let qs = places_after bs [] ps in
    let js = verdicts ps bs in
    let own = edits_after name bs n [] [] ps in
    let same : own ≡ edits_along name bs n [] qs = along name bs n [] [] ps in
    let new = fold (next_window bounds) w js in
    let last = window_edits name w new in
    let rp = places_rise 0 is ps g r in
    let rq = ahead_rise bs 0 [] ps rp in
    let parts = fold_parts (record { name = name; window = w; items = is; builds = bs; reports = numbered_reports 0 rs }) (own ++ last) in
    let windows : fold (edited_window name) w (own ++ last) ≡ new =
    fold-append (edited_window name) w own last ∙ ap (λ z. fold (edited_window name) z last) (ap (fold (edited_window name) w) same ∙ window_fold name w bs n [] qs) ∙ window_set name w new in
    let items : fold (edited_items name) is (own ++ last) ≡ map (row_of bs) (stayers (goes js) qs) =
    fold-append (edited_items name) is own last
    ∙ window_leaves (edited_items name) name w new (fold (edited_items name) is own) refl
    ∙ ap (fold (edited_items name) is) same
    ∙ ap (λ (l : List ItemRow). fold (edited_items name) l (edits_along name bs n [] qs)) (sym (append-nil is))
    ∙ items_fold name bs n 0 [] (goes js) [] is [] qs tt (subst (RisesFrom row_serial 0) (sym (append-nil is)) r) (ahead_with bs [] is ps g) (goes_tells bs 0 [] qs rq)
    ∙ append-nil (map (row_of bs) (stayers (goes js) qs)) in
    let builds : fold (edited_builds name) bs (own ++ last) ≡ without_runs (goes js) (rebased ps bs) =
    fold-append (edited_builds name) bs own last
    ∙ window_leaves (edited_builds name) name w new (fold (edited_builds name) bs own) refl
    ∙ ap (fold (edited_builds name) bs) same
    ∙ builds_fold name bs n qs rb rq in
    let reports : fold (edited_reports name) (numbered_reports 0 rs) (own ++ last) ≡ numbered_reports 0 (rs ++ reports_of js) =
    fold-append (edited_reports name) (numbered_reports 0 rs) own last
    ∙ window_leaves (edited_reports name) name w new (fold (edited_reports name) (numbered_reports 0 rs) own) refl
    ∙ ap (fold (edited_reports name) (numbered_reports 0 rs)) same
    ∙ reports_fold name rs bs n [] qs en in
    parts ∙ (λ k. record { name = name; window = windows k; items = items k; builds = builds k; reports = reports k })

-- they are those of a rebase and then a sweep
pub settles : (name : List ℕ) (bounds : Bounds) (w n : ℕ) (bs : List Build) (is : List ItemRow) (ls : List Landing) (ps : List Place) (rs : List Report) (items : List Item) → length rs ≡ n → GoWith is ps → RisesFrom row_serial 0 is → RisesFrom build_number 0 bs →
    fold_edits (record { name = name; window = w; items = is; builds = bs; reports = numbered_reports 0 rs }) (edits_of_queue name bounds w n bs ps)
    ≡ settled_rows bounds ps bs (record { name = name; window = w; landings = ls; items = items; reports = rs })
settles name bounds w n bs is ls ps rs items en g r rb =
    let js = verdicts ps bs in
    let q : Queue = record { name = name; window = w; landings = ls; items = items; reports = rs } in
    edits_make name bounds w n bs is ps rs en g r rb
    ∙ (λ k. record {
      name = name;
      window = fold (next_window bounds) w js;
      items = sym (rows_settled ps bs (places_rise 0 is ps g r)) k;
      builds = without_runs (goes js) (rebased ps bs);
      reports = numbered_reports 0 (rs ++ reports_of js);
    })
    ∙ ap (λ (l : List Judged). swept_rows bounds l ps (rebased ps bs) q) (sym (verdicts_rebased ps bs))
