-- What is left to tell behind a visit: the next visit tells its first part, and where no row is wanted nothing is left.
use Rattle.std.proofs.Common.{◌≡◌, ℕ, suc, ◌<◌, ◌≤◌, Bool, true, false, ◌&&◌, cond, Option, Some, None, List, [], ◌∷◌}
use Rattle.std.proofs.Common.{◌++◌, map, refl, sym, ap, ◌∙◌, arith, append_assoc}
use Rattle.std.specs.Prelude.{nat_lt, nat_le, filter, find}
use Rattle.std.proofs.lemmas.Bool.{lt-ltb, le-ltb, ltb-true, le-leb, leb-true}
use Rattle.gate_types.specs.Window.{Bounds}
use Rattle.gate_types.specs.Rising.{RisesFrom}
use Rattle.gate_types.specs.declared.edits.Edit.{Edit}
use Rattle.gate_walk.specs.Walk.{Seen, Carry, visit_edits, carried, is_asked_for, walk_edits, walk_from}
use Rattle.gate_walk.specs.Next.{untold, VisitsGoOn}
use Rattle.gate_queue_rules.proofs.Ordered.{AllBelow, rises}
use Rattle.gate_walk.specs.Rescan.{row_seen}
use Rattle.gate_walk.proofs.Visits.{seen_from}
use Rattle.gate_walk.proofs.NextRows.{seen_serial, test_of, wanted_is, below_push, below_up}

abbrev above : ℕ → Seen → Bool
above n v = nat_lt n v.row.serial

-- rows that rise from above a serial are all above it
all_above : (n m : ℕ) (vs : List Seen) → n < m → RisesFrom seen_serial m vs → filter (above n) vs ≡ vs
all_above n m [] l r = refl
all_above n m (v ∷ vs) l r =
    let low : m ≤ v.row.serial = r.0 in
    (λ k. cond (lt-ltb n v.row.serial (omega arith) k) (v ∷ all_above n (suc v.row.serial) vs (omega arith) r.1 k) (all_above n (suc v.row.serial) vs (omega arith) r.1 k))

-- those up to it are left out
past : (n : ℕ) (us vs : List Seen) → AllBelow seen_serial (suc n) us → filter (above n) (us ++ vs) ≡ filter (above n) vs
past n [] vs b = refl
past n (u ∷ us) vs b =
    let low : u.row.serial < suc n = b.0 in
    ap (λ t. cond t (u ∷ filter (above n) (us ++ vs)) (filter (above n) (us ++ vs))) (le-ltb n u.row.serial (omega arith)) ∙ past n us vs b.1

-- behind a row are the rows behind it
behind : (us : List Seen) (v : Seen) (vs : List Seen) → AllBelow seen_serial v.row.serial us → RisesFrom seen_serial (suc v.row.serial) vs → filter (above v.row.serial) (us ++ v ∷ vs) ≡ vs
behind us v vs b r =
    ap (filter (above v.row.serial)) (sym (append_assoc us (v ∷ []) vs))
    ∙ past v.row.serial (us ++ v ∷ []) vs (below_push (suc v.row.serial) us v (below_up v.row.serial (suc v.row.serial) us (omega arith) b) (omega arith))
    ∙ all_above v.row.serial (suc v.row.serial) vs (omega arith) r

-- what a found row's visit tells, and what is left behind it
abbrev told_by : List ℕ → Bounds → Carry → Option Seen → List Seen → List Edit
told_by name bounds k o ws = elim o as (λ x. List Edit) [ None ↦ [] | Some v ↦ visit_edits name bounds k v ++ untold name bounds (carried bounds k v) v.row.serial ws ]

goes_on : (name : List ℕ) (bounds : Bounds) (n m : ℕ) (k : Carry) (us vs : List Seen) → AllBelow seen_serial m us → RisesFrom seen_serial m vs → walk_edits name bounds k (filter (above n) vs) ≡ told_by name bounds k (find (test_of k n) vs) (us ++ vs)
goes_on name bounds n m k us [] b r = refl
goes_on name bounds n m k us (v ∷ vs) b r =
    let low : m ≤ v.row.serial = r.0 in
    let under = below_up m v.row.serial us low b in
    by_both (above n v) refl (is_asked_for k v) refl under
    (ap (λ l. told_by name bounds k (find (test_of k n) vs) l) (append_assoc us (v ∷ []) vs))
    (goes_on name bounds n (suc v.row.serial) k (us ++ v ∷ []) vs (below_push (suc v.row.serial) us v (below_up v.row.serial (suc v.row.serial) us (omega arith) under) (omega arith)) r.1)
  where
    by_both : (x : Bool) → above n v ≡ x → (y : Bool) → is_asked_for k v ≡ y → AllBelow seen_serial v.row.serial us →
        told_by name bounds k (find (test_of k n) vs) ((us ++ v ∷ []) ++ vs) ≡ told_by name bounds k (find (test_of k n) vs) (us ++ v ∷ vs) →
        walk_edits name bounds k (filter (above n) vs) ≡ told_by name bounds k (find (test_of k n) vs) ((us ++ v ∷ []) ++ vs) →
        walk_edits name bounds k (cond x (v ∷ filter (above n) vs) (filter (above n) vs)) ≡ told_by name bounds k (cond (x && is_asked_for k v) (Some v) (find (test_of k n) vs)) (us ++ v ∷ vs)
    by_both false ex y ey under same rest = rest ∙ same
    by_both true ex false ey under same rest =
        ap (λ t. cond t (visit_edits name bounds k v ++ walk_edits name bounds (carried bounds k v) (filter (above n) vs)) (walk_edits name bounds k (filter (above n) vs))) ey
        ∙ rest ∙ same ∙ sym (ap (λ t. told_by name bounds k (cond t (Some v) (find (test_of k n) vs)) (us ++ v ∷ vs)) ey)
    by_both true ex true ey under same rest =
        let less = ltb-true n v.row.serial ex in
        ap (λ t. cond t (visit_edits name bounds k v ++ walk_edits name bounds (carried bounds k v) (filter (above n) vs)) (walk_edits name bounds k (filter (above n) vs))) ey
        ∙ ap (λ l. visit_edits name bounds k v ++ walk_edits name bounds (carried bounds k v) l) (all_above n (suc v.row.serial) vs (omega (arith, less)) r.1 ∙ sym (behind us v vs under r.1))
        ∙ sym (ap (λ t. told_by name bounds k (cond t (Some v) (find (test_of k n) vs)) (us ++ v ∷ vs)) ey)

-- the same of the first visit
begins : (name : List ℕ) (bounds : Bounds) (n m : ℕ) (k : Carry) (us vs : List Seen) → AllBelow seen_serial m us → RisesFrom seen_serial m vs → walk_from name bounds k (filter (λ v. nat_le n v.row.serial) vs) ≡ told_by name bounds k (find (λ v. nat_le n v.row.serial) vs) (us ++ vs)
begins name bounds n m k us [] b r = refl
begins name bounds n m k us (v ∷ vs) b r =
    let low : m ≤ v.row.serial = r.0 in
    let under = below_up m v.row.serial us low b in
    by_test (nat_le n v.row.serial) refl under
    (ap (λ l. told_by name bounds k (find (λ x. nat_le n x.row.serial) vs) l) (append_assoc us (v ∷ []) vs))
    (begins name bounds n (suc v.row.serial) k (us ++ v ∷ []) vs (below_push (suc v.row.serial) us v (below_up v.row.serial (suc v.row.serial) us (omega arith) under) (omega arith)) r.1)
  where
    all_from : (j : ℕ) (xs : List Seen) → n ≤ j → RisesFrom seen_serial j xs → filter (λ x. nat_le n x.row.serial) xs ≡ xs
    all_from j [] l h = refl
    all_from j (x ∷ xs) l h =
        let more : j ≤ x.row.serial = h.0 in
        (λ i. cond (le-leb n x.row.serial (omega arith) i) (x ∷ all_from (suc x.row.serial) xs (omega arith) h.1 i) (all_from (suc x.row.serial) xs (omega arith) h.1 i))

    by_test : (t : Bool) → nat_le n v.row.serial ≡ t → AllBelow seen_serial v.row.serial us →
        told_by name bounds k (find (λ x. nat_le n x.row.serial) vs) ((us ++ v ∷ []) ++ vs) ≡ told_by name bounds k (find (λ x. nat_le n x.row.serial) vs) (us ++ v ∷ vs) →
        walk_from name bounds k (filter (λ x. nat_le n x.row.serial) vs) ≡ told_by name bounds k (find (λ x. nat_le n x.row.serial) vs) ((us ++ v ∷ []) ++ vs) →
        walk_from name bounds k (cond t (v ∷ filter (λ x. nat_le n x.row.serial) vs) (filter (λ x. nat_le n x.row.serial) vs)) ≡ told_by name bounds k (cond t (Some v) (find (λ x. nat_le n x.row.serial) vs)) (us ++ v ∷ vs)
    by_test false e under same rest = rest ∙ same
    by_test true e under same rest =
        let high = leb-true n v.row.serial e in
        ap (λ l. visit_edits name bounds k v ++ walk_edits name bounds (carried bounds k v) l) (all_from (suc v.row.serial) vs (omega (arith, high)) r.1 ∙ sym (behind us v vs under r.1))

pub visits_go_on : VisitsGoOn
visits_go_on = record {
  begun = λ c t rows name bounds n k v rise e. let vs = map (row_seen c t rows) rows in
      ap (walk_from name bounds k) (sym (seen_from c t rows n rows)) ∙ begins name bounds n 0 k [] vs tt (rises seen_serial vs rise) ∙ ap (λ o. told_by name bounds k o vs) e;
  none = λ c t rows name bounds n k rise e. let vs = map (row_seen c t rows) rows in
      ap (walk_from name bounds k) (sym (seen_from c t rows n rows)) ∙ begins name bounds n 0 k [] vs tt (rises seen_serial vs rise) ∙ ap (λ o. told_by name bounds k o vs) e;
  more = λ name bounds n k v vs rise e. goes_on name bounds n 0 k [] vs tt (rises seen_serial vs rise) ∙ ap (λ o. told_by name bounds k o vs) (sym (wanted_is k n vs) ∙ e);
  done = λ name bounds n k vs rise e. goes_on name bounds n 0 k [] vs tt (rises seen_serial vs rise) ∙ ap (λ o. told_by name bounds k o vs) (sym (wanted_is k n vs) ∙ e);
}
