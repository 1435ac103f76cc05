-- Visits over all rows of a queue, from a serial on, are the walk over the rows from there on.
use Rattle.std.proofs.Common.{◌≡◌, ℕ, suc, ◌<◌, ◌≤◌, Bool, true, false, not, cond, Option, Some, None, List, [], ◌∷◌}
use Rattle.std.proofs.Common.{◌++◌, map, length, refl, sym, ap, ◌∙◌, arith, append_assoc}
use Rattle.std.specs.Prelude.{◌==◌, nat_le, filter, find}
use Rattle.std.proofs.lemmas.Bool.{le-leb, leb-true, leb-false}
use Rattle.std.proofs.lemmas.List.{length-append}
use Rattle.gate_types.specs.Window.{Bounds}
use Rattle.gate_types.specs.declared.records.Item.{Item as ItemRow}
use Rattle.gate_types.specs.declared.records.Build.{Build}
use Rattle.gate_types.specs.declared.edits.Edit.{Edit}
use Rattle.gate_types.specs.Settings.{Settings}
use Rattle.gate_types.specs.State.{Item, Queue, State}
use Rattle.gate_types.specs.Line.{Place}
use Rattle.gate_types.specs.Standing.{place_of}
use Rattle.gate_types.specs.Rows.{row_of}
use Rattle.gate_types.specs.Rising.{RisesFrom}
use Rattle.gate_walk.specs.Walk.{Seen, Carry, visit_edits, carried, walk_edits, walk_from}
use Rattle.gate_walk.specs.Rescan.{row_seen, rows_from, stored}
use Rattle.gate_walk.specs.Next.{next_of, visits_from}
use Rattle.gate_walk.specs.Delivery.{Touch, build_ended, item_left, item_landed, standing_rows, visited}
use Rattle.std.specs.List.Sorted.{IsStrictlyIncreasing}
use Rattle.gate_laws.proofs.Rising.{increasing}
use Rattle.gate_laws.proofs.LiveBuildsCount.{place_serial}
use Rattle.gate_queue_rules.proofs.Ordered.{AllBelow, row_serial, ahead_rise}
use Rattle.gate_walk.proofs.Parting.{rising_from}
use Rattle.gate_walk.proofs.NextRows.{seen_serial, passed, below_push, below_up, visits_walk}

-- ---- rows in order

rise_low : {X : Type 0} (key : X → ℕ) (m n : ℕ) (xs : List X) → m ≤ n → RisesFrom key n xs → RisesFrom key m xs
rise_low key m n [] l r = tt
rise_low key m n (x ∷ xs) l r = let low : n ≤ key x = r.0 in (omega arith, r.1)

rise_filter : {X : Type 0} (key : X → ℕ) (test : X → Bool) (n : ℕ) (xs : List X) → RisesFrom key n xs → RisesFrom key n (filter test xs)
rise_filter key test n [] r = tt
rise_filter {X = X} key test n (x ∷ xs) r = by_test (test x) (rise_filter key test (suc (key x)) xs r.1)
  where
    by_test : (t : Bool) → RisesFrom key (suc (key x)) (filter test xs) → RisesFrom key n (cond t (x ∷ filter test xs) (filter test xs))
    by_test true h = (r.0, h)
    by_test false h = let low : n ≤ key x = r.0 in rise_low key n (suc (key x)) (filter test xs) (omega arith) h

rows_rise : (bs : List Build) (n : ℕ) (ps : List Place) → RisesFrom place_serial n ps → RisesFrom row_serial n (map (row_of bs) ps)
rows_rise bs n [] r = tt
rows_rise bs n (p ∷ ps) r = (r.0, rows_rise bs (suc p.item.serial) ps r.1)

pub stored_rise : (c : Settings) (s : State) (q : Queue) → RisesFrom place_serial 0 (map (place_of c s q) q.items) → RisesFrom row_serial 0 (stored c s q)
stored_rise c s q r = rows_rise s.builds 0 _ (ahead_rise s.builds 0 [] (map (place_of c s q) q.items) r)

pub standing_rise : (k : Touch) (i : Item) (rows : List ItemRow) → RisesFrom row_serial 0 rows → RisesFrom row_serial 0 (standing_rows k i rows)
standing_rise build_ended i rows r = r
standing_rise item_left i rows r = rise_filter row_serial (λ x. not (x.serial == i.serial)) 0 rows r
standing_rise item_landed i rows r = rise_filter row_serial (λ x. not (x.serial == i.serial)) 0 rows r

seen_rise : (c : Settings) (t : State) (all : List ItemRow) (n : ℕ) (rows : List ItemRow) → RisesFrom row_serial n rows → RisesFrom seen_serial n (map (row_seen c t all) rows)
seen_rise c t all n [] r = tt
seen_rise c t all n (x ∷ rows) r = (r.0, seen_rise c t all (suc x.serial) rows r.1)

pub seen_increase : (c : Settings) (t : State) (rows : List ItemRow) → RisesFrom row_serial 0 rows → IsStrictlyIncreasing (map seen_serial (map (row_seen c t rows) rows))
seen_increase c t rows r = let vs = map (row_seen c t rows) rows in increasing seen_serial vs (rising_from seen_serial 0 vs (seen_rise c t rows 0 rows r))

-- ---- from a serial on

abbrev from_on : ℕ → Seen → Bool
from_on n v = nat_le n v.row.serial

pub seen_from : (c : Settings) (t : State) (all : List ItemRow) (n : ℕ) (rows : List ItemRow) → filter (from_on n) (map (row_seen c t all) rows) ≡ map (row_seen c t all) (rows_from n rows)
seen_from c t all n [] = refl
seen_from c t all n (x ∷ rows) = by_test (nat_le n x.serial) (seen_from c t all n rows)
  where
    by_test : (b : Bool) → filter (from_on n) (map (row_seen c t all) rows) ≡ map (row_seen c t all) (rows_from n rows) →
        cond b (row_seen c t all x ∷ filter (from_on n) (map (row_seen c t all) rows)) (filter (from_on n) (map (row_seen c t all) rows)) ≡ map (row_seen c t all) (cond b (x ∷ rows_from n rows) (rows_from n rows))
    by_test true h = ap (λ l. row_seen c t all x ∷ l) h
    by_test false h = h

all_on : (n m : ℕ) (vs : List Seen) → n ≤ m → RisesFrom seen_serial m vs → filter (from_on n) vs ≡ vs
all_on n m [] l r = refl
all_on n m (v ∷ vs) l r =
    let low : m ≤ v.row.serial = r.0 in
    (λ k. cond (le-leb n v.row.serial (omega arith) k) (v ∷ all_on n (suc v.row.serial) vs (omega arith) r.1 k) (all_on n (suc v.row.serial) vs (omega arith) r.1 k))

-- the visits of a first row, if there is one, among these
abbrev visits_of : List ℕ → Bounds → Carry → Option Seen → List Seen → List Edit
visits_of name bounds k o vs = elim o as (λ x. List Edit) [
  | None ↦ []
  | Some v ↦ visit_edits name bounds k v ++ visits_from (length vs) name bounds (next_of (carried bounds k v) v.row.serial) (carried bounds k v) vs
]

visits_on : (name : List ℕ) (bounds : Bounds) (n m : ℕ) (k : Carry) (us vs : List Seen) → AllBelow seen_serial n us → RisesFrom seen_serial m vs → visits_of name bounds k (find (from_on n) vs) (us ++ vs) ≡ walk_from name bounds k (filter (from_on n) vs)
visits_on name bounds n m k us [] b r = refl
visits_on name bounds n m k us (v ∷ vs) b r = by_test (from_on n v) refl (λ low. visits_on name bounds n (suc v.row.serial) k (us ++ v ∷ []) vs (below_push n us v b low) r.1)
  where
    first : n ≤ v.row.serial → visit_edits name bounds k v ++ visits_from (length (us ++ v ∷ vs)) name bounds (next_of (carried bounds k v) v.row.serial) (carried bounds k v) (us ++ v ∷ vs) ≡ visit_edits name bounds k v ++ walk_edits name bounds (carried bounds k v) vs
    first high =
        let k2 = carried bounds k v in
        let m2 = length (us ++ v ∷ vs) in
        let enough = length-append us (v ∷ vs) in
        let below = below_push (suc v.row.serial) us v (below_up n (suc v.row.serial) us (omega arith) b) (omega arith) in
        ap (λ l. visit_edits name bounds k v ++ l)
        (ap (visits_from m2 name bounds (next_of k2 v.row.serial) k2) (sym (append_assoc us (v ∷ []) vs))
        ∙ visits_walk m2 name bounds v.row.serial (suc v.row.serial) k2 (us ++ v ∷ []) vs (omega (arith, enough)) (omega arith) below r.1 (passed k2 v.row.serial (us ++ v ∷ []) below))

    below_it : nat_le n v.row.serial ≡ false → v.row.serial < n
    below_it e = leb-false n v.row.serial e

    by_test : (t : Bool) → nat_le n v.row.serial ≡ t → (v.row.serial < n → visits_of name bounds k (find (from_on n) vs) ((us ++ v ∷ []) ++ vs) ≡ walk_from name bounds k (filter (from_on n) vs)) →
        visits_of name bounds k (cond t (Some v) (find (from_on n) vs)) (us ++ v ∷ vs) ≡ walk_from name bounds k (cond t (v ∷ filter (from_on n) vs) (filter (from_on n) vs))
    by_test true e on =
        let high = leb-true n v.row.serial e in
        first high ∙ ap (λ l. walk_from name bounds k (v ∷ l)) (sym (all_on n (suc v.row.serial) vs (omega (arith, high)) r.1))
    by_test false e on = ap (visits_of name bounds k (find (from_on n) vs)) (sym (append_assoc us (v ∷ []) vs)) ∙ on (below_it e)

pub visited_is_walked : (c : Settings) (t : State) (name : List ℕ) (bounds : Bounds) (n : ℕ) (k : Carry) (rows : List ItemRow) → RisesFrom row_serial 0 rows →
    visited name bounds k n (map (row_seen c t rows) rows) ≡ walk_from name bounds k (map (row_seen c t rows) (rows_from n rows))
visited_is_walked c t name bounds n k rows r =
    visits_on name bounds n 0 k [] (map (row_seen c t rows) rows) tt (seen_rise c t rows 0 rows r) ∙ ap (walk_from name bounds k) (seen_from c t rows n rows)
