-- The rows that a walk wants, one after another.
use Rattle.std.proofs.Common.{◌≡◌, ℕ, suc, ◌<◌, ◌≤◌, Bool, true, false, not, ◌&&◌, ◌||◌, cond, Option, Some, None}
use Rattle.std.proofs.Common.{is_some, List, [], ◌∷◌, ◌++◌, length, refl, sym, ap, ◌∙◌, true≢false, arith}
use Rattle.std.proofs.Common.{append_assoc}
use Rattle.std.specs.Prelude.{zero, ◌==◌, nat_lt, find}
use Rattle.std.proofs.lemmas.Bool.{lt-ltb, le-ltb, eqb-true}
use Rattle.gate_types.specs.Window.{Bounds}
use Rattle.gate_types.specs.Rising.{RisesFrom}
use Rattle.gate_types.specs.declared.edits.Edit.{Edit}
use Rattle.gate_walk.specs.Walk.{Seen, SeenNeed, Carry, needs_gone, fails, visit_edits, carried, is_asked_for, walk_edits}
use Rattle.gate_walk.specs.Rescan.{walk_start}
use Rattle.gate_walk.specs.Next.{go, need, stop, next_of, wanted, visits_from, VisitsAreTheWalk, WalkStops}
use Rattle.gate_queue_rules.proofs.Ordered.{AllBelow, rises}
use Rattle.gate_laws.proofs.Tests.{and_true}

abbrev pub seen_serial : Seen → ℕ
seen_serial v = v.row.serial

-- the test of the row that is wanted, by what is carried
abbrev pub test_of : Carry → ℕ → Seen → Bool
test_of k n v = nat_lt n v.row.serial && is_asked_for k v

nothing_gone : (gone : List ℕ) (needs : List SeenNeed) → (length gone == 0) ≡ true → needs_gone gone needs ≡ false
nothing_gone [] needs h = none needs
  where
    none : (ns : List SeenNeed) → needs_gone [] ns ≡ false
    none [] = refl
    none (n ∷ ns) = none ns
nothing_gone (g ∷ gone) needs h = let zero_is : length (g ∷ gone) ≡ 0 = eqb-true (length (g ∷ gone)) 0 h in absurd (omega arith)

find_none : (vs : List Seen) → find (λ v. false) vs ≡ None
find_none [] = refl
find_none (v ∷ vs) = find_none vs

and_off : (x : Bool) → x && false ≡ false
and_off true = refl
and_off false = refl

find_same : (f g : Seen → Bool) (vs : List Seen) → ((v : Seen) → f v ≡ g v) → find f vs ≡ find g vs
find_same f g [] h = refl
find_same f g (v ∷ vs) h = λ k. cond (h v k) (Some v) (find_same f g vs h k)

-- one test says it for all three
pub wanted_is : (k : Carry) (n : ℕ) (vs : List Seen) → wanted k.gone (next_of k n) vs ≡ find (test_of k n) vs
wanted_is k n vs = by_both (k.resets || k.passes) refl (length k.gone == 0) refl
  where
    by_both : (x : Bool) → k.resets || k.passes ≡ x → (y : Bool) → (length k.gone == 0) ≡ y → wanted k.gone (cond (k.resets || k.passes) (go n) (cond (length k.gone == 0) stop (need n))) vs ≡ find (test_of k n) vs
    by_both true ex y ey =
        ap (λ t. wanted k.gone (cond t (go n) (cond (length k.gone == 0) stop (need n))) vs) ex
        ∙ find_same (λ v. nat_lt n v.row.serial) (test_of k n) vs (λ v. sym (ap (λ t. nat_lt n v.row.serial && (t || needs_gone k.gone v.needs)) ex ∙ and_true (nat_lt n v.row.serial)))
    by_both false ex true ey =
        (λ i. wanted k.gone (cond (ex i) (go n) (cond (ey i) stop (need n))) vs)
        ∙ sym (find_same (test_of k n) (λ v. false) vs (λ v. (λ i. nat_lt n v.row.serial && (ex i || nothing_gone k.gone v.needs ey i)) ∙ and_off (nat_lt n v.row.serial)) ∙ find_none vs)
    by_both false ex false ey =
        (λ i. wanted k.gone (cond (ex i) (go n) (cond (ey i) stop (need n))) vs)
        ∙ find_same (λ v. nat_lt n v.row.serial && needs_gone k.gone v.needs) (test_of k n) vs (λ v. sym (ap (λ t. nat_lt n v.row.serial && (t || needs_gone k.gone v.needs)) ex))

pub find_past : (test : Seen → Bool) (us vs : List Seen) → find test us ≡ None → find test (us ++ vs) ≡ find test vs
find_past test [] vs h = refl
find_past test (u ∷ us) vs h = by_test (test u) refl h (λ k. find_past test us vs k)
  where
    by_test : (t : Bool) → test u ≡ t → cond (test u) (Some u) (find test us) ≡ None → (find test us ≡ None → find test (us ++ vs) ≡ find test vs) → cond (test u) (Some u) (find test (us ++ vs)) ≡ find test vs
    by_test true e k rest = absurd (true≢false (ap is_some (ap (λ t. cond t (Some u) (find test us)) (sym e) ∙ k)))
    by_test false e k rest = ap (λ t. cond t (Some u) (find test (us ++ vs))) e ∙ rest (ap (λ t. cond t (Some u) (find test us)) (sym e) ∙ k)

-- none that was passed is above
pub passed : (k : Carry) (n : ℕ) (us : List Seen) → AllBelow seen_serial (suc n) us → find (test_of k n) us ≡ None
passed k n [] h = refl
passed k n (u ∷ us) h =
    let low : u.row.serial < suc n = h.0 in
    ap (λ t. cond (t && is_asked_for k u) (Some u) (find (test_of k n) us)) (le-ltb n u.row.serial (omega arith)) ∙ passed k n us h.1

pub below_push : (n : ℕ) (us : List Seen) (v : Seen) → AllBelow seen_serial n us → v.row.serial < n → AllBelow seen_serial n (us ++ v ∷ [])
below_push n [] v h l = (l, tt)
below_push n (u ∷ us) v h l = (h.0, below_push n us v h.1 l)

pub below_up : (m n : ℕ) (us : List Seen) → m ≤ n → AllBelow seen_serial m us → AllBelow seen_serial n us
below_up m n [] l h = tt
below_up m n (u ∷ us) l h = let low : u.row.serial < m = h.0 in (omega arith, below_up m n us l h.1)

find_push : (test : Seen → Bool) (us : List Seen) (v : Seen) → find test us ≡ None → test v ≡ false → find test (us ++ v ∷ []) ≡ None
find_push test us v h e = find_past test us (v ∷ []) h ∙ ap (λ t. cond t (Some v) None) e

-- from any row on
pub visits_walk : (m : ℕ) (name : List ℕ) (bounds : Bounds) (n low : ℕ) (k : Carry) (us vs : List Seen) → length vs ≤ m → n < low → AllBelow seen_serial low us → RisesFrom seen_serial low vs → find (test_of k n) us ≡ None →
    visits_from m name bounds (next_of k n) k (us ++ vs) ≡ walk_edits name bounds k vs
visits_walk m name bounds n low k us [] few l b r f = ended m
  where
    nothing : wanted k.gone (next_of k n) (us ++ []) ≡ None
    nothing = wanted_is k n (us ++ []) ∙ find_past (test_of k n) us [] f

    ended : (j : ℕ) → visits_from j name bounds (next_of k n) k (us ++ []) ≡ []
    ended zero = refl
    ended (suc j) = ap (λ (o : Option Seen). elim o as (λ x. List Edit) [ None ↦ [] | Some v ↦ visit_edits name bounds k v ++ visits_from j name bounds (next_of (carried bounds k v) v.row.serial) (carried bounds k v) (us ++ []) ]) nothing
visits_walk m name bounds n low k us (v ∷ vs) few l b r f =
    let high : low ≤ v.row.serial = r.0 in
    let above : nat_lt n v.row.serial ≡ true = lt-ltb n v.row.serial (omega arith) in
    by_test m (is_asked_for k v) refl above few
    (λ j k2 enough. visits_walk j name bounds v.row.serial (suc v.row.serial) k2 (us ++ v ∷ []) vs enough (omega arith) (below_push (suc v.row.serial) us v (below_up low (suc v.row.serial) us (omega arith) b) (omega arith)) r.1
    (passed k2 v.row.serial (us ++ v ∷ []) (below_push (suc v.row.serial) us v (below_up low (suc v.row.serial) us (omega arith) b) (omega arith))))
    (λ no enough. visits_walk m name bounds n (suc v.row.serial) k (us ++ v ∷ []) vs enough (omega arith) (below_push (suc v.row.serial) us v (below_up low (suc v.row.serial) us (omega arith) b) (omega arith)) r.1
    (find_push (test_of k n) us v f (ap (λ t. nat_lt n v.row.serial && t) no ∙ and_off (nat_lt n v.row.serial))))
  where
    by_test : (m2 : ℕ) (t : Bool) → is_asked_for k v ≡ t → nat_lt n v.row.serial ≡ true → length (v ∷ vs) ≤ m2 →
        ((j : ℕ) (k2 : Carry) → length vs ≤ j → visits_from j name bounds (next_of k2 v.row.serial) k2 ((us ++ v ∷ []) ++ vs) ≡ walk_edits name bounds k2 vs) →
        (is_asked_for k v ≡ false → length vs ≤ m2 → visits_from m2 name bounds (next_of k n) k ((us ++ v ∷ []) ++ vs) ≡ walk_edits name bounds k vs) →
        visits_from m2 name bounds (next_of k n) k (us ++ v ∷ vs) ≡ cond (is_asked_for k v) (visit_edits name bounds k v ++ walk_edits name bounds (carried bounds k v) vs) (walk_edits name bounds k vs)
    by_test zero t e above few2 there on = absurd (omega (arith, few2))
    by_test (suc j) true e above few2 there on =
        let k2 = carried bounds k v in
        let found : wanted k.gone (next_of k n) (us ++ v ∷ vs) ≡ Some v = wanted_is k n (us ++ v ∷ vs) ∙ find_past (test_of k n) us (v ∷ vs) f ∙ (λ i. cond (above i && e i) (Some v) (find (test_of k n) vs)) in
        ap (λ (o : Option Seen). elim o as (λ x. List Edit) [ None ↦ [] | Some x ↦ visit_edits name bounds k x ++ visits_from j name bounds (next_of (carried bounds k x) x.row.serial) (carried bounds k x) (us ++ v ∷ vs) ]) found
        ∙ ap (λ l. visit_edits name bounds k v ++ l) (ap (visits_from j name bounds (next_of k2 v.row.serial) k2) (sym (append_assoc us (v ∷ []) vs)) ∙ there j k2 (omega (arith, few2)))
        ∙ ap (λ t. cond t (visit_edits name bounds k v ++ walk_edits name bounds k2 vs) (walk_edits name bounds k vs)) (sym e)
    by_test (suc j) false e above few2 there on =
        ap (visits_from (suc j) name bounds (next_of k n) k) (sym (append_assoc us (v ∷ []) vs)) ∙ on e (omega (arith, few2))
        ∙ ap (λ t. cond t (visit_edits name bounds k v ++ walk_edits name bounds (carried bounds k v) vs) (walk_edits name bounds k vs)) (sym e)

pub visits_are_the_walk : VisitsAreTheWalk
visits_are_the_walk name bounds k v vs rise =
    let r = rises seen_serial (v ∷ vs) rise in
    ap (λ l. visit_edits name bounds k v ++ l)
    (visits_walk (length vs) name bounds v.row.serial (suc v.row.serial) (carried bounds k v) (v ∷ []) vs (omega arith) (omega arith) (omega arith, tt) r.1 (passed (carried bounds k v) v.row.serial (v ∷ []) (omega arith, tt)))

off : (f : Bool) → f && not f ≡ false
off true = refl
off false = refl

pub walk_stops : WalkStops
walk_stops = record {
  at_once = λ bounds reports window ahead v m g.
      let k = walk_start None ahead reports window in
      (λ i. cond ((false || m i && not v.row.failing) || (false && fails k v)) (go v.row.serial) (cond (length (cond (is_some (g i)) ([] ++ v.row.change ∷ []) []) == 0) stop (need v.row.serial)))
      ∙ ap (λ t. cond (t || false) (go v.row.serial) stop) (off v.row.failing);
  keeps_lines = λ bounds k v r m. (λ i. r i || m i && not v.row.failing) ∙ off v.row.failing;
  not_further = λ bounds n k v r m f.
      let k2 = carried bounds k v in
      let lines : k2.resets ≡ false = (λ i. r i || m i && not v.row.failing) ∙ off v.row.failing in
      let past : k2.passes ≡ false = ap (λ t. k.passes && t) (m ∙ f) ∙ and_off k.passes in
      λ i. cond (lines i || past i) (go n) (cond (length k2.gone == 0) stop (need n));
}
