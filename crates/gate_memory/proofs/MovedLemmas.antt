-- A row dropped from those in order of arrival: the last one takes its place.
use Rattle.std.proofs.Common.{◌≡◌, ◌≢◌, ℕ, suc, ◌<◌, ◌≤◌, ⊎_elim, Bool, true, false, not, cond, Option, Some, None}
use Rattle.std.proofs.Common.{List, [], ◌∷◌, ◌++◌, length, set, refl, sym, ap, subst, ◌∙◌, eqb-true, arith}
use Rattle.std.specs.Prelude.{◌==◌, find, unwrap_or}
use Rattle.std.specs.Option.{option_or, option_map}
use Rattle.std.proofs.lemmas.Bool.{eq-eqb, ne_eqb}
use Rattle.std.proofs.lemmas.Bool.Decides.{eqb_tells}
use Rattle.std.proofs.lemmas.Option.{none-some}
use Rattle.gate_types.specs.Rising.{RisesFrom}
use Rattle.gate_book_trait.proofs.Finding.{found_in}
use Rattle.gate_memory.specs.Sorted.{without}
use Rattle.gate_memory.specs.Changes.{AreApart, in_order, position_at}
use Rattle.gate_memory.proofs.SortedLemmas.{rises-without, same_rows}
use Rattle.gate_memory.proofs.TableLemmas.{at_head, some_at, none_at, position_bound, position_set, position_push, find_put}
use Rattle.gate_memory.proofs.TableLemmas.{row_at, row_found, in_order_push}
use Rattle.gate_memory.proofs.ChangeLemmas.{in_order_rises}
use Rattle.gate_memory.proofs.IndexLemmas.{finds_row}

-- ---- rows of different keys

none_first : (o r : Option ℕ) → option_or o r ≡ None → o ≡ None
none_first None r e = refl
none_first (Some i) r e = absurd (none-some i (sym e))

none_second : (o r : Option ℕ) → option_or o r ≡ None → r ≡ None
none_second None r e = e
none_second (Some i) r e = absurd (none-some i (sym e))

-- a key that isn't found isn't that of the first row, and isn't found behind it
none_head : {X : Type 0} (key : X → ℕ) (n : ℕ) (y : X) (ys : List X) → position_at key n (y ∷ ys) ≡ None → key y ≢ n
none_head key n y ys e same = none-some 0 (sym e ∙ ap (λ b. at_head b (position_at key n ys)) (eq-eqb (key y) n same))

none_rest : {X : Type 0} (key : X → ℕ) (n : ℕ) (y : X) (ys : List X) → position_at key n (y ∷ ys) ≡ None → position_at key n ys ≡ None
none_rest key n y ys e = none_at (position_at key n ys) (sym (ap (λ b. at_head b (position_at key n ys)) (ne_eqb (key y) n (none_head key n y ys e))) ∙ e)

-- no key is found twice behind an end, so it differs from what is put there
not_last : {X : Type 0} (key : X → ℕ) (n : ℕ) (x : X) (rows : List X) → position_at key n (rows ++ x ∷ []) ≡ None → key x ≢ n
not_last key n x rows e same =
    none-some (length rows) (sym (none_second (position_at key n rows) (cond (key x == n) (Some (length rows)) None) (sym (position_push key n rows x) ∙ e))
    ∙ ap (λ b. cond b (Some (length rows)) None) (eq-eqb (key x) n same))

pub apart_front : {X : Type 0} (key : X → ℕ) (x : X) (rows : List X) → AreApart key (rows ++ x ∷ []) → AreApart key rows
apart_front key x [] apart = tt
apart_front key x (y ∷ ys) apart =
    (none_first (position_at key (key y) ys) (cond (key x == key y) (Some (length ys)) None) (sym (position_push key (key y) ys x) ∙ apart.0), apart_front key x ys apart.1)

pub apart_last : {X : Type 0} (key : X → ℕ) (x : X) (rows : List X) → AreApart key (rows ++ x ∷ []) → position_at key (key x) rows ≡ None
apart_last key x [] apart = refl
apart_last key x (y ∷ ys) apart =
    ap (λ b. at_head b (position_at key (key x) ys)) (ne_eqb (key y) (key x) (λ e. not_last key (key y) x ys apart.0 (sym e)))
    ∙ ap (λ o. option_map (λ i. suc i) o) (apart_last key x ys apart.1)

pub apart_push : {X : Type 0} (key : X → ℕ) (x : X) (rows : List X) → position_at key (key x) rows ≡ None → AreApart key rows → AreApart key (rows ++ x ∷ [])
apart_push key x [] none apart = (refl, tt)
apart_push key x (y ∷ ys) none apart = (
  position_push key (key y) ys x ∙ (λ k. option_or (apart.0 k) (cond (ne_eqb (key x) (key y) (λ e. none_head key (key x) y ys none (sym e)) k) (Some (length ys)) None)),
  apart_push key x ys (none_rest key (key x) y ys none) apart.1,
)

-- a row in place of one of its key
pub apart_set : {X : Type 0} (key : X → ℕ) (x : X) (rows : List X) (i : ℕ) → position_at key (key x) rows ≡ Some i → AreApart key rows → AreApart key (set rows i x)
apart_set key x [] i e apart = absurd (none-some i e)
apart_set {X} key x (y ∷ ys) i e apart = ⊎_elim
    (λ t. let z : 0 ≡ i = ap (λ o. unwrap_or o 0) (sym (ap (λ b. at_head b (position_at key (key x) ys)) t.0) ∙ e) in
    subst (λ k. AreApart key (set (y ∷ ys) k x)) z (ap (λ n. position_at key n ys) (sym t.1) ∙ apart.0, apart.1))
    (λ t. let s = some_at (position_at key (key x) ys) i (sym (ap (λ b. at_head b (position_at key (key x) ys)) t.0) ∙ e) in
    subst (λ k. AreApart key (set (y ∷ ys) k x)) (sym s.2) (position_set key x (key y) ys s.0 s.1 ∙ apart.0, apart_set key x ys s.0 s.1 apart.1))
    (eqb_tells (key y) (key x))

-- ---- a row in place of one of another key

abbrev replaced_at : Bool → ℕ → Bool → Option ℕ → Option ℕ
replaced_at new i old o = cond new (Some i) (cond old None o)

-- what is found then
pub position_replaced : {X : Type 0} (key : X → ℕ) (x : X) (n : ℕ) (rows : List X) (i : ℕ) → AreApart key rows → position_at key n rows ≡ Some i → position_at key (key x) rows ≡ None →
    (q : ℕ) → position_at key q (set rows i x) ≡ cond (key x == q) (Some i) (cond (n == q) None (position_at key q rows))
position_replaced key x n [] i apart e none q = absurd (none-some i e)
position_replaced {X} key x n (y ∷ ys) i apart e none q = ⊎_elim
    (λ t. let z : 0 ≡ i = ap (λ o. unwrap_or o 0) (sym (ap (λ b. at_head b (position_at key n ys)) t.0) ∙ e) in
    subst (λ k. position_at key q (set (y ∷ ys) k x) ≡ replaced_at (key x == q) k (n == q) (position_at key q (y ∷ ys))) z (here t.1))
    (λ t. let s = some_at (position_at key n ys) i (sym (ap (λ b. at_head b (position_at key n ys)) t.0) ∙ e) in
    subst (λ k. position_at key q (set (y ∷ ys) k x) ≡ replaced_at (key x == q) k (n == q) (position_at key q (y ∷ ys))) (sym s.2)
    (there s.0 t.1 (position_replaced key x n ys s.0 apart.1 s.1 (none_rest key (key x) y ys none) q)))
    (eqb_tells (key y) n)
  where
    here : key y ≡ n → at_head (key x == q) (position_at key q ys) ≡ replaced_at (key x == q) 0 (n == q) (at_head (key y == q) (position_at key q ys))
    here same = by_new (key x == q)
      where
        old : option_map (λ j. suc j) (position_at key q ys) ≡ cond (n == q) None (at_head (key y == q) (position_at key q ys))
        old = ⊎_elim
            (λ t. ap (λ m. option_map (λ j. suc j) (position_at key m ys)) (sym t.1 ∙ sym same) ∙ ap (λ o. option_map (λ j. suc j) o) apart.0
            ∙ ap (λ b. cond b None (at_head (key y == q) (position_at key q ys))) (sym t.0))
            (λ t. (λ k. at_head (sym (ne_eqb (key y) q (λ e. t.1 (sym same ∙ e))) k) (position_at key q ys))
            ∙ ap (λ b. cond b None (at_head (key y == q) (position_at key q ys))) (sym t.0))
            (eqb_tells n q)

        by_new : (b : Bool) → at_head b (position_at key q ys) ≡ replaced_at b 0 (n == q) (at_head (key y == q) (position_at key q ys))
        by_new true = refl
        by_new false = old

    there : (j : ℕ) → key y ≢ n → position_at key q (set ys j x) ≡ cond (key x == q) (Some j) (cond (n == q) None (position_at key q ys)) →
        at_head (key y == q) (position_at key q (set ys j x)) ≡ replaced_at (key x == q) (suc j) (n == q) (at_head (key y == q) (position_at key q ys))
    there j ne rest = ap (at_head (key y == q)) rest ∙ ⊎_elim
        (λ t. (λ k. at_head (t.0 k) (replaced_at (key x == q) j (n == q) (position_at key q ys)))
        ∙ sym (λ k. replaced_at (ne_eqb (key x) q (λ e. none_head key (key x) y ys none (t.1 ∙ sym e)) k) (suc j) (ne_eqb n q (λ e. ne (t.1 ∙ sym e)) k) (at_head (t.0 k) (position_at key q ys))))
        (λ t. (λ k. at_head (t.0 k) (replaced_at (key x == q) j (n == q) (position_at key q ys))) ∙ moved (key x == q) (n == q)
        ∙ sym (λ k. replaced_at (key x == q) (suc j) (n == q) (at_head (t.0 k) (position_at key q ys))))
        (eqb_tells (key y) q)
      where
        moved : (a b : Bool) → option_map (λ i. suc i) (replaced_at a j b (position_at key q ys)) ≡ replaced_at a (suc j) b (option_map (λ i. suc i) (position_at key q ys))
        moved true b = refl
        moved false true = refl
        moved false false = refl

pub apart_replaced : {X : Type 0} (key : X → ℕ) (x : X) (n : ℕ) (rows : List X) (i : ℕ) → AreApart key rows → position_at key n rows ≡ Some i → position_at key (key x) rows ≡ None → AreApart key (set rows i x)
apart_replaced key x n [] i apart e none = absurd (none-some i e)
apart_replaced {X} key x n (y ∷ ys) i apart e none = ⊎_elim
    (λ t. let z : 0 ≡ i = ap (λ o. unwrap_or o 0) (sym (ap (λ b. at_head b (position_at key n ys)) t.0) ∙ e) in
    subst (λ k. AreApart key (set (y ∷ ys) k x)) z (none_rest key (key x) y ys none, apart.1))
    (λ t. let s = some_at (position_at key n ys) i (sym (ap (λ b. at_head b (position_at key n ys)) t.0) ∙ e) in
    subst (λ k. AreApart key (set (y ∷ ys) k x)) (sym s.2) (
      position_replaced key x n ys s.0 apart.1 s.1 (none_rest key (key x) y ys none) (key y)
          ∙ (λ k. replaced_at (ne_eqb (key x) (key y) (λ e. none_head key (key x) y ys none (sym e)) k) s.0 (ne_eqb n (key y) (λ e. t.1 (sym e)) k) (apart.0 k)),
      apart_replaced key x n ys s.0 apart.1 s.1 (none_rest key (key x) y ys none),
    ))
    (eqb_tells (key y) n)

-- ---- rows found by key

-- what the sorted rows find
find_in_order : {X : Type 0} (key : X → ℕ) (q : ℕ) (rows : List X) → find (λ y. key y == q) (in_order key rows) ≡ find (λ y. key y == q) rows
find_in_order key q [] = refl
find_in_order key q (x ∷ xs) = find_put key q x (in_order key xs) ∙ ap (λ o. cond (key x == q) (Some x) o) (find_in_order key q xs)

find_push : {X : Type 0} (key : X → ℕ) (q : ℕ) (x : X) (rows : List X) → find (λ y. key y == q) (rows ++ x ∷ []) ≡ option_or (find (λ y. key y == q) rows) (cond (key x == q) (Some x) None)
find_push key q x [] = refl
find_push {X} key q x (y ∷ ys) = by_key (key y == q) (find_push key q x ys)
  where
    by_key : (b : Bool) → find (λ z. key z == q) (ys ++ x ∷ []) ≡ option_or (find (λ z. key z == q) ys) (cond (key x == q) (Some x) None) →
        cond b (Some y) (find (λ z. key z == q) (ys ++ x ∷ [])) ≡ option_or (cond b (Some y) (find (λ z. key z == q) ys)) (cond (key x == q) (Some x) None)
    by_key true rest = refl
    by_key false rest = rest

-- no position, no row
none_found : {X : Type 0} (key : X → ℕ) (q : ℕ) (rows : List X) → position_at key q rows ≡ None → find (λ y. key y == q) rows ≡ None
none_found key q rows none = sym (find_in_order key q rows) ∙ sym (row_found key q rows) ∙ ap (row_at rows) none

pub find_gone : {X : Type 0} (key : X → ℕ) (n : ℕ) (xs : List X) → find (λ y. key y == n) (without key n xs) ≡ None
find_gone key n [] = refl
find_gone {X} key n (x ∷ xs) = by_key (key x == n) refl (find_gone key n xs)
  where
    by_key : (b : Bool) → key x == n ≡ b → find (λ y. key y == n) (without key n xs) ≡ None → find (λ y. key y == n) (cond (not b) (x ∷ without key n xs) (without key n xs)) ≡ None
    by_key true e rest = rest
    by_key false e rest = ap (λ b. cond b (Some x) (find (λ y. key y == n) (without key n xs))) e ∙ rest

pub find_without : {X : Type 0} (key : X → ℕ) (n q : ℕ) (xs : List X) → n ≢ q → find (λ y. key y == q) (without key n xs) ≡ find (λ y. key y == q) xs
find_without key n q [] ne = refl
find_without {X} key n q (x ∷ xs) ne = ⊎_elim
    (λ t. ap (λ b. find (λ y. key y == q) (cond (not b) (x ∷ without key n xs) (without key n xs))) t.0 ∙ find_without key n q xs ne
    ∙ sym (ap (λ b. cond b (Some x) (find (λ y. key y == q) xs)) (ne_eqb (key x) q (λ e. ne (sym t.1 ∙ e)))))
    (λ t. ap (λ b. find (λ y. key y == q) (cond (not b) (x ∷ without key n xs) (without key n xs))) t.0 ∙ ap (λ o. cond (key x == q) (Some x) o) (find_without key n q xs ne))
    (eqb_tells (key x) n)

-- sorted rows that find the same are the same
same_found : {X : Type 0} (key : X → ℕ) (xs ys : List X) → RisesFrom key 0 xs → RisesFrom key 0 ys → ((q : ℕ) → find (λ y. key y == q) xs ≡ find (λ y. key y == q) ys) → xs ≡ ys
same_found key xs ys up to same =
    same_rows key 0 0 xs ys up to
    (λ z t. found_in (λ y. key y == key z) ys z (sym (same (key z)) ∙ finds_row key z 0 xs up t))
    (λ z t. found_in (λ y. key y == key z) xs z (same (key z) ∙ finds_row key z 0 ys to t))

-- ---- the rows after one is dropped

find_replaced : {X : Type 0} (key : X → ℕ) (x : X) (n q : ℕ) (rows : List X) (i : ℕ) → n ≢ q → position_at key n rows ≡ Some i → position_at key (key x) rows ≡ None →
    find (λ y. key y == q) (set rows i x) ≡ find (λ y. key y == q) (rows ++ x ∷ [])
find_replaced key x n q [] i ne e none = absurd (none-some i e)
find_replaced {X} key x n q (y ∷ ys) i ne e none = ⊎_elim
    (λ t. let z : 0 ≡ i = ap (λ o. unwrap_or o 0) (sym (ap (λ b. at_head b (position_at key n ys)) t.0) ∙ e) in
    subst (λ k. find (λ w. key w == q) (set (y ∷ ys) k x) ≡ find (λ w. key w == q) (y ∷ (ys ++ x ∷ []))) z
    (by_new (key x == q) refl ∙ sym (find_push key q x ys) ∙ sym (ap (λ b. cond b (Some y) (find (λ w. key w == q) (ys ++ x ∷ []))) (ne_eqb (key y) q (λ f. ne (sym t.1 ∙ f))))))
    (λ t. let s = some_at (position_at key n ys) i (sym (ap (λ b. at_head b (position_at key n ys)) t.0) ∙ e) in
    subst (λ k. find (λ w. key w == q) (set (y ∷ ys) k x) ≡ find (λ w. key w == q) (y ∷ (ys ++ x ∷ []))) (sym s.2)
    (ap (λ o. cond (key y == q) (Some y) o) (find_replaced key x n q ys s.0 ne s.1 (none_rest key (key x) y ys none))))
    (eqb_tells (key y) n)
  where
    last : (o : Option X) → o ≡ option_or o None
    last None = refl
    last (Some w) = refl

    by_new : (b : Bool) → key x == q ≡ b → cond b (Some x) (find (λ w. key w == q) ys) ≡ option_or (find (λ w. key w == q) ys) (cond b (Some x) None)
    by_new true f =
        let missing : find (λ w. key w == q) ys ≡ None = ap (λ m. find (λ w. key w == m) ys) (sym (eqb-true (key x) q f)) ∙ none_found key (key x) ys (none_rest key (key x) y ys none) in
        ap (λ o. option_or o (Some x)) (sym missing)
    by_new false f = last (find (λ w. key w == q) ys)

-- the last row takes the position of the one that goes
pub in_order_moved : {X : Type 0} (key : X → ℕ) (x : X) (n : ℕ) (rows : List X) (i : ℕ) → AreApart key rows → position_at key n rows ≡ Some i → position_at key (key x) rows ≡ None →
    in_order key (set rows i x) ≡ without key n (in_order key (rows ++ x ∷ []))
in_order_moved key x n rows i apart e none =
    same_found key (in_order key (set rows i x)) (without key n (in_order key (rows ++ x ∷ [])))
    (in_order_rises key (set rows i x)) (rises-without key n 0 (in_order key (rows ++ x ∷ [])) (in_order_rises key (rows ++ x ∷ [])))
    (λ q. ⊎_elim
    (λ t. let other : key x ≢ q = λ f. none-some i (sym none ∙ ap (λ m. position_at key m rows) (f ∙ sym t.1) ∙ e) in
    let missing : position_at key q (set rows i x) ≡ None = position_replaced key x n rows i apart e none q
    ∙ (λ k. replaced_at (ne_eqb (key x) q other k) i (t.0 k) (position_at key q rows)) in
    sym (row_found key q (set rows i x)) ∙ ap (row_at (set rows i x)) missing
    ∙ sym (ap (λ m. find (λ y. key y == m) (without key n (in_order key (rows ++ x ∷ [])))) (sym t.1) ∙ find_gone key n (in_order key (rows ++ x ∷ []))))
    (λ t. find_in_order key q (set rows i x) ∙ find_replaced key x n q rows i t.1 e none ∙ sym (find_in_order key q (rows ++ x ∷ []))
    ∙ sym (find_without key n q (in_order key (rows ++ x ∷ [])) t.1))
    (eqb_tells n q))

-- the last row goes
pub in_order_popped : {X : Type 0} (key : X → ℕ) (x : X) (rows : List X) → position_at key (key x) rows ≡ None → in_order key rows ≡ without key (key x) (in_order key (rows ++ x ∷ []))
in_order_popped key x rows none =
    same_found key (in_order key rows) (without key (key x) (in_order key (rows ++ x ∷ [])))
    (in_order_rises key rows) (rises-without key (key x) 0 (in_order key (rows ++ x ∷ [])) (in_order_rises key (rows ++ x ∷ [])))
    (λ q. ⊎_elim
    (λ t. sym (row_found key q rows) ∙ ap (row_at rows) (ap (λ m. position_at key m rows) (sym t.1) ∙ none)
    ∙ sym (ap (λ m. find (λ y. key y == m) (without key (key x) (in_order key (rows ++ x ∷ [])))) (sym t.1) ∙ find_gone key (key x) (in_order key (rows ++ x ∷ []))))
    (λ t. sym (find_without key (key x) q (in_order key (rows ++ x ∷ [])) t.1
    ∙ ap (find (λ y. key y == q)) (in_order_push key x rows none) ∙ find_put key q x (in_order key rows) ∙ ap (λ b. cond b (Some x) (find (λ y. key y == q) (in_order key rows))) t.0))
    (eqb_tells (key x) q))

-- no row goes
pub in_order_absent : {X : Type 0} (key : X → ℕ) (n : ℕ) (rows : List X) → position_at key n rows ≡ None → in_order key rows ≡ without key n (in_order key rows)
in_order_absent key n rows none =
    same_found key (in_order key rows) (without key n (in_order key rows)) (in_order_rises key rows) (rises-without key n 0 (in_order key rows) (in_order_rises key rows))
    (λ q. ⊎_elim
    (λ t. sym (row_found key q rows) ∙ ap (row_at rows) (ap (λ m. position_at key m rows) (sym t.1) ∙ none)
    ∙ sym (ap (λ m. find (λ y. key y == m) (without key n (in_order key rows))) (sym t.1) ∙ find_gone key n (in_order key rows)))
    (λ t. sym (find_without key n q (in_order key rows) t.1))
    (eqb_tells n q))

-- ---- where the last row stood

-- a key found before the last row, or that of the last row
pub found_before : {X : Type 0} (key : X → ℕ) (x : X) (n : ℕ) (rows : List X) (i : ℕ) → i < length rows → position_at key n (rows ++ x ∷ []) ≡ Some i → position_at key n rows ≡ Some i
found_before key x n rows i l e = by_position (position_at key n rows) refl
  where
    at : option_or (position_at key n rows) (cond (key x == n) (Some (length rows)) None) ≡ Some i
    at = sym (position_push key n rows x) ∙ e

    by_last : (b : Bool) → cond b (Some (length rows)) None ≡ Some i → ⊥
    by_last true f = let same : length rows ≡ i = ap (λ o. unwrap_or o 0) f in omega (arith, l, same)
    by_last false f = none-some i f

    by_position : (o : Option ℕ) → position_at key n rows ≡ o → position_at key n rows ≡ Some i
    by_position None f = absurd (by_last (key x == n) (sym (ap (λ o. option_or o (cond (key x == n) (Some (length rows)) None)) f) ∙ at))
    by_position (Some j) f = f ∙ sym (ap (λ o. option_or o (cond (key x == n) (Some (length rows)) None)) f) ∙ at

pub found_last : {X : Type 0} (key : X → ℕ) (x : X) (n : ℕ) (rows : List X) (i : ℕ) → length rows ≤ i → position_at key n (rows ++ x ∷ []) ≡ Some i → key x ≡ n
found_last key x n rows i l e = by_position (position_at key n rows) refl
  where
    at : option_or (position_at key n rows) (cond (key x == n) (Some (length rows)) None) ≡ Some i
    at = sym (position_push key n rows x) ∙ e

    by_last : (b : Bool) → key x == n ≡ b → cond b (Some (length rows)) None ≡ Some i → key x ≡ n
    by_last true g f = eqb-true (key x) n g
    by_last false g f = absurd (none-some i f)

    by_position : (o : Option ℕ) → position_at key n rows ≡ o → key x ≡ n
    by_position None f = by_last (key x == n) refl (sym (ap (λ o. option_or o (cond (key x == n) (Some (length rows)) None)) f) ∙ at)
    by_position (Some j) f =
        let same : j ≡ i = ap (λ o. unwrap_or o 0) (sym (ap (λ o. option_or o (cond (key x == n) (Some (length rows)) None)) f) ∙ at) in
        let within : j < length rows = position_bound key n rows j f in
        absurd (omega (arith, within, same, l))

-- every other key is found where it was
pub position_before : {X : Type 0} (key : X → ℕ) (x : X) (q : ℕ) (rows : List X) → key x ≢ q → position_at key q (rows ++ x ∷ []) ≡ position_at key q rows
position_before key x q rows ne = position_push key q rows x ∙ ap (λ b. option_or (position_at key q rows) (cond b (Some (length rows)) None)) (ne_eqb (key x) q ne) ∙ last (position_at key q rows)
  where
    last : (o : Option ℕ) → option_or o None ≡ o
    last None = refl
    last (Some j) = refl

-- ---- the map of positions after a row is dropped: f before, g without its number, h with the last row's position

pub position_of_last : {X : Type 0} (key : X → ℕ) (x : X) (rows : List X) → position_at key (key x) rows ≡ None → position_at key (key x) (rows ++ x ∷ []) ≡ Some (length rows)
position_of_last key x rows none =
    position_push key (key x) rows x ∙ (λ k. option_or (none k) (cond (eq-eqb (key x) (key x) refl k) (Some (length rows)) None))

-- the last row still has a position
pub still_has : {X : Type 0} (key : X → ℕ) (x : X) (n : ℕ) (rows : List X) (i : ℕ) (f g : ℕ → Option ℕ) → position_at key n rows ≡ Some i → position_at key (key x) rows ≡ None →
    ((q : ℕ) → g q ≡ cond (n == q) None (f q)) → ((q : ℕ) → f q ≡ position_at key q (rows ++ x ∷ [])) → g (key x) ≡ Some (length rows)
still_has key x n rows i f g e none gone finds =
    let other : n ≢ key x = λ s. none-some i (sym none ∙ ap (λ m. position_at key m rows) (sym s) ∙ e) in
    gone (key x) ∙ ap (λ b. cond b None (f (key x))) (ne_eqb n (key x) other) ∙ finds (key x) ∙ position_of_last key x rows none

pub positions_moved : {X : Type 0} (key : X → ℕ) (x : X) (n : ℕ) (rows : List X) (i : ℕ) (f g h : ℕ → Option ℕ) → AreApart key rows → position_at key n rows ≡ Some i → position_at key (key x) rows ≡ None →
    ((q : ℕ) → h q ≡ cond (key x == q) (Some i) (g q)) → ((q : ℕ) → g q ≡ cond (n == q) None (f q)) → ((q : ℕ) → f q ≡ position_at key q (rows ++ x ∷ [])) →
    (q : ℕ) → h q ≡ position_at key q (set rows i x)
positions_moved key x n rows i f g h apart e none moved gone finds q =
    moved q ∙ ⊎_elim
    (λ t. ap (λ b. cond b (Some i) (g q)) t.0 ∙ sym (ap (λ b. replaced_at b i (n == q) (position_at key q rows)) t.0))
    (λ t. ap (λ b. cond b (Some i) (g q)) t.0 ∙ gone q ∙ ap (λ o. cond (n == q) None o) (finds q ∙ position_before key x q rows t.1)
    ∙ sym (ap (λ b. replaced_at b i (n == q) (position_at key q rows)) t.0))
    (eqb_tells (key x) q)
    ∙ sym (position_replaced key x n rows i apart e none q)

pub positions_popped : {X : Type 0} (key : X → ℕ) (x : X) (n : ℕ) (rows : List X) (f g : ℕ → Option ℕ) → key x ≡ n → position_at key (key x) rows ≡ None →
    ((q : ℕ) → g q ≡ cond (n == q) None (f q)) → ((q : ℕ) → f q ≡ position_at key q (rows ++ x ∷ [])) → (q : ℕ) → g q ≡ position_at key q rows
positions_popped key x n rows f g same none gone finds q =
    gone q ∙ ⊎_elim
    (λ t. ap (λ b. cond b None (f q)) t.0 ∙ sym (ap (λ m. position_at key m rows) (sym t.1 ∙ sym same) ∙ none))
    (λ t. ap (λ b. cond b None (f q)) t.0 ∙ finds q ∙ position_before key x q rows (λ s. t.1 (sym same ∙ s)))
    (eqb_tells n q)

pub positions_absent : {X : Type 0} (key : X → ℕ) (n : ℕ) (rows : List X) (f g : ℕ → Option ℕ) → position_at key n rows ≡ None →
    ((q : ℕ) → g q ≡ cond (n == q) None (f q)) → ((q : ℕ) → f q ≡ position_at key q rows) → (q : ℕ) → g q ≡ position_at key q rows
positions_absent key n rows f g none gone finds q =
    gone q ∙ ⊎_elim
    (λ t. ap (λ b. cond b None (f q)) t.0 ∙ sym (ap (λ m. position_at key m rows) (sym t.1) ∙ none))
    (λ t. ap (λ b. cond b None (f q)) t.0 ∙ finds q)
    (eqb_tells n q)
