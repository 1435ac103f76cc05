-- Rows in the order in which their keys came first, beside the list that is sorted by key.
use Rattle.std.proofs.Common.{◌≡◌, ℕ, suc, ◌<◌, ⊎_elim, Bool, true, false, cond, Option, Some, None, List, []}
use Rattle.std.proofs.Common.{◌∷◌, ◌++◌, length, set, refl, sym, ap, ◌∙◌, arith}
use Rattle.std.specs.Prelude.{◌==◌, nat_eq, slice_get, unwrap_or, find}
use Rattle.std.specs.Option.{option_or, option_map}
use Rattle.std.specs.HashMap.{get}
use Rattle.std.proofs.lemmas.Bool.{eqb-true}
use Rattle.std.proofs.lemmas.Bool.Decides.{eqb_tells}
use Rattle.std.proofs.lemmas.Option.{none-some}
use Rattle.gate_types.specs.State.{put_by}
use Rattle.gate_types.specs.Keys.{number_of_change}
use Rattle.gate_types.specs.declared.rows.ChangeRow.{ChangeRow}
use Rattle.gate_types.proofs.PlainLemmas.{below_or}
use Rattle.gate_types.proofs.PutLemmas.{put_over, put_swap}
use Rattle.gate_memory.specs.Changes.{Numbers, FindsNumbers, in_order, position_at}
use Rattle.gate_memory.proofs.SortedLemmas.{put_first, put_before, put_after}

pub some_at : (o : Option ℕ) (i : ℕ) → option_map (λ j. suc j) o ≡ Some i → (j : ℕ) × (o ≡ Some j) × (i ≡ suc j)
some_at None i e = absurd (none-some i e)
some_at (Some j) i e = (j, refl, sym (ap (λ o. unwrap_or o 0) e))

pub none_at : (o : Option ℕ) → option_map (λ j. suc j) o ≡ None → o ≡ None
none_at None e = refl
none_at (Some j) e = absurd (none-some (suc j) (sym e))

abbrev pub at_head : Bool → Option ℕ → Option ℕ
at_head b o = cond b (Some 0) (option_map (λ i. suc i) o)

-- a row whose key is there takes its place
pub in_order_set : {X : Type 0} (key : X → ℕ) (x : X) (rows : List X) (i : ℕ) → position_at key (key x) rows ≡ Some i → in_order key (set rows i x) ≡ put_by key x (in_order key rows)
in_order_set key x [] i e = absurd (none-some i e)
in_order_set key x (y ∷ ys) i e = ⊎_elim
    (λ t. let z : 0 ≡ i = ap (λ o. unwrap_or o 0) (sym (ap (λ b. at_head b (position_at key (key x) ys)) t.0) ∙ e) in
    sym (ap (λ k. in_order key (set (y ∷ ys) k x)) z) ∙ sym (put_over key y x (in_order key ys) t.1))
    (λ t. let s = some_at (position_at key (key x) ys) i (sym (ap (λ b. at_head b (position_at key (key x) ys)) t.0) ∙ e) in
    ap (λ k. in_order key (set (y ∷ ys) k x)) s.2 ∙ ap (put_by key y) (in_order_set key x ys s.0 s.1) ∙ sym (put_swap key y x (in_order key ys) t.1))
    (eqb_tells (key y) (key x))

-- a row of a new key is put at the end
pub in_order_push : {X : Type 0} (key : X → ℕ) (x : X) (rows : List X) → position_at key (key x) rows ≡ None → in_order key (rows ++ x ∷ []) ≡ put_by key x (in_order key rows)
in_order_push key x [] e = refl
in_order_push key x (y ∷ ys) e = ⊎_elim
    (λ t. absurd (none-some 0 (sym e ∙ ap (λ b. at_head b (position_at key (key x) ys)) t.0)))
    (λ t. let n = none_at (position_at key (key x) ys) (sym (ap (λ b. at_head b (position_at key (key x) ys)) t.0) ∙ e) in
    ap (put_by key y) (in_order_push key x ys n) ∙ sym (put_swap key y x (in_order key ys) t.1))
    (eqb_tells (key y) (key x))

pub position_bound : {X : Type 0} (key : X → ℕ) (n : ℕ) (rows : List X) (i : ℕ) → position_at key n rows ≡ Some i → i < length rows
position_bound key n [] i e = absurd (none-some i e)
position_bound key n (y ∷ ys) i e = ⊎_elim
    (λ t. let z : 0 ≡ i = ap (λ o. unwrap_or o 0) (sym (ap (λ b. at_head b (position_at key n ys)) t.0) ∙ e) in omega (arith, z))
    (λ t. let s = some_at (position_at key n ys) i (sym (ap (λ b. at_head b (position_at key n ys)) t.0) ∙ e) in let h = position_bound key n ys s.0 s.1 in omega (arith, h, s.2))
    (eqb_tells (key y) n)

pub position_set : {X : Type 0} (key : X → ℕ) (x : X) (n : ℕ) (rows : List X) (i : ℕ) → position_at key (key x) rows ≡ Some i → position_at key n (set rows i x) ≡ position_at key n rows
position_set key x n [] i e = absurd (none-some i e)
position_set key x n (y ∷ ys) i e = ⊎_elim
    (λ t. let z : 0 ≡ i = ap (λ o. unwrap_or o 0) (sym (ap (λ b. at_head b (position_at key (key x) ys)) t.0) ∙ e) in
    sym (ap (λ k. position_at key n (set (y ∷ ys) k x)) z) ∙ sym (ap (λ k. at_head (k == n) (position_at key n ys)) t.1))
    (λ t. let s = some_at (position_at key (key x) ys) i (sym (ap (λ b. at_head b (position_at key (key x) ys)) t.0) ∙ e) in
    ap (λ k. position_at key n (set (y ∷ ys) k x)) s.2 ∙ ap (at_head (key y == n)) (position_set key x n ys s.0 s.1))
    (eqb_tells (key y) (key x))

push_step : (n : ℕ) (o : Option ℕ) (c b : Bool) (r : Option ℕ) → r ≡ option_or o (cond c (Some n) None) → at_head b r ≡ option_or (at_head b o) (cond c (Some (suc n)) None)
push_step n o c true r e = refl
push_step n o c false r e = ap (λ p. option_map (λ i. suc i) p) e ∙ by_last o c
  where
    by_last : (o : Option ℕ) (b : Bool) → option_map (λ i. suc i) (option_or o (cond b (Some n) None)) ≡ option_or (option_map (λ i. suc i) o) (cond b (Some (suc n)) None)
    by_last None true = refl
    by_last None false = refl
    by_last (Some i) b = refl

pub position_push : {X : Type 0} (key : X → ℕ) (n : ℕ) (rows : List X) (x : X) → position_at key n (rows ++ x ∷ []) ≡ option_or (position_at key n rows) (cond (key x == n) (Some (length rows)) None)
position_push key n [] x = refl
position_push key n (y ∷ ys) x = push_step (length ys) (position_at key n ys) (key x == n) (key y == n) (position_at key n (ys ++ x ∷ [])) (position_push key n ys x)

-- what is found at a key after a put
pub find_put : {X : Type 0} (key : X → ℕ) (n : ℕ) (x : X) (ys : List X) → find (λ y. key y == n) (put_by key x ys) ≡ cond (key x == n) (Some x) (find (λ y. key y == n) ys)
find_put key n x [] = refl
find_put key n x (y ∷ ys) = ⊎_elim
    (λ l. ap (find (λ z. key z == n)) (put_before key x y ys l))
    (λ l. ⊎_elim
    (λ m. ap (find (λ z. key z == n)) (put_after key x y ys m) ∙ ap (cond (key y == n) (Some y)) (find_put key n x ys) ∙ passes (key y == n) (key x == n) (λ a b. omega (arith, m, eqb-true (key y) n a, eqb-true (key x) n b)))
    (λ m. let e : key x ≡ key y = omega arith in ap (find (λ z. key z == n)) (put_first key x y ys e) ∙ sym (skips (key x == n)) ∙ ap (λ k. cond (key x == n) (Some x) (cond (k == n) (Some y) (find (λ z. key z == n) ys))) e)
    (below_or (key y) (key x)))
    (below_or (key x) (key y))
  where
    passes : (a b : Bool) → (a ≡ true → b ≡ true → ⊥) → cond a (Some y) (cond b (Some x) (find (λ z. key z == n) ys)) ≡ cond b (Some x) (cond a (Some y) (find (λ z. key z == n) ys))
    passes true true h = absurd (h refl refl)
    passes true false h = refl
    passes false true h = refl
    passes false false h = refl

    skips : (b : Bool) → cond b (Some x) (cond b (Some y) (find (λ z. key z == n) ys)) ≡ cond b (Some x) (find (λ z. key z == n) ys)
    skips true = refl
    skips false = refl

abbrev pub row_at : {X : Type 0} → List X → Option ℕ → Option X
row_at rows None = None
row_at rows (Some i) = slice_get rows i

at_step : {X : Type 0} (x : X) (xs : List X) (o : Option ℕ) (b : Bool) (r : Option X) → row_at xs o ≡ r → row_at (x ∷ xs) (at_head b o) ≡ cond b (Some x) r
at_step x xs o true r e = refl
at_step x xs None false r e = e
at_step x xs (Some i) false r e = e

-- a read by key
pub row_found : {X : Type 0} (key : X → ℕ) (n : ℕ) (rows : List X) → row_at rows (position_at key n rows) ≡ find (λ y. key y == n) (in_order key rows)
row_found key n [] = refl
row_found key n (x ∷ xs) = at_step x xs (position_at key n xs) (key x == n) (find (λ y. key y == n) (in_order key xs)) (row_found key n xs) ∙ sym (find_put key n x (in_order key xs))

noted : (f : ℕ → Option ℕ) (id q n : ℕ) → f id ≡ None → cond (id == q) (Some n) (f q) ≡ option_or (f q) (cond (id == q) (Some n) None)
noted f id q n none = ⊎_elim
    (λ t. by_true (id == q) t.0 (f q) (sym (ap f t.1) ∙ none))
    (λ t. by_false (id == q) t.0 (f q))
    (eqb_tells id q)
  where
    by_true : (b : Bool) → b ≡ true → (o : Option ℕ) → o ≡ None → cond b (Some n) o ≡ option_or o (cond b (Some n) None)
    by_true b t o e = (λ k. cond (t k) (Some n) (e k)) ∙ sym (λ k. option_or (e k) (cond (t k) (Some n) None))

    by_last : (o : Option ℕ) → o ≡ option_or o None
    by_last None = refl
    by_last (Some i) = refl

    by_false : (b : Bool) → b ≡ false → (o : Option ℕ) → cond b (Some n) o ≡ option_or o (cond b (Some n) None)
    by_false b t o = ap (λ c. cond c (Some n) o) t ∙ by_last o ∙ sym (ap (λ c. option_or o (cond c (Some n) None)) t)

pub numbers_push : (m n : Numbers) (rows : List ChangeRow) (x : ChangeRow) (position : ℕ) → position ≡ length rows → get nat_eq m x.change.number ≡ None → ((q : ℕ) → get nat_eq n q ≡ cond (x.change.number == q) (Some position) (get nat_eq m q)) → FindsNumbers m rows → FindsNumbers n (rows ++ x ∷ [])
numbers_push m n rows x position here none e f q =
    e q ∙ noted (get nat_eq m) x.change.number q position none ∙ (λ j. option_or (f q j) (cond (x.change.number == q) (Some (here j)) None)) ∙ sym (position_push number_of_change q rows x)

pub numbers_set : (m : Numbers) (rows : List ChangeRow) (x : ChangeRow) (i : ℕ) → get nat_eq m x.change.number ≡ Some i → FindsNumbers m rows → FindsNumbers m (set rows i x)
numbers_set m rows x i e f q = f q ∙ sym (position_set number_of_change x q rows i (sym (f x.change.number) ∙ e))
