-- Rows that pass a test, collected by their keys.
use Rattle.std.proofs.Common.{◌≡◌, ◌≢◌, ℕ, zero, suc, ◌<◌, ◌≤◌, ⊎_elim, Bool, true, false, cond, Option, Some, None}
use Rattle.std.proofs.Common.{List, [], ◌∷◌, ◌++◌, length, take, get_or, refl, sym, ap, ◌∙◌, arith}
use Rattle.std.specs.Prelude.{◌==◌, filter, find, option_and_then}
use Rattle.std.specs.List.{AllByRecursion, filter_map, cons_option}
use Rattle.std.proofs.lemmas.Bool.{eq-eqb, ne_eqb}
use Rattle.gate_types.specs.Rising.{RisesFrom, In}
use Rattle.gate_memory.specs.Sorted.{kept_if, passing_at}
use Rattle.gate_memory.proofs.SortedLemmas.{found_above, in_above}
use Rattle.gate_types.proofs.PlainLemmas.{below_or}

-- each row that passes has its key among these
abbrev pub AreTold : {X : Type 0} → (X → ℕ) → (X → Bool) → List X → List ℕ → Type 0
AreTold key test xs ns = AllByRecursion (λ x. test x ≡ true → In (key x) ns) xs

-- numbers that rise
abbrev pub Rising : ℕ → List ℕ → Type 0
Rising k ns = RisesFrom (λ n. n) k ns

-- what isn't the first is among the rest
in_rest : (n m : ℕ) (ms : List ℕ) → m ≢ n → In n (m ∷ ms) → In n ms
in_rest n m ms ne there = ⊎_elim (λ e. absurd (ne e)) (λ t. t) there

-- the keys of later rows are among the rest
told_rest : {X : Type 0} (key : X → ℕ) (test : X → Bool) (k n : ℕ) (xs : List X) (ns : List ℕ) → n < k → RisesFrom key k xs → AreTold key test xs (n ∷ ns) → AreTold key test xs ns
told_rest key test k n [] ns l rise told = tt
told_rest key test k n (x ∷ xs) ns l rise told =
    let low : k ≤ key x = rise.0 in
    ((λ t. in_rest (key x) n ns (λ e. omega (arith, e)) (told.0 t)), told_rest key test (suc (key x)) n xs ns (omega arith) rise.1 told.1)

-- a row is no other's
passing_other : {X : Type 0} (key : X → ℕ) (test : X → Bool) (x : X) (xs : List X) (n : ℕ) → key x ≢ n → passing_at key test (x ∷ xs) n ≡ passing_at key test xs n
passing_other key test x xs n ne = ap (λ t. option_and_then (kept_if test) (cond t (Some x) (find (λ y. key y == n) xs))) (ne_eqb (key x) n ne)

-- so none of the numbers above a row finds it
others_pass : {X : Type 0} (key : X → ℕ) (test : X → Bool) (x : X) (xs : List X) (k : ℕ) (ns : List ℕ) → key x < k → Rising k ns → filter_map (passing_at key test (x ∷ xs)) ns ≡ filter_map (passing_at key test xs) ns
others_pass key test x xs k [] l rise = refl
others_pass key test x xs k (n ∷ ns) l rise =
    let low : k ≤ n = rise.0 in
    (λ i. cons_option (passing_other key test x xs n (λ e. omega (arith, e)) i) (others_pass key test x xs (suc n) ns (omega arith) rise.1 i))

none_pass : {X : Type 0} (key : X → ℕ) (test : X → Bool) (xs : List X) → AreTold key test xs [] → filter test xs ≡ []
none_pass key test [] told = refl
none_pass key test (x ∷ xs) told = by_test (test x) told.0 (none_pass key test xs told.1)
  where
    by_test : (t : Bool) → (t ≡ true → ⊥) → filter test xs ≡ [] → cond t (x ∷ filter test xs) (filter test xs) ≡ []
    by_test true never rest = absurd (never refl)
    by_test false never rest = rest

nothing_found : {X : Type 0} (key : X → ℕ) (test : X → Bool) (ns : List ℕ) → filter_map (passing_at key test []) ns ≡ []
nothing_found key test [] = refl
nothing_found key test (n ∷ ns) = nothing_found key test ns

-- a row before all the numbers doesn't pass
skips_row : {X : Type 0} (key : X → ℕ) (test : X → Bool) (x : X) (xs : List X) (k : ℕ) (ns : List ℕ) → key x < k → Rising k ns → (test x ≡ true → In (key x) ns) → filter test xs ≡ filter test (x ∷ xs)
skips_row key test x xs k ns l rise told = by_test (test x) told
  where
    by_test : (t : Bool) → (t ≡ true → In (key x) ns) → filter test xs ≡ cond t (x ∷ filter test xs) (filter test xs)
    by_test true told = absurd (let low : k ≤ key x = in_above (λ (n : ℕ). n) k (key x) ns rise (told refl) in omega arith)
    by_test false told = refl

-- a row at the first of the numbers is what that number finds
takes_row : {X : Type 0} (key : X → ℕ) (test : X → Bool) (x : X) (xs : List X) (n : ℕ) (found : List X) → key x ≡ n → found ≡ filter test xs → cons_option (passing_at key test (x ∷ xs) n) found ≡ filter test (x ∷ xs)
takes_row key test x xs n found e rest =
    ap (λ t. cons_option (option_and_then (kept_if test) (cond t (Some x) (find (λ y. key y == n) xs))) found) (eq-eqb (key x) n e) ∙ by_test (test x)
  where
    by_test : (t : Bool) → cons_option (cond t (Some x) None) found ≡ cond t (x ∷ filter test xs) (filter test xs)
    by_test true = ap (λ ys. x ∷ ys) rest
    by_test false = rest

-- one row more, along all the numbers
along : {X : Type 0} (key : X → ℕ) (test : X → Bool) (x : X) (xs : List X) → RisesFrom key (suc (key x)) xs → ((k : ℕ) (ns : List ℕ) → Rising k ns → AreTold key test xs ns → filter_map (passing_at key test xs) ns ≡ filter test xs) → (k : ℕ) (ns : List ℕ) → Rising k ns → AreTold key test (x ∷ xs) ns → filter_map (passing_at key test (x ∷ xs)) ns ≡ filter test (x ∷ xs)
along key test x xs up rest k [] rise told = sym (none_pass key test (x ∷ xs) told)
along key test x xs up rest k (n ∷ ns) rise told = ⊎_elim
    (λ l. ap (λ o. cons_option (option_and_then (kept_if test) o) (filter_map (passing_at key test (x ∷ xs)) ns)) (found_above key n (key x) (x ∷ xs) l (omega arith, up))
    ∙ along key test x xs up rest (suc n) ns rise.1 (told_rest key test (key x) n (x ∷ xs) ns l (omega arith, up) told))
    (λ l. ⊎_elim
    (λ m. others_pass key test x xs n (n ∷ ns) m (omega arith, rise.1) ∙ rest n (n ∷ ns) (omega arith, rise.1) told.1 ∙ skips_row key test x xs n (n ∷ ns) m (omega arith, rise.1) told.0)
    (λ m. let e : key x ≡ n = omega arith in
    takes_row key test x xs n (filter_map (passing_at key test (x ∷ xs)) ns) e
    (others_pass key test x xs (suc n) ns (omega arith) rise.1 ∙ rest (suc n) ns rise.1 (told_rest key test (suc (key x)) n xs ns (omega arith) up told.1)))
    (below_or (key x) n))
    (below_or n (key x))

-- the rows that pass are those that the numbers find
pub collected : {X : Type 0} (key : X → ℕ) (test : X → Bool) (m : ℕ) (xs : List X) → RisesFrom key m xs → (k : ℕ) (ns : List ℕ) → Rising k ns → AreTold key test xs ns → filter_map (passing_at key test xs) ns ≡ filter test xs
collected key test m [] up k ns rise told = nothing_found key test ns
collected key test m (x ∷ xs) up k ns rise told = along key test x xs up.1 (collected key test (suc (key x)) xs up.1) k ns rise told

-- one number more, and what it finds
pub filter_map_next : {X Y : Type 0} (h : X → Option Y) (xs : List X) (k : ℕ) (d : X) → k < length xs → filter_map h (take (suc k) xs) ≡ filter_map h (take k xs) ++ cons_option (h (get_or xs k d)) []
filter_map_next h [] k d l = absurd (omega arith)
filter_map_next h (x ∷ xs) zero d l = refl
filter_map_next h (x ∷ xs) (suc k) d l = ap (cons_option (h x)) (filter_map_next h xs k d (omega arith)) ∙ by_found (h x) (filter_map h (take k xs))
  where
    by_found : (o : Option _) (ys : List _) → cons_option o (ys ++ cons_option (h (get_or xs k d)) []) ≡ cons_option o ys ++ cons_option (h (get_or xs k d)) []
    by_found None ys = refl
    by_found (Some y) ys = refl
