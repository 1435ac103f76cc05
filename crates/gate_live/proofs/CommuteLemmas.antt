-- Rows that pass a test, while all rows are edited.
use Rattle.std.proofs.Common.{◌≡◌, ℕ, suc, ◌<◌, ◌≤◌, ⊎_elim, Bool, true, false, not, cond, Option, Some, None, List}
use Rattle.std.proofs.Common.{[], ◌∷◌, map, refl, sym, ap, ◌∙◌, eqb-true, arith, true≢false}
use Rattle.std.specs.Prelude.{◌==◌, ◌||◌, filter, find, fold}
use Rattle.std.proofs.lemmas.Bool.{eq-eqb, ne_eqb}
use Rattle.gate_types.specs.State.{put_by}
use Rattle.gate_types.specs.Rising.{RisesFrom}
use Rattle.gate_types.proofs.PlainLemmas.{below_or}
use Rattle.gate_memory.specs.Sorted.{without}
use Rattle.gate_memory.proofs.SortedLemmas.{rises-filter, put_first, put_before, put_after, found_above}
use Rattle.gate_memory.proofs.IndexLemmas.{without_absent}

-- ---- one row

-- a row below all others is put before them
pub put_below : {X : Type 0} (key : X → ℕ) (x : X) (m : ℕ) (ys : List X) → key x < m → RisesFrom key m ys → put_by key x ys ≡ x ∷ ys
put_below key x m [] l r = refl
put_below key x m (y ∷ ys) l r = let above : m ≤ key y = r.0 in put_before key x y ys (omega arith)

-- and none of them has its key
pub without_below : {X : Type 0} (key : X → ℕ) (n m : ℕ) (ys : List X) → n < m → RisesFrom key m ys → without key n ys ≡ ys
without_below key n m ys l r = sym (without_absent key n ys (found_above key n m ys l r))

without_next : {X : Type 0} (key : X → ℕ) (n : ℕ) (y : X) (ys : List X) (t : Bool) → key y == n ≡ t → without key n (y ∷ ys) ≡ cond (not t) (y ∷ without key n ys) (without key n ys)
without_next key n y ys t e = ap (λ b. cond (not b) (y ∷ without key n ys) (without key n ys)) e

nothing : {X : Type 0} (t : Bool) (o : Option X) → o ≡ None → o ≡ cond t None o
nothing true o none = none
nothing false o none = refl

-- what is found once the rows of a key are gone
pub find_without : {X : Type 0} (key : X → ℕ) (m n : ℕ) (xs : List X) → find (λ x. key x == n) (without key m xs) ≡ cond (m == n) None (find (λ x. key x == n) xs)
find_without key m n [] = nothing (m == n) None refl
find_without {X} key m n (x ∷ xs) = by_key (key x == m) refl (key x == n) refl (m == n) refl (find_without key m n xs)
  where
    rest : Option X
    rest = find (λ y. key y == n) xs

    by_key : (s : Bool) → key x == m ≡ s → (t : Bool) → key x == n ≡ t → (u : Bool) → m == n ≡ u →
        find (λ y. key y == n) (without key m xs) ≡ cond u None rest →
        find (λ y. key y == n) (cond (not s) (x ∷ without key m xs) (without key m xs)) ≡ cond u None (cond t (Some x) rest)
    by_key true a true b true d e = e
    by_key true a true b false d e = let p = eqb-true (key x) m a in let q = eqb-true (key x) n b in absurd (true≢false (sym (eq-eqb m n (sym p ∙ q)) ∙ d))
    by_key true a false b u d e = e
    by_key false a true b true d e = let p = eqb-true (key x) n b in let q = eqb-true m n d in absurd (true≢false (sym (eq-eqb (key x) m (p ∙ sym q)) ∙ a))
    by_key false a true b false d e = ap (λ k. cond k (Some x) (find (λ y. key y == n) (without key m xs))) b
    by_key false a false b u d e = ap (λ k. cond k (Some x) (find (λ y. key y == n) (without key m xs))) b ∙ e

-- ---- those that pass

-- two tests of which each row passes both or neither
pub filter_same : {X : Type 0} (p q : X → Bool) (xs : List X) → ((x : X) → p x ≡ q x) → filter p xs ≡ filter q xs
filter_same p q xs same = λ i. filter (λ x. same x i) xs

-- after a row was put
pub filter_put : {X : Type 0} (key : X → ℕ) (test : X → Bool) (x : X) (m : ℕ) (xs : List X) → RisesFrom key m xs →
    filter test (put_by key x xs) ≡ cond (test x) (put_by key x (filter test xs)) (without key (key x) (filter test xs))
filter_put key test x m [] r = refl
filter_put {X} key test x m (y ∷ ys) r = ⊎_elim
    (λ l. ap (filter test) (put_before key x y ys l) ∙ before (key y) (y ∷ ys) l (omega arith, r.1))
    (λ h. ⊎_elim
    (λ l. ap (filter test) (put_after key x y ys l) ∙ behind l (filter_put key test x (suc (key y)) ys r.1))
    (λ l. let e : key x ≡ key y = omega arith in ap (filter test) (put_first key x y ys e) ∙ instead e)
    (below_or (key y) (key x)))
    (below_or (key x) (key y))
  where
    -- it is below all
    before : (n : ℕ) (zs : List X) → key x < n → RisesFrom key n zs → cond (test x) (x ∷ filter test zs) (filter test zs)
        ≡ cond (test x) (put_by key x (filter test zs)) (without key (key x) (filter test zs))
    before n zs l up =
        let kept = rises-filter key test n zs up in
        λ i. cond (test x) (sym (put_below key x n (filter test zs) l kept) i) (sym (without_below key (key x) n (filter test zs) l kept) i)

    -- it is behind the first
    behind : key y < key x → filter test (put_by key x ys) ≡ cond (test x) (put_by key x (filter test ys)) (without key (key x) (filter test ys)) →
        cond (test y) (y ∷ filter test (put_by key x ys)) (filter test (put_by key x ys))
        ≡ cond (test x) (put_by key x (cond (test y) (y ∷ filter test ys) (filter test ys))) (without key (key x) (cond (test y) (y ∷ filter test ys) (filter test ys)))
    behind l rest = by_first (test y)
      where
        by_first : (t : Bool) → cond t (y ∷ filter test (put_by key x ys)) (filter test (put_by key x ys))
            ≡ cond (test x) (put_by key x (cond t (y ∷ filter test ys) (filter test ys))) (without key (key x) (cond t (y ∷ filter test ys) (filter test ys)))
        by_first false = rest
        by_first true = ap (λ zs. y ∷ zs) rest ∙ by_put (test x)
          where
            by_put : (t : Bool) → y ∷ cond t (put_by key x (filter test ys)) (without key (key x) (filter test ys))
                ≡ cond t (put_by key x (y ∷ filter test ys)) (without key (key x) (y ∷ filter test ys))
            by_put true = sym (put_after key x y (filter test ys) l)
            by_put false = sym (without_next key (key x) y (filter test ys) false (ne_eqb (key y) (key x) (λ e. omega (arith, e, l))))

    -- it takes the place of the first
    instead : key x ≡ key y → cond (test x) (x ∷ filter test ys) (filter test ys)
        ≡ cond (test x) (put_by key x (cond (test y) (y ∷ filter test ys) (filter test ys))) (without key (key x) (cond (test y) (y ∷ filter test ys) (filter test ys)))
    instead e = before (suc (key y)) ys (omega (arith, e)) r.1 ∙ by_first (test y)
      where
        up : RisesFrom key (suc (key y)) (filter test ys)
        up = rises-filter key test (suc (key y)) ys r.1

        by_first : (t : Bool) → cond (test x) (put_by key x (filter test ys)) (without key (key x) (filter test ys))
            ≡ cond (test x) (put_by key x (cond t (y ∷ filter test ys) (filter test ys))) (without key (key x) (cond t (y ∷ filter test ys) (filter test ys)))
        by_first false = refl
        by_first true =
            let l : key x < suc (key y) = omega (arith, e) in
            λ i. cond (test x) ((put_below key x (suc (key y)) (filter test ys) l up ∙ sym (put_first key x y (filter test ys) e)) i)
            (sym (without_next key (key x) y (filter test ys) true (eq-eqb (key y) (key x) (sym e))) i)

-- after a row was changed, where it passes as before
pub filter_changed : {X : Type 0} (key : X → ℕ) (test : X → Bool) (n : ℕ) (f : X → X) (xs : List X) → ((x : X) → test (f x) ≡ test x) →
    filter test (map (λ x. cond (key x == n) (f x) x) xs) ≡ map (λ x. cond (key x == n) (f x) x) (filter test xs)
filter_changed key test n f [] same = refl
filter_changed {X} key test n f (x ∷ xs) same = by_key (key x == n) refl (test x) refl (filter_changed key test n f xs same)
  where
    g : X → X
    g = λ y. cond (key y == n) (f y) y

    by_key : (t : Bool) → key x == n ≡ t → (u : Bool) → test x ≡ u → filter test (map g xs) ≡ map g (filter test xs) →
        cond (test (cond t (f x) x)) (cond t (f x) x ∷ filter test (map g xs)) (filter test (map g xs)) ≡ map g (cond u (x ∷ filter test xs) (filter test xs))
    by_key true a true b rest = ap (λ k. cond k (f x ∷ filter test (map g xs)) (filter test (map g xs))) (same x ∙ b) ∙ (λ i. cond (sym a i) (f x) x ∷ rest i)
    by_key true a false b rest = ap (λ k. cond k (f x ∷ filter test (map g xs)) (filter test (map g xs))) (same x ∙ b) ∙ rest
    by_key false a true b rest = ap (λ k. cond k (x ∷ filter test (map g xs)) (filter test (map g xs))) b ∙ (λ i. cond (sym a i) (f x) x ∷ rest i)
    by_key false a false b rest = ap (λ k. cond k (x ∷ filter test (map g xs)) (filter test (map g xs))) b ∙ rest

-- and where it no longer passes
pub filter_stopped : {X : Type 0} (key : X → ℕ) (test : X → Bool) (n : ℕ) (f : X → X) (xs : List X) → ((x : X) → test (f x) ≡ false) →
    filter test (map (λ x. cond (key x == n) (f x) x) xs) ≡ without key n (filter test xs)
filter_stopped key test n f [] none = refl
filter_stopped {X} key test n f (x ∷ xs) none = by_key (key x == n) refl (test x) refl (filter_stopped key test n f xs none)
  where
    g : X → X
    g = λ y. cond (key y == n) (f y) y

    by_key : (t : Bool) → key x == n ≡ t → (u : Bool) → test x ≡ u → filter test (map g xs) ≡ without key n (filter test xs) →
        cond (test (cond t (f x) x)) (cond t (f x) x ∷ filter test (map g xs)) (filter test (map g xs)) ≡ without key n (cond u (x ∷ filter test xs) (filter test xs))
    by_key true a true b rest = ap (λ k. cond k (f x ∷ filter test (map g xs)) (filter test (map g xs))) (none x) ∙ rest ∙ sym (without_next key n x (filter test xs) true a)
    by_key true a false b rest = ap (λ k. cond k (f x ∷ filter test (map g xs)) (filter test (map g xs))) (none x) ∙ rest
    by_key false a true b rest = ap (λ k. cond k (x ∷ filter test (map g xs)) (filter test (map g xs))) b ∙ ap (λ zs. x ∷ zs) rest ∙ sym (without_next key n x (filter test xs) false a)
    by_key false a false b rest = ap (λ k. cond k (x ∷ filter test (map g xs)) (filter test (map g xs))) b ∙ rest

-- ---- rows put one after another

-- behind a row that is below them
puts_behind : {X : Type 0} (key : X → ℕ) (x : X) (ys : List X) (m : ℕ) (zs : List X) → key x < m → RisesFrom key m zs →
    fold (λ rs z. put_by key z rs) (x ∷ ys) zs ≡ x ∷ fold (λ rs z. put_by key z rs) ys zs
puts_behind key x ys m [] l r = refl
puts_behind key x ys m (z ∷ zs) l r =
    let above : m ≤ key z = r.0 in
    ap (λ rs. fold (λ ws w. put_by key w ws) rs zs) (put_after key z x ys (omega arith)) ∙ puts_behind key x (put_by key z ys) (suc (key z)) zs (omega arith) r.1

-- those of some rows that pass one test, put among those that pass another
pub puts_passing : {X : Type 0} (key : X → ℕ) (p q : X → Bool) (m : ℕ) (xs : List X) → RisesFrom key m xs →
    fold (λ rs z. put_by key z rs) (filter q xs) (filter p xs) ≡ filter (λ x. p x || q x) xs
puts_passing key p q m [] r = refl
puts_passing {X} key p q m (x ∷ xs) r = by_tests (p x) (q x) (puts_passing key p q (suc (key x)) xs r.1)
  where
    up_p : RisesFrom key (suc (key x)) (filter p xs)
    up_p = rises-filter key p (suc (key x)) xs r.1

    up_q : RisesFrom key (suc (key x)) (filter q xs)
    up_q = rises-filter key q (suc (key x)) xs r.1

    first : key x < suc (key x)
    first = omega arith

    both : List X
    both = filter (λ y. p y || q y) xs

    more : List X → List X
    more ys = fold (λ rs z. put_by key z rs) ys (filter p xs)

    by_tests : (s t : Bool) → more (filter q xs) ≡ both →
        fold (λ rs z. put_by key z rs) (cond t (x ∷ filter q xs) (filter q xs)) (cond s (x ∷ filter p xs) (filter p xs)) ≡ cond (s || t) (x ∷ both) both
    by_tests true true rest = ap more (put_first key x x (filter q xs) refl) ∙ puts_behind key x (filter q xs) (suc (key x)) (filter p xs) first up_p ∙ ap (λ zs. x ∷ zs) rest
    by_tests true false rest = ap more (put_below key x (suc (key x)) (filter q xs) first up_q) ∙ puts_behind key x (filter q xs) (suc (key x)) (filter p xs) first up_p ∙ ap (λ zs. x ∷ zs) rest
    by_tests false true rest = puts_behind key x (filter q xs) (suc (key x)) (filter p xs) first up_p ∙ ap (λ zs. x ∷ zs) rest
    by_tests false false rest = rest
