-- What is found in a list, and what is so of all of it.
use Rattle.std.proofs.Common.{◌≡◌, ℕ, zero, suc, ◌<◌, ◌≤◌, inl, inr, ⊎_elim, Bool, true, false, cond, Some, List, []}
use Rattle.std.proofs.Common.{◌∷◌, length, drop, get_or, map, refl, sym, ap, subst, ◌∙◌, eqb-true, arith}
use Rattle.std.specs.Prelude.{◌==◌, find, option_map, unwrap_or}
use Rattle.std.specs.List.{AllByRecursion}
use Rattle.std.proofs.lemmas.Option.{none-some}
use Rattle.gate_types.specs.Rising.{In}

-- what is found among the images
pub find_map : {X Y : Type 0} (f : X → Y) (test : Y → Bool) (xs : List X) → find test (map f xs) ≡ option_map f (find (λ x. test (f x)) xs)
find_map f test [] = refl
find_map f test (x ∷ xs) = by_test (test (f x)) (find_map f test xs)
  where
    by_test : (t : Bool) → find test (map f xs) ≡ option_map f (find (λ y. test (f y)) xs) → cond t (Some (f x)) (find test (map f xs)) ≡ option_map f (cond t (Some x) (find (λ y. test (f y)) xs))
    by_test true rest = refl
    by_test false rest = rest

-- what is so of all is so of what is found
pub all_found : {X : Type 0} (P : X → Type 0) (test : X → Bool) (xs : List X) (x : X) → AllByRecursion P xs → Some x ≡ find test xs → P x
all_found P test [] x all e = absurd (none-some x (sym e))
all_found P test (y ∷ ys) x all e = by_test (test y) e (λ f. all_found P test ys x all.1 f)
  where
    by_test : (t : Bool) → Some x ≡ cond t (Some y) (find test ys) → (Some x ≡ find test ys → P x) → P x
    by_test true e rest = let same : y ≡ x = cc in subst P same all.0
    by_test false e rest = rest e

-- the rest of a list, from a place on
pub rest_at : {X : Type 0} (xs : List X) (k : ℕ) (d : X) → k < length xs → drop k xs ≡ get_or xs k d ∷ drop (suc k) xs
rest_at [] k d l = absurd (omega arith)
rest_at (x ∷ xs) zero d l = refl
rest_at (x ∷ xs) (suc k) d l = rest_at xs k d (omega arith)

pub rest_none : {X : Type 0} (xs : List X) (k : ℕ) → length xs ≤ k → drop k xs ≡ []
rest_none [] zero l = refl
rest_none [] (suc k) l = refl
rest_none (x ∷ xs) zero l = absurd (omega arith)
rest_none (x ∷ xs) (suc k) l = rest_none xs k (omega arith)

-- a look from a row on
pub find_rest : {X : Type 0} (test : X → Bool) (xs : List X) (k : ℕ) (x : X) → k < length xs → x ≡ get_or xs k x → find test (drop k xs) ≡ cond (test x) (Some x) (find test (drop (suc k) xs))
find_rest test xs k x l at = ap (find test) (rest_at xs k x l ∙ ap (λ y. y ∷ drop (suc k) xs) (sym at))

pub in_weaker : {X : Type 0} (P Q : X → Type 0) → ((x : X) → P x → Q x) → (xs : List X) → AllByRecursion P xs → AllByRecursion Q xs
in_weaker P Q h [] all = tt
in_weaker P Q h (x ∷ xs) all = (h x all.0, in_weaker P Q h xs all.1)

pub all_in : {X : Type 0} (P : X → Type 0) (xs : List X) (x : X) → AllByRecursion P xs → In x xs → P x
all_in P [] x all there = absurd there
all_in P (y ∷ ys) x all there = ⊎_elim (λ e. subst P e all.0) (λ t. all_in P ys x all.1 t) there

-- what is found has its key
pub found_has : {X : Type 0} (key : X → ℕ) (n : ℕ) (x : X) (xs : List X) → Some x ≡ find (λ y. key y == n) xs → key x ≡ n
found_has key n x [] e = absurd (none-some x (sym e))
found_has key n x (y ∷ ys) e = by_key (key y == n) refl e (found_has key n x ys)
  where
    by_key : (t : Bool) → key y == n ≡ t → Some x ≡ cond t (Some y) (find (λ z. key z == n) ys) → (Some x ≡ find (λ z. key z == n) ys → key x ≡ n) → key x ≡ n
    by_key true h e rest = ap (λ o. key (unwrap_or o x)) e ∙ eqb-true (key y) n h
    by_key false h e rest = rest e

-- what is found is there
pub found_in : {X : Type 0} (test : X → Bool) (xs : List X) (x : X) → find test xs ≡ Some x → In x xs
found_in test [] x e = absurd (none-some x e)
found_in test (y ∷ ys) x e = by_test (test y) e (found_in test ys x)
  where
    by_test : (t : Bool) → cond t (Some y) (find test ys) ≡ Some x → (find test ys ≡ Some x → In x ys) → In x (y ∷ ys)
    by_test true e rest = inl (ap (λ o. unwrap_or o y) e)
    by_test false e rest = inr (rest e)
