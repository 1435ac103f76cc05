-- Tests that agree, and what is found and kept by them.
use Rattle.std.proofs.Common.{◌≡◌, ℕ, Bool, true, false, ◌&&◌, cond, Some, List, [], ◌∷◌, map, inl, inr, refl}
use Rattle.std.proofs.Common.{sym, ap, ◌∙◌, subst}
use Rattle.std.specs.Prelude.{◌==◌, filter, find}
use Rattle.std.specs.List.{list_any}
use Rattle.std.proofs.lemmas.Bool.{eqb-true, eq-eqb}
use Rattle.gate_laws.proofs.Members.{any_from, any_to}
use Rattle.gate_laws.proofs.Elements.{rest_of}
use Rattle.gate_types.proofs.PlainLemmas.{same_truth}
use Rattle.gate_types.specs.Rising.{In}

-- ---- tests

pub find_same : {X : Type 0} (p q : X → Bool) (xs : List X) → ((x : X) → In x xs → p x ≡ q x) → find p xs ≡ find q xs
find_same p q [] h = refl
find_same p q (x ∷ xs) h = λ k. cond (h x (inl refl) k) (Some x) (find_same p q xs (λ y m. h y (inr m)) k)

pub find_kept : {X : Type 0} (p q : X → Bool) (xs : List X) → find p (filter q xs) ≡ find (λ x. q x && p x) xs
find_kept p q [] = refl
find_kept {X = X} p q (x ∷ xs) = by_test (q x) (find_kept p q xs)
  where
    by_test : (b : Bool) → find p (filter q xs) ≡ find (λ y. q y && p y) xs →
        find p (cond b (x ∷ filter q xs) (filter q xs)) ≡ cond (b && p x) (Some x) (find (λ y. q y && p y) xs)
    by_test true rest = ap (λ o. cond (p x) (Some x) o) rest
    by_test false rest = rest

-- whichever list is gone through first
pub any_swapped : (xs ys : List ℕ) →
    list_any (λ x. list_any (λ y. y == x) ys) xs ≡ list_any (λ y. list_any (λ x. x == y) xs) ys
any_swapped xs ys = same_truth _ _
    (λ e. let a = any_from (λ x. list_any (λ y. y == x) ys) xs e in let b = any_from (λ y. y == a.0) ys a.2 in
    any_to (λ y. list_any (λ x. x == y) xs) ys b.0 b.1
    (any_to (λ x. x == b.0) xs a.0 a.1 (eq-eqb a.0 b.0 (sym (eqb-true b.0 a.0 b.2)))))
    (λ e. let a = any_from (λ y. list_any (λ x. x == y) xs) ys e in let b = any_from (λ x. x == a.0) xs a.2 in
    any_to (λ x. list_any (λ y. y == x) ys) xs b.0 b.1
    (any_to (λ y. y == b.0) ys a.0 a.1 (eq-eqb a.0 b.0 (sym (eqb-true b.0 a.0 b.2)))))

-- ---- lists

-- a list's first, or this; and the rest
abbrev pub first_or : {X : Type 0} → X → List X → X
first_or d [] = d
first_or d (x ∷ xs) = x

-- what two functions make of the items of a list is the same, item by item
pub each_same : {X Y : Type 0} (f g : X → Y) (xs : List X) → map f xs ≡ map g xs → (x : X) → In x xs → f x ≡ g x
each_same f g [] h x m = absurd m
each_same f g (y ∷ ys) h x m = elim m [
  | inl e ↦ subst (λ z. f z ≡ g z) e (ap (first_or (f y)) h)
  | inr n ↦ each_same f g ys (ap rest_of h) x n
]

-- a filter by what a function keeps
pub filter_kept : {X : Type 0} (p : X → Bool) (f : X → X) → ((x : X) → p (f x) ≡ p x) → (xs : List X) →
    filter p (map f xs) ≡ map f (filter p xs)
filter_kept p f h [] = refl
filter_kept {X = X} p f h (x ∷ xs) =
    ap (λ b. cond b (f x ∷ filter p (map f xs)) (filter p (map f xs))) (h x)
    ∙ ap (λ l. cond (p x) (f x ∷ l) l) (filter_kept p f h xs) ∙ by_test (p x)
  where
    by_test : (b : Bool) → cond b (f x ∷ map f (filter p xs)) (map f (filter p xs)) ≡ map f
        (cond b (x ∷ filter p xs) (filter p xs))
    by_test true = refl
    by_test false = refl
