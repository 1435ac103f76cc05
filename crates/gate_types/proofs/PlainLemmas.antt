-- Truth values, numbers, options and lists.
use Rattle.std.proofs.Common.{◌≡◌, Bool, true, false, ◌&&◌, cond, refl, sym, ℕ, suc, ◌<◌, ◌≤◌, ◌⊎◌, inl, inr, ⊎_elim}
use Rattle.std.proofs.Common.{Option, Some, None, List, [], ◌∷◌, ◌++◌, ap, true≢false, arith, ◌||◌, map}
use Rattle.std.specs.Prelude.{unwrap_or, filter}
use Rattle.std.specs.List.{AllByRecursion, list_any}
use Rattle.std.proofs.lemmas.Bool.Decides.{leb_tells}

pub and_false : (b : Bool) → b && false ≡ false
and_false true = refl
and_false false = refl

pub or_true : (b : Bool) → b || true ≡ true
or_true true = refl
or_true false = refl

pub or_false : (b : Bool) → b || false ≡ b
or_false true = refl
or_false false = refl

pub same_truth : (a b : Bool) → (a ≡ true → b ≡ true) → (b ≡ true → a ≡ true) → a ≡ b
same_truth true b f g = sym (f refl)
same_truth false true f g = g refl
same_truth false false f g = refl

-- the fifth of eight
pub fifth_of_eight : (a b c d e f g h : Bool) → a && b && c && d && e && f && g && h ≡ true → e ≡ true
fifth_of_eight a b c d true f g h k = refl
fifth_of_eight true true true true false f g h k = absurd (true≢false (sym k))
fifth_of_eight true true true false false f g h k = absurd (true≢false (sym k))
fifth_of_eight true true false d false f g h k = absurd (true≢false (sym k))
fifth_of_eight true false c d false f g h k = absurd (true≢false (sym k))
fifth_of_eight false b c d false f g h k = absurd (true≢false (sym k))

pub below_or : (a b : ℕ) → (a < b) ⊎ (b ≤ a)
below_or a b = ⊎_elim (λ t. inl (omega (arith, t.1))) (λ t. inr (omega (arith, t.1))) (leb_tells (suc a) b)

pub some_is : (a b : ℕ) → Some a ≡ Some b → a ≡ b
some_is a b e = ap (λ (o : Option ℕ). unwrap_or o a) e

-- an option that is no value is none
pub none_unless : {A : Type 0} (o : Option A) → ((u : A) → o ≡ Some u → ⊥) → o ≡ None
none_unless None h = refl
none_unless (Some u) h = absurd (h u refl)

-- a test of some item of a list, seen by a function
pub list_any_map : {X Y : Type 0} (p : Y → Bool) (f : X → Y) (xs : List X) →
    list_any p (map f xs) ≡ list_any (λ x. p (f x)) xs
list_any_map p f [] = refl
list_any_map p f (x ∷ xs) = ap (λ b. p (f x) || b) (list_any_map p f xs)

-- what two filters keep
pub filter_twice : {X : Type 0} (p q : X → Bool) (xs : List X) → filter q (filter p xs) ≡ filter (λ x. p x && q x) xs
filter_twice p q [] = refl
filter_twice {X = X} p q (x ∷ xs) = by_test (p x) (filter_twice p q xs)
  where
    by_test : (b : Bool) → filter q (filter p xs) ≡ filter (λ y. p y && q y) xs →
        filter q (cond b (x ∷ filter p xs) (filter p xs))
        ≡ cond (b && q x) (x ∷ filter (λ y. p y && q y) xs) (filter (λ y. p y && q y) xs)
    by_test true rest = ap (λ l. cond (q x) (x ∷ l) l) rest
    by_test false rest = rest

-- what is true of all stays so with one more
pub all_push : {X : Type 0} (P : X → Type 0) (xs : List X) (x : X) → AllByRecursion P xs → P x →
    AllByRecursion P (xs ++ x ∷ [])
all_push P [] x all last = (last, tt)
all_push P (y ∷ xs) x all last = (all.0, all_push P xs x all.1 last)
