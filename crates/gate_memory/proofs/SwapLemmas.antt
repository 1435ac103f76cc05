-- Two rows of a list in each other's position.
use Rattle.std.proofs.Common.{◌≡◌, ℕ, zero, suc, ◌+◌, ◌<◌, ◌≤◌, ⊎_elim, Bool, true, false, cond, List, [], ◌∷◌, ◌++◌}
use Rattle.std.proofs.Common.{length, take, drop, get_or, set, refl, sym, ap, subst, ◌∙◌, append_assoc, arith}
use Rattle.std.specs.Prelude.{filter}
use Rattle.std.specs.List.{swap}
use Rattle.gate_book_trait.proofs.Finding.{rest_at}
use Rattle.gate_memory.proofs.SortedLemmas.{get_or_any}
use Rattle.gate_types.proofs.PlainLemmas.{below_or}

-- rows set at two positions: what stands up to the first, and behind the second
front : {X : Type 0} (i j : ℕ) (a b : X) (xs : List X) → i < j → i < length xs → take (suc i) (set (set xs i a) j b) ≡ take i xs ++ a ∷ []
front i j a b [] l h = absurd (omega arith)
front i zero a b (x ∷ xs) l h = absurd (omega arith)
front zero (suc j) a b (x ∷ xs) l h = refl
front (suc i) (suc j) a b (x ∷ xs) l h = ap (λ ys. x ∷ ys) (front i j a b xs (omega arith) (omega arith))

front_same : {X : Type 0} (i : ℕ) (a b : X) (xs : List X) → i < length xs → take (suc i) (set (set xs i a) i b) ≡ take i xs ++ b ∷ []
front_same i a b [] h = absurd (omega arith)
front_same zero a b (x ∷ xs) h = refl
front_same (suc i) a b (x ∷ xs) h = ap (λ ys. x ∷ ys) (front_same i a b xs (omega arith))

behind_one : {X : Type 0} (j : ℕ) (b : X) (xs : List X) → drop (suc j) (set xs j b) ≡ drop (suc j) xs
behind_one j b [] = refl
behind_one zero b (x ∷ xs) = refl
behind_one (suc j) b (x ∷ xs) = behind_one j b xs

behind : {X : Type 0} (i j : ℕ) (a b : X) (xs : List X) → i ≤ j → drop (suc j) (set (set xs i a) j b) ≡ drop (suc j) xs
behind i j a b [] l = refl
behind zero zero a b (x ∷ xs) l = refl
behind (suc i) zero a b (x ∷ xs) l = absurd (omega arith)
behind zero (suc j) a b (x ∷ xs) l = behind_one j b xs
behind (suc i) (suc j) a b (x ∷ xs) l = behind i j a b xs (omega arith)

-- a row moved up
pub swapped_front : {X : Type 0} (i j : ℕ) (xs : List X) (d : X) → i ≤ j → j < length xs → take (suc i) (swap xs i j) ≡ take i xs ++ get_or xs j d ∷ []
swapped_front i j [] d l h = absurd (omega arith)
swapped_front {X} i j (x ∷ xs) d l h = ⊎_elim
    (λ s. front i j (get_or (x ∷ xs) j x) (get_or (x ∷ xs) i x) (x ∷ xs) s (omega arith))
    (λ s. let e : i ≡ j = omega arith in same e)
    (below_or i j)
    ∙ ap (λ y. take i (x ∷ xs) ++ y ∷ []) (get_or_any (x ∷ xs) j x d h)
  where
    same : i ≡ j → take (suc i) (swap (x ∷ xs) i j) ≡ take i (x ∷ xs) ++ get_or (x ∷ xs) j x ∷ []
    same e = subst (λ k. take (suc i) (swap (x ∷ xs) i k) ≡ take i (x ∷ xs) ++ get_or (x ∷ xs) k x ∷ []) e
        (front_same i (get_or (x ∷ xs) i x) (get_or (x ∷ xs) i x) (x ∷ xs) (omega arith))

pub swapped_behind : {X : Type 0} (i j : ℕ) (xs : List X) → i ≤ j → drop (suc j) (swap xs i j) ≡ drop (suc j) xs
swapped_behind i j [] l = refl
swapped_behind i j (x ∷ xs) l = behind i j (get_or (x ∷ xs) j x) (get_or (x ∷ xs) i x) (x ∷ xs) l

-- ---- rows that pass a test, one after another

pub left_out : {X : Type 0} (test : X → Bool) (xs : List X) (i j : ℕ) (x : X) → j < length xs → x ≡ get_or xs j x → test x ≡ false →
    take i xs ++ filter test (drop (j + 1) xs) ≡ take i xs ++ filter test (drop j xs)
left_out {X} test xs i j x l at fails =
    let step : j + 1 ≡ suc j = omega arith in
    ap (λ k. take i xs ++ filter test (drop k xs)) step
    ∙ sym (ap (λ ys. take i xs ++ filter test ys) (rest_at xs j x l ∙ ap (λ y. y ∷ drop (suc j) xs) (sym at)) ∙ ap (λ t. take i xs ++ cond t (x ∷ filter test (drop (suc j) xs)) (filter test (drop (suc j) xs))) fails)

pub moved_up : {X : Type 0} (test : X → Bool) (xs ys : List X) (i j : ℕ) (x : X) → i ≤ j → j < length xs → x ≡ get_or xs j x → test x ≡ true → ys ≡ swap xs i j →
    take (i + 1) ys ++ filter test (drop (j + 1) ys) ≡ take i xs ++ filter test (drop j xs)
moved_up {X} test xs ys i j x l h at passes is =
    let first : i + 1 ≡ suc i = omega arith in
    let next : j + 1 ≡ suc j = omega arith in
    (λ k. take (first k) (is k) ++ filter test (drop (next k) (is k)))
    ∙ (λ k. swapped_front i j xs x l h k ++ filter test (swapped_behind i j xs l k))
    ∙ ap (λ y. (take i xs ++ y ∷ []) ++ filter test (drop (suc j) xs)) (sym at)
    ∙ append_assoc (take i xs) (x ∷ []) (filter test (drop (suc j) xs))
    ∙ sym (ap (λ zs. take i xs ++ filter test zs) (rest_at xs j x h ∙ ap (λ y. y ∷ drop (suc j) xs) (sym at)) ∙ ap (λ t. take i xs ++ cond t (x ∷ filter test (drop (suc j) xs)) (filter test (drop (suc j) xs))) passes)
