-- Numbers that stand once.
use Rattle.std.proofs.Common.{◌≡◌, ℕ, suc, ◌<◌, List, [], ◌∷◌, ◌++◌, length, get_or, ⊎_elim, arith, sym}
use Rattle.gate_types.specs.Lawful.{IsDistinct}
use Rattle.gate_types.specs.Rising.{In}
use Rattle.gate_laws.proofs.Members.{to_left}

-- no number stands twice, by recursion
abbrev pub Once : List ℕ → Type 0
Once [] = Unit {0}
Once (n ∷ ns) = (In n ns → ⊥) × Once ns

at : (ns : List ℕ) (n : ℕ) → In n ns → (k : ℕ) × (k < length ns) × (get_or ns k 0 ≡ n)
at [] n m = absurd m
at (x ∷ xs) n m =
    ⊎_elim (λ (e : x ≡ n). (0, omega arith, e)) (λ (r : In n xs). let h = at xs n r in (suc h.0, omega (arith, h.1), h.2)) m

pub once : (ns : List ℕ) → IsDistinct ns → Once ns
once [] h = tt
once (n ∷ ns) h = (
  (λ m. let a = at ns n m in h 0 (suc a.0) 0 (omega arith) (omega (arith, a.1)) (sym a.2)),
  once ns (λ i j d a b. h (suc i) (suc j) d (omega (arith, a)) (omega (arith, b))),
)

pub once_left : (xs ys : List ℕ) → Once (xs ++ ys) → Once xs
once_left [] ys h = tt
once_left (x ∷ xs) ys h = ((λ m. h.0 (to_left xs ys x m)), once_left xs ys h.1)

pub once_right : (xs ys : List ℕ) → Once (xs ++ ys) → Once ys
once_right [] ys h = h
once_right (x ∷ xs) ys h = once_right xs ys h.1
