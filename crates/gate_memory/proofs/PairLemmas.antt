-- Pairs and their keys.
use Rattle.std.proofs.Common.{◌≡◌, ℕ, suc, ◌+◌, ◌≤◌, inl, inr, ⊎_elim, Bool, true, false, not, cond, Option, List, []}
use Rattle.std.proofs.Common.{◌∷◌, map, refl, sym, ap, subst, ◌∙◌, arith}
use Rattle.std.specs.Prelude.{◌==◌, ◌&&◌, nat_lt, nat_le, filter}
use Rattle.std.specs.List.{AllByRecursion, filter_map, cons_option}
use Rattle.std.proofs.lemmas.Bool.{eq-eqb, false≢true, le-ltb, lt-ltb, le-leb, lt-leb}
use Rattle.std.proofs.lemmas.Bool.Decides.{eqb_tells}
use Rattle.gate_types.specs.Rising.{RisesFrom, In}
use Rattle.gate_memory.specs.declared.pairs.Pair.{Pair}
use Rattle.gate_memory.specs.Pairs.{pair_key, IsFit}
use Rattle.gate_types.proofs.PlainLemmas.{below_or}

-- no two pairs have one key
pub same_pair : (p q : Pair) → IsFit p → IsFit q → pair_key p ≡ pair_key q → p ≡ q
same_pair p q fp fq e =
    let first : p.first ≡ q.first = omega (arith, e, fp, fq) in
    let second : p.second ≡ q.second = omega (arith, e, fp, fq) in
    λ i. record { first = first i; second = second i }

-- a pair of this first number lies between its least key and that of the next number
abbrev lies_in : ℕ → Pair → Bool
lies_in n p = nat_le (pair_key (record { first = n; second = 0 })) (pair_key p) && nat_lt (pair_key p) (pair_key (record { first = n + 1; second = 0 }))

lies : (n : ℕ) (p : Pair) → IsFit p → lies_in n p ≡ p.first == n
lies n p fit = ⊎_elim
    (λ t. (λ i. le-leb (pair_key (record { first = n; second = 0 })) (pair_key p) (omega (arith, t.1)) i && lt-ltb (pair_key p) (pair_key (record { first = n + 1; second = 0 })) (omega (arith, t.1, fit)) i) ∙ sym t.0)
    (λ t. ⊎_elim
    (λ l. ap (λ b. b && nat_lt (pair_key p) (pair_key (record { first = n + 1; second = 0 }))) (lt-leb (pair_key (record { first = n; second = 0 })) (pair_key p) (omega (arith, l, fit))) ∙ sym t.0)
    (λ l. ap (λ b. nat_le (pair_key (record { first = n; second = 0 })) (pair_key p) && b) (le-ltb (pair_key p) (pair_key (record { first = n + 1; second = 0 })) (omega (arith, l, t.1))) ∙ and_false (nat_le (pair_key (record { first = n; second = 0 })) (pair_key p)) ∙ sym t.0)
    (below_or p.first n))
    (eqb_tells p.first n)
  where
    and_false : (b : Bool) → b && false ≡ false
    and_false true = refl
    and_false false = refl

pub those_of_first : (n : ℕ) (ps : List Pair) → AllByRecursion IsFit ps → filter (lies_in n) ps ≡ filter (λ p. p.first == n) ps
those_of_first n [] fit = refl
those_of_first n (p ∷ ps) fit = λ i. cond (lies n p fit.0 i) (p ∷ those_of_first n ps fit.1 i) (those_of_first n ps fit.1 i)

pub those_of_others : (n : ℕ) (ps : List Pair) → AllByRecursion IsFit ps → filter (λ p. not (lies_in n p)) ps ≡ filter (λ p. not (p.first == n)) ps
those_of_others n [] fit = refl
those_of_others n (p ∷ ps) fit = λ i. cond (not (lies n p fit.0 i)) (p ∷ those_of_others n ps fit.1 i) (those_of_others n ps fit.1 i)

-- the second numbers of the pairs of a first number
abbrev pub seconds_of : ℕ → List Pair → List ℕ
seconds_of n ps = map (λ p. p.second) (filter (λ p. p.first == n) ps)

-- they rise
pub seconds_rise : (n m k : ℕ) (ps : List Pair) → RisesFrom pair_key m ps → ((p : Pair) → m ≤ pair_key p → p.first ≡ n → k ≤ p.second) → RisesFrom (λ (i : ℕ). i) k (seconds_of n ps)
seconds_rise n m k [] rise low = tt
seconds_rise n m k (p ∷ ps) rise low = ⊎_elim
    (λ t. subst (λ b. RisesFrom (λ (i : ℕ). i) k (map (λ (q : Pair). q.second) (cond b (p ∷ filter (λ q. q.first == n) ps) (filter (λ q. q.first == n) ps)))) (sym t.0)
    (low p rise.0 t.1, seconds_rise n (suc (pair_key p)) (suc p.second) ps rise.1 (λ q h e. omega (arith, h, e, t.1))))
    (λ t. subst (λ b. RisesFrom (λ (i : ℕ). i) k (map (λ (q : Pair). q.second) (cond b (p ∷ filter (λ q. q.first == n) ps) (filter (λ q. q.first == n) ps)))) (sym t.0)
    (seconds_rise n (suc (pair_key p)) k ps rise.1 (λ q h e. let above : m ≤ pair_key p = rise.0 in low q (omega arith) e)))
    (eqb_tells p.first n)

-- a pair's second number is one of them
pub second_in : (n : ℕ) (q : Pair) (ps : List Pair) → q.first ≡ n → In q ps → In q.second (seconds_of n ps)
second_in n q [] e there = absurd there
second_in n q (p ∷ ps) e there = by_first (p.first == n) refl (second_in n q ps e) there
  where
    by_first : (t : Bool) → p.first == n ≡ t → (In q ps → In q.second (seconds_of n ps)) → In q (p ∷ ps) → In q.second (map (λ (r : Pair). r.second) (cond t (p ∷ filter (λ r. r.first == n) ps) (filter (λ r. r.first == n) ps)))
    by_first true h rest there = ⊎_elim (λ s. inl (ap (λ (r : Pair). r.second) s)) (λ t. inr (rest t)) there
    by_first false h rest there = ⊎_elim (λ s. absurd (false≢true (sym h ∙ eq-eqb p.first n (ap (λ (r : Pair). r.first) s ∙ e)))) rest there

pub filter_map_seconds : {Y : Type 0} (h : ℕ → Option Y) (ps : List Pair) → filter_map (λ (p : Pair). h p.second) ps ≡ filter_map h (map (λ p. p.second) ps)
filter_map_seconds h [] = refl
filter_map_seconds h (p ∷ ps) = ap (cons_option (h p.second)) (filter_map_seconds h ps)
