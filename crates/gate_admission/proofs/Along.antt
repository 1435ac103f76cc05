-- Tests along a list, from a place on.
use Rattle.std.proofs.Common.{◌≡◌, ℕ, zero, suc, ◌+◌, ◌<◌, ◌≤◌, Bool, true, false, not, ◌&&◌, ◌||◌, cond, List, []}
use Rattle.std.proofs.Common.{◌∷◌, ◌++◌, filter, take, drop, length, get_or, refl, sym, ap, ◌∙◌, arith, add-one}
use Rattle.std.specs.List.{list_all, list_any}
use Rattle.std.proofs.lemmas.Bool.{or_parts}

pub all_step : {X : Type 0} (t : X → Bool) (xs : List X) (k : ℕ) (x : X) → k < length xs → x ≡ get_or xs k x →
    list_all t (drop k xs) ≡ (t x && list_all t (drop (k + 1) xs))
all_step t [] k x l e = absurd (omega (arith, l))
all_step t (y ∷ ys) zero x l e = ap (λ z. t z && list_all t ys) (sym e)
all_step t (y ∷ ys) (suc k) x l e =
    all_step t ys k x (omega (arith, l)) e ∙ ap (λ n. t x && list_all t (drop n ys)) (add-one k)
    ∙ sym (ap (λ n. t x && list_all t (drop n (y ∷ ys))) (add-one (suc k)))

pub all_end : {X : Type 0} (t : X → Bool) (xs : List X) (k : ℕ) → length xs ≤ k → list_all t (drop k xs) ≡ true
all_end t [] zero l = refl
all_end t [] (suc k) l = refl
all_end t (y ∷ ys) zero l = absurd (omega (arith, l))
all_end t (y ∷ ys) (suc k) l = all_end t ys k (omega (arith, l))

-- one more is looked at: it stays unless it passes
pub filter_step : {X : Type 0} (p : X → Bool) (xs : List X) (k : ℕ) (x : X) → k < length xs → x ≡ get_or xs k x →
    filter (λ y. not (p y)) (take (k + 1) xs) ≡ filter (λ y. not (p y)) (take k xs) ++ cond (p x) [] (x ∷ [])
filter_step p xs k x l e = ap (λ n. filter (λ y. not (p y)) (take n xs)) (add-one k) ∙ along p xs k x l e
  where
    along : {X : Type 0} (p : X → Bool) (xs : List X) (k : ℕ) (x : X) → k < length xs → x ≡ get_or xs k x →
        filter (λ y. not (p y)) (take (suc k) xs) ≡ filter (λ y. not (p y)) (take k xs) ++ cond (p x) [] (x ∷ [])
    along p [] k x l e = absurd (omega (arith, l))
    along p (y ∷ ys) zero x l e = ap (λ z. cond (not (p z)) (z ∷ []) []) (sym e) ∙ by_test (p x)
      where
        by_test : (b : Bool) → cond (not b) (x ∷ []) [] ≡ cond b [] (x ∷ [])
        by_test true = refl
        by_test false = refl
    along p (y ∷ ys) (suc k) x l e = by_test (p y) (along p ys k x (omega (arith, l)) e)
      where
        by_test : (b : Bool) →
            filter (λ z. not (p z)) (take (suc k) ys) ≡ filter (λ z. not (p z)) (take k ys) ++ cond (p x) [] (x ∷ []) →
            cond (not b) (y ∷ filter (λ z. not (p z)) (take (suc k) ys)) (filter (λ z. not (p z)) (take (suc k) ys)) ≡
            cond (not b) (y ∷ filter (λ z. not (p z)) (take k ys)) (filter (λ z. not (p z)) (take k ys)) ++
            cond (p x) [] (x ∷ [])
        by_test true h = h
        by_test false h = ap (λ l. y ∷ l) h

-- one more that doesn't pass, where none before did
pub any_step : {X : Type 0} (t : X → Bool) (xs : List X) (k : ℕ) (x : X) → k < length xs → x ≡ get_or xs k x →
    t x ≡ false → list_any t (take k xs) ≡ false → list_any t (take (k + 1) xs) ≡ false
any_step t xs k x l e f h = ap (λ n. list_any t (take n xs)) (add-one k) ∙ along t xs k x l e f h
  where
    along : {X : Type 0} (t : X → Bool) (xs : List X) (k : ℕ) (x : X) → k < length xs → x ≡ get_or xs k x →
        t x ≡ false → list_any t (take k xs) ≡ false → list_any t (take (suc k) xs) ≡ false
    along t [] k x l e f h = refl
    along t (y ∷ ys) zero x l e f h = ap (λ z. t z || false) (sym e) ∙ ap (λ b. b || false) f
    along t (y ∷ ys) (suc k) x l e f h =
        let both = or_parts (t y) (list_any t (take k ys)) h in
        ap (λ b. b || list_any t (take (suc k) ys)) both.0 ∙ along t ys k x (omega (arith, l)) e f both.1

-- all were looked at
pub any_end : {X : Type 0} (t : X → Bool) (xs : List X) (k : ℕ) → length xs ≤ k → list_any t (take k xs) ≡ false →
    list_any t xs ≡ false
any_end t [] k l h = refl
any_end t (y ∷ ys) zero l h = absurd (omega (arith, l))
any_end t (y ∷ ys) (suc k) l h =
    let both = or_parts (t y) (list_any t (take k ys)) h in
    ap (λ b. b || list_any t ys) both.0 ∙ any_end t ys k (omega (arith, l)) both.1
