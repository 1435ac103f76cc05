-- A loop that changes each row of a list.
use Rattle.std.proofs.Common.{◌≡◌, ℕ, zero, suc, ◌<◌, ◌≤◌, List, [], ◌∷◌, ◌++◌, length, take, drop, get_or, set, map}
use Rattle.std.proofs.Common.{refl, sym, ap, subst, ◌∙◌, arith}
use Rattle.std.specs.List.{AllByRecursion}

-- the first k rows are changed, the others are as they were
abbrev pub Done : {X : Type 0} → (X → X → Type 0) → ℕ → List X → List X → Type 0
Done T zero olds news = news ≡ olds
Done T (suc k) [] news = news ≡ []
Done T (suc k) (o ∷ os) [] = ⊥
Done T (suc k) (o ∷ os) (n ∷ ns) = T o n × Done T k os ns

-- a row that isn't changed yet
pub done_at : {X : Type 0} (T : X → X → Type 0) (k : ℕ) (olds news : List X) (d : X) → Done T k olds news → get_or news k d ≡ get_or olds k d
done_at T zero olds news d done = ap (λ xs. get_or xs 0 d) done
done_at T (suc k) [] news d done = ap (λ xs. get_or xs (suc k) d) done
done_at T (suc k) (o ∷ os) [] d done = absurd done
done_at T (suc k) (o ∷ os) (n ∷ ns) d done = done_at T k os ns d done.1

pub done_length : {X : Type 0} (T : X → X → Type 0) (k : ℕ) (olds news : List X) → Done T k olds news → length news ≡ length olds
done_length T zero olds news done = ap length done
done_length T (suc k) [] news done = ap length done
done_length T (suc k) (o ∷ os) [] done = absurd done
done_length T (suc k) (o ∷ os) (n ∷ ns) done = ap (λ m. suc m) (done_length T k os ns done.1)

-- a change that does less
pub done_weaker : {X : Type 0} (T S : X → X → Type 0) → ((o n : X) → T o n → S o n) → (k : ℕ) (olds news : List X) → Done T k olds news → Done S k olds news
done_weaker T S h zero olds news done = done
done_weaker T S h (suc k) [] news done = done
done_weaker T S h (suc k) (o ∷ os) [] done = absurd done
done_weaker T S h (suc k) (o ∷ os) (n ∷ ns) done = (h o n done.0, done_weaker T S h k os ns done.1)

-- one row more
pub done_next : {X : Type 0} (T : X → X → Type 0) (k : ℕ) (olds news : List X) (d x : X) → k < length news → T (get_or news k d) x → Done T k olds news → Done T (suc k) olds (set news k x)
done_next T zero [] news d x l t done = absurd (let e = ap length done in omega (arith, e))
done_next T zero (o ∷ os) [] d x l t done = absurd (omega arith)
done_next T zero (o ∷ os) (n ∷ ns) d x l t done =
    let first : n ≡ o = cc in
    let rest : ns ≡ os = cc in
    (subst (λ y. T y x) first t, rest)
done_next T (suc k) [] news d x l t done = absurd (let e = ap length done in omega (arith, e))
done_next T (suc k) (o ∷ os) [] d x l t done = absurd done
done_next T (suc k) (o ∷ os) (n ∷ ns) d x l t done = (done.0, done_next T k os ns d x (omega arith) t done.1)

-- what a change leaves is left of all
pub done_same : {X Y : Type 0} (T : X → X → Type 0) (g : X → Y) → ((o n : X) → T o n → g n ≡ g o) → (k : ℕ) (olds news : List X) → Done T k olds news → map g news ≡ map g olds
done_same T g h zero olds news done = ap (map g) done
done_same T g h (suc k) [] news done = ap (map g) done
done_same T g h (suc k) (o ∷ os) [] done = absurd done
done_same T g h (suc k) (o ∷ os) (n ∷ ns) done = λ i. h o n done.0 i ∷ done_same T g h k os ns done.1 i

-- what a change brings is so of all, if it was so before
pub done_kept : {X : Type 0} (T : X → X → Type 0) (P : X → Type 0) → ((o n : X) → T o n → P n) → (k : ℕ) (olds news : List X) → AllByRecursion P olds → Done T k olds news → AllByRecursion P news
done_kept T P h zero olds news all done = subst (λ xs. AllByRecursion P xs) (sym done) all
done_kept T P h (suc k) [] news all done = subst (λ xs. AllByRecursion P xs) (sym done) all
done_kept T P h (suc k) (o ∷ os) [] all done = absurd done
done_kept T P h (suc k) (o ∷ os) (n ∷ ns) all done = (h o n done.0, done_kept T P h k os ns all.1 done.1)

-- at the end all are changed
pub done_map : {X Y : Type 0} (T : X → X → Type 0) (g h : X → Y) → ((o n : X) → T o n → g n ≡ h o) → (k : ℕ) (olds news : List X) → length olds ≤ k → Done T k olds news → map g news ≡ map h olds
done_map T g h e zero [] news l done = ap (map g) done
done_map T g h e zero (o ∷ os) news l done = absurd (omega arith)
done_map T g h e (suc k) [] news l done = ap (map g) done
done_map T g h e (suc k) (o ∷ os) [] l done = absurd done
done_map T g h e (suc k) (o ∷ os) (n ∷ ns) l done = λ i. e o n done.0 i ∷ done_map T g h e k os ns (omega arith) done.1 i

pub done_all : {X : Type 0} (T : X → X → Type 0) (Q P : X → Type 0) → ((o n : X) → Q o → T o n → P n) → (k : ℕ) (olds news : List X) → length olds ≤ k → AllByRecursion Q olds → Done T k olds news → AllByRecursion P news
done_all T Q P h zero [] news l all done = subst (λ xs. AllByRecursion P xs) (sym done) tt
done_all T Q P h zero (o ∷ os) news l all done = absurd (omega arith)
done_all T Q P h (suc k) [] news l all done = subst (λ xs. AllByRecursion P xs) (sym done) tt
done_all T Q P h (suc k) (o ∷ os) [] l all done = absurd done
done_all T Q P h (suc k) (o ∷ os) (n ∷ ns) l all done = (h o n all.0 done.0, done_all T Q P h k os ns (omega arith) all.1 done.1)

-- one of all
pub all_at : {X : Type 0} (P : X → Type 0) (xs : List X) (k : ℕ) (d : X) → AllByRecursion P xs → k < length xs → P (get_or xs k d)
all_at P [] k d all l = absurd (omega arith)
all_at P (x ∷ xs) zero d all l = all.0
all_at P (x ∷ xs) (suc k) d all l = all_at P xs k d all.1 (omega arith)

-- what a loop leaves of a list is the list that it changed
pub whole : {X : Type 0} (xs ys : List X) (n : ℕ) → length xs ≡ length ys → n ≡ length ys → take n (xs ++ drop (length xs) ys) ≡ xs
whole [] [] n e f = ap (λ m. take m []) f
whole [] (y ∷ ys) n e f = absurd (omega (arith, e))
whole (x ∷ xs) [] n e f = absurd (omega (arith, e))
whole (x ∷ xs) (y ∷ ys) n e f =
    let same : length xs ≡ length ys = omega (arith, e) in
    ap (λ m. take m (x ∷ (xs ++ drop (length xs) ys))) f ∙ ap (λ zs. x ∷ zs) (whole xs ys (length ys) same refl)
