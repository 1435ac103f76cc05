-- Lists with the same members: what is found in them, what is the greatest number, and when they are one list.
use Rattle.std.proofs.Common.{◌≡◌, ℕ, suc, ◌<◌, ◌≤◌, Bool, true, false, ◌&&◌, ◌||◌, cond, Option, Some, None, List}
use Rattle.std.proofs.Common.{[], ◌∷◌, map, length, refl, sym, ap, ◌∙◌, subst, ◌⊎◌, inl, inr, arith, true≢false}
use Rattle.std.specs.Prelude.{AllPairs, IsPermutation, nat_lt, filter, find, fold, option_map}
use Rattle.std.specs.List.{list_any}
use Rattle.std.proofs.lemmas.Bool.{ltb-true, ltb-false}
use Rattle.std.proofs.lemmas.List.Sorted.{Contains-permutation, IsPermutation-sym}
use Rattle.gate_types.specs.Rising.{In}
use Rattle.gate_found_rows.specs.Asked.{greatest}
use Rattle.gate_laws.proofs.Members.{contains_in, every, found, from_filter, from_map, in_contains, not_found}
use Rattle.gate_laws.proofs.Members.{to_filter, to_map}
use Rattle.gate_laws.proofs.Rising.{Rising}

-- ---- what is found

-- what is found among some is the image of what is found among others, where the images are the members and at most
-- one passes
pub same_find : {X Y : Type 0} (f : X → Y) (p : X → Bool) (t : Y → Bool) (xs : List X) (ys : List Y) →
    ((x : X) → t (f x) ≡ p x) → ((x : X) → In x xs → In (f x) ys) →
    ((y : Y) → In y ys → (x : X) × In x xs × (f x ≡ y)) →
    ((y z : Y) → In y ys → In z ys → t y ≡ true → t z ≡ true → y ≡ z) → option_map f (find p xs) ≡ find t ys
same_find {X = X} {Y = Y} f p t xs ys same to from one = by_found (find p xs) refl (find t ys) refl
  where
    by_found : (o : Option X) → find p xs ≡ o → (r : Option Y) → find t ys ≡ r → option_map f o ≡ r
    by_found None e None d = refl
    by_found None e (Some y) d =
        let at = found t ys y d in
        let x = from y at.0 in
        absurd (true≢false (sym at.1 ∙ sym (ap t x.2) ∙ same x.0 ∙ not_found p xs e x.0 x.1))
    by_found (Some x) e None d =
        let at = found p xs x e in
        absurd (true≢false (sym (same x ∙ at.1) ∙ not_found t ys d (f x) (to x at.0)))
    by_found (Some x) e (Some y) d =
        let here = found p xs x e in
        let there = found t ys y d in
        ap (λ z. Some z) (one (f x) y (to x here.0) there.0 (same x ∙ here.1) there.1)

-- a member that passes is found, where at most one passes
pub lone_found : {X : Type 0} (t : X → Bool) (xs : List X) (x : X) → In x xs → t x ≡ true →
    length (filter t xs) ≤ 1 → find t xs ≡ Some x
lone_found t [] x m e few = absurd m
lone_found {X = X} t (y ∷ ys) x m e few = by_test (t y) refl few (lone_found t ys x)
  where
    some : (zs : List X) → In x zs → 1 ≤ length zs
    some [] n = absurd n
    some (z ∷ zs) n = omega arith

    by_test : (b : Bool) → t y ≡ b → length (cond b (y ∷ filter t ys) (filter t ys)) ≤ 1 →
        (In x ys → t x ≡ true → length (filter t ys) ≤ 1 → find t ys ≡ Some x) → cond b (Some y) (find t ys) ≡ Some x
    by_test true d l rest = elim m [
      | inl s ↦ ap (λ z. Some z) s
      | inr n ↦ (let more = some (filter t ys) (to_filter t ys x n e) in absurd (omega arith))
    ]
    by_test false d l rest = elim m [
      | inl s ↦ absurd (true≢false (sym e ∙ sym (ap t s) ∙ d))
      | inr n ↦ rest n e l
    ]

-- a test of two parts passes some member just where the second passes some that the first passes
pub any_filter : {X : Type 0} (p q : X → Bool) (xs : List X) →
    list_any (λ x. p x && q x) xs ≡ list_any q (filter p xs)
any_filter p q [] = refl
any_filter p q (x ∷ xs) = by_test (p x) (any_filter p q xs)
  where
    by_test : (b : Bool) → list_any (λ y. p y && q y) xs ≡ list_any q (filter p xs) →
        (b && q x) || list_any (λ y. p y && q y) xs ≡ list_any q (cond b (x ∷ filter p xs) (filter p xs))
    by_test true rest = ap (λ r. q x || r) rest
    by_test false rest = rest

-- ---- the same members

-- each list has the members of the other
abbrev pub HaveSame : {X : Type 0} → List X → List X → Type 0
HaveSame {X = X} xs ys = (x : X) → (In x xs → In x ys) × (In x ys → In x xs)

-- a list in another order
pub permuted_same : {X : Type 0} (xs ys : List X) → IsPermutation xs ys → HaveSame xs ys
permuted_same xs ys p x = (
  (λ m. contains_in ys x (Contains-permutation xs ys x p (in_contains xs x m))),
  (λ m. contains_in xs x (Contains-permutation ys xs x (IsPermutation-sym xs ys p) (in_contains ys x m))),
)

-- those that pass a test
pub filtered_same : {X : Type 0} (t : X → Bool) (xs ys : List X) → HaveSame xs ys →
    HaveSame (filter t xs) (filter t ys)
filtered_same t xs ys h x = (
  (λ m. let at = from_filter t xs x m in to_filter t ys x ((h x).0 at.0) at.1),
  (λ m. let at = from_filter t ys x m in to_filter t xs x ((h x).1 at.0) at.1),
)

-- what a function makes of them
pub mapped_same : {X Y : Type 0} (f : X → Y) (xs ys : List X) → HaveSame xs ys → HaveSame (map f xs) (map f ys)
mapped_same f xs ys h y = (
  (λ m. let at = from_map f xs y m in subst (λ z. In z (map f ys)) at.2 (to_map f ys at.0 ((h at.0).0 at.1))),
  (λ m. let at = from_map f ys y m in subst (λ z. In z (map f xs)) at.2 (to_map f xs at.0 ((h at.0).1 at.1))),
)

-- ---- the greatest number

-- the greater of two
abbrev pub pick : ℕ → ℕ → ℕ
pick m n = cond (nat_lt m n) n m

-- which of the two it is
pub picked : (m n : ℕ) → ((pick m n ≡ n) × (m < n)) ⊎ ((pick m n ≡ m) × (n ≤ m))
picked m n = by_test (nat_lt m n) refl
  where
    by_test : (b : Bool) → nat_lt m n ≡ b → ((cond b n m ≡ n) × (m < n)) ⊎ ((cond b n m ≡ m) × (n ≤ m))
    by_test true e = inl (refl, ltb-true m n e)
    by_test false e = inr (refl, ltb-false m n e)

-- the greatest is no less than the first
first_below : (m : ℕ) (ns : List ℕ) → m ≤ fold pick m ns
first_below m [] = omega arith
first_below m (n ∷ ns) = let rest = first_below (pick m n) ns in
    elim (picked m n) [ inl e ↦ (let s = e.0 in let l = e.1 in omega arith) | inr e ↦ (let s = e.0 in omega arith) ]

-- nor than any other
all_below : (m : ℕ) (ns : List ℕ) (k : ℕ) → In k ns → k ≤ fold pick m ns
all_below m [] k n = absurd n
all_below m (n ∷ ns) k there = elim there [
  | inl e ↦ (let rest = first_below (pick m n) ns in
      elim (picked m n) [ inl p ↦ (let s = p.0 in omega arith) | inr p ↦ (let s = p.0 in let l = p.1 in omega arith) ])
  | inr t ↦ all_below (pick m n) ns k t
]

-- it is one of them
one_of_them : (m : ℕ) (ns : List ℕ) → (fold pick m ns ≡ m) ⊎ In (fold pick m ns) ns
one_of_them m [] = inl refl
one_of_them m (n ∷ ns) = elim (one_of_them (pick m n) ns) [
  | inl e ↦ (elim (picked m n) [ inl p ↦ inr (inl (sym (e ∙ p.0))) | inr p ↦ inl (e ∙ p.0) ])
  | inr t ↦ inr (inr t)
]

-- where all of some are among others, the greatest of these is no less
least_of : (ms ns : List ℕ) → ((k : ℕ) → In k ms → In k ns) → greatest ms ≤ greatest ns
least_of ms ns h = elim (one_of_them 0 ms) [
  | inl e ↦ (let low : fold pick 0 ms ≡ 0 = e in omega arith)
  | inr t ↦ all_below 0 ns (greatest ms) (h (greatest ms) t)
]

-- lists with the same members have one greatest
pub same_greatest : (ms ns : List ℕ) → HaveSame ms ns → greatest ms ≡ greatest ns
same_greatest ms ns h =
    let up = least_of ms ns (λ k. (h k).0) in
    let down = least_of ns ms (λ k. (h k).1) in
    omega (arith, up, down)

-- ---- lists that rise by a key

-- pairs that rise
pub pairs_rise : {X : Type 0} (key : X → ℕ) (xs : List X) → AllPairs (λ x y. key x < key y) xs → Rising key xs
pairs_rise key [] h = tt
pairs_rise key (x ∷ xs) h = (
  (λ y m. every (λ z. key x < key z) xs (λ k d b. h 0 (suc k) d (omega arith) (omega (arith, b))) y m),
  pairs_rise key xs (λ i j d a b. h (suc i) (suc j) d (omega (arith, a)) (omega (arith, b))),
)

-- two members of one key are one
pub rising_alone : {X : Type 0} (key : X → ℕ) (xs : List X) → Rising key xs → (x y : X) → In x xs → In y xs →
    key x ≡ key y → x ≡ y
rising_alone key [] r x y mx my e = absurd mx
rising_alone key (z ∷ zs) r x y mx my e = elim mx [
  | inl a ↦ (elim my [
    | inl b ↦ sym a ∙ b
    | inr b ↦ (let up = r.0 y b in let s = ap key a in absurd (omega arith))
  ])
  | inr a ↦ (elim my [
    | inl b ↦ (let up = r.0 x a in let s = ap key b in absurd (omega arith))
    | inr b ↦ rising_alone key zs r.1 x y a b e
  ])
]

-- two such lists of the same members are one
pub same_rising : {X : Type 0} (key : X → ℕ) (xs ys : List X) → Rising key xs → Rising key ys → HaveSame xs ys →
    xs ≡ ys
same_rising key [] [] r u h = refl
same_rising key [] (y ∷ ys) r u h = absurd ((h y).1 (inl refl))
same_rising key (x ∷ xs) [] r u h = absurd ((h x).0 (inl refl))
same_rising {X = X} key (x ∷ xs) (y ∷ ys) r u h =
    λ k. first k ∷ same_rising key xs ys r.1 u.1 (λ z. (
      (λ m. elim ((h z).0 (inr m)) [
        | inl e ↦ (let up = r.0 z m in let s = ap key (first ∙ e) in absurd (omega arith))
        | inr n ↦ n
      ]),
      (λ m. elim ((h z).1 (inr m)) [
        | inl e ↦ (let up = u.0 z m in let s = ap key (sym first ∙ e) in absurd (omega arith))
        | inr n ↦ n
      ]),
    )) k
  where
    first : x ≡ y
    first = elim ((h x).0 (inl refl)) [
      | inl e ↦ sym e
      | inr m ↦ (elim ((h y).1 (inl refl)) [
        | inl e ↦ e
        | inr n ↦ (let up = u.0 x m in let down = r.0 y n in absurd (omega arith))
      ])
    ]
