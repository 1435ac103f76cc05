-- Lists that rise, parted at a number.
use Rattle.std.proofs.Common.{◌≡◌, ℕ, suc, ◌<◌, ◌≤◌, Bool, true, false, cond, Some, None, List, [], ◌∷◌, ◌++◌, map}
use Rattle.std.proofs.Common.{length, inl, inr, subst, refl, sym, ap, ◌∙◌, arith, append-nil, true≢false}
use Rattle.std.specs.Prelude.{nat_lt, nat_le, filter, find}
use Rattle.std.proofs.lemmas.Bool.{lt-ltb, le-ltb, le-leb, lt-leb, ltb-true, ltb-false, leb-false}
use Rattle.std.proofs.lemmas.List.Elements.{filter-append}
use Rattle.gate_types.specs.Rising.{RisesFrom, In}
use Rattle.gate_laws.proofs.Rising.{Rising}
use Rattle.gate_queue_rules.proofs.Ordered.{AllBelow}

none_some : {Y : Type 0} (z : Y) → None ≡ Some z → ⊥
none_some z q = cc

-- numbers that rise from one on rise
pub rising_from : {X : Type 0} (key : X → ℕ) (n : ℕ) (xs : List X) → RisesFrom key n xs → Rising key xs
rising_from key n [] r = tt
rising_from {X = X} key n (x ∷ xs) r = ((λ y m. least (suc (key x)) xs r.1 y m), rising_from key (suc (key x)) xs r.1)
  where
    least : (j : ℕ) (zs : List X) → RisesFrom key j zs → (y : X) → In y zs → j ≤ key y
    least j [] h y m = absurd m
    least j (z ∷ zs) h y m =
        let low : j ≤ key z = h.0 in
        elim m [
          | inl e ↦ subst (λ w. j ≤ key w) e low
          | inr o ↦ (let high : suc (key z) ≤ key y = least (suc (key z)) zs h.1 y o in omega arith)
        ]

-- those below a number, and those from it on
abbrev pub under : {X : Type 0} → (X → ℕ) → ℕ → List X → List X
under key p xs = filter (λ x. nat_lt (key x) p) xs

abbrev pub onward : {X : Type 0} → (X → ℕ) → ℕ → List X → List X
onward key p xs = filter (λ x. nat_le p (key x)) xs

pub all_under : {X : Type 0} (key : X → ℕ) (p : ℕ) (xs : List X) → AllBelow key p xs → under key p xs ≡ xs
all_under key p [] b = refl
all_under key p (x ∷ xs) b = λ k. cond (lt-ltb (key x) p b.0 k) (x ∷ all_under key p xs b.1 k) (all_under key p xs b.1 k)

pub none_under : {X : Type 0} (key : X → ℕ) (p m : ℕ) (xs : List X) → p ≤ m → RisesFrom key m xs → under key p xs ≡ []
none_under key p m [] l r = refl
none_under key p m (x ∷ xs) l r =
    let low : m ≤ key x = r.0 in
    (λ k. cond (le-ltb (key x) p (omega arith) k) (x ∷ under key p xs) (none_under key p (suc (key x)) xs (omega arith) r.1 k))

pub all_onward : {X : Type 0} (key : X → ℕ) (p m : ℕ) (xs : List X) → p ≤ m → RisesFrom key m xs → onward key p xs ≡ xs
all_onward key p m [] l r = refl
all_onward key p m (x ∷ xs) l r =
    let low : m ≤ key x = r.0 in
    (λ k. cond (le-leb p (key x) (omega arith) k) (x ∷ all_onward key p (suc (key x)) xs (omega arith) r.1 k) (onward key p xs))

-- first those below, then those from it on
pub cut : {X : Type 0} (key : X → ℕ) (p m : ℕ) (xs : List X) → RisesFrom key m xs → xs ≡ under key p xs ++ onward key p xs
cut key p m [] r = refl
cut {X = X} key p m (x ∷ xs) r = by_test (nat_lt (key x) p) refl (cut key p (suc (key x)) xs r.1)
  where
    by_test : (t : Bool) → nat_lt (key x) p ≡ t → xs ≡ under key p xs ++ onward key p xs → x ∷ xs ≡ cond t (x ∷ under key p xs) (under key p xs) ++ cond (nat_le p (key x)) (x ∷ onward key p xs) (onward key p xs)
    by_test true e h =
        let less = ltb-true (key x) p e in
        ap (λ l. x ∷ l) h ∙ ap (λ t. (x ∷ under key p xs) ++ cond t (x ∷ onward key p xs) (onward key p xs)) (sym (lt-leb p (key x) less))
    by_test false e h =
        let more = ltb-false (key x) p e in
        let none = sym (none_under key p (suc (key x)) xs (omega (arith, more)) r.1) in
        let whole = sym (all_onward key p (suc (key x)) xs (omega (arith, more)) r.1) in
        ap (λ l. l ++ (x ∷ xs)) none ∙ ap (λ l. under key p xs ++ (x ∷ l)) whole ∙ ap (λ t. under key p xs ++ cond t (x ∷ onward key p xs) (onward key p xs)) (sym (le-leb p (key x) more))

pub onward_onward : {X : Type 0} (key : X → ℕ) (i p : ℕ) (xs : List X) → i ≤ p → onward key p (onward key i xs) ≡ onward key p xs
onward_onward key i p [] l = refl
onward_onward {X = X} key i p (x ∷ xs) l = by_test (nat_le i (key x)) refl (onward_onward key i p xs l)
  where
    by_test : (t : Bool) → nat_le i (key x) ≡ t → onward key p (onward key i xs) ≡ onward key p xs → onward key p (cond t (x ∷ onward key i xs) (onward key i xs)) ≡ cond (nat_le p (key x)) (x ∷ onward key p xs) (onward key p xs)
    by_test true e h = λ k. cond (nat_le p (key x)) (x ∷ h k) (h k)
    by_test false e h =
        let less = leb-false i (key x) e in
        h ∙ ap (λ t. cond t (x ∷ onward key p xs) (onward key p xs)) (sym (lt-leb p (key x) (omega (arith, less))))

-- how many are from a number on, by the numbers alone
pub onward_many : {X : Type 0} (key : X → ℕ) (p : ℕ) (xs : List X) → length (onward key p xs) ≡ length (filter (λ n. nat_le p n) (map key xs))
onward_many key p [] = refl
onward_many {X = X} key p (x ∷ xs) = by_test (nat_le p (key x)) (onward_many key p xs)
  where
    by_test : (t : Bool) → length (onward key p xs) ≡ length (filter (λ n. nat_le p n) (map key xs)) →
        length (cond t (x ∷ onward key p xs) (onward key p xs)) ≡ length (cond t (key x ∷ filter (λ n. nat_le p n) (map key xs)) (filter (λ n. nat_le p n) (map key xs)))
    by_test true h = ap suc h
    by_test false h = h

-- ---- parted at one of them

pub low_at : {X : Type 0} (key : X → ℕ) (m : ℕ) (us : List X) (v : X) (bs : List X) → RisesFrom key m (us ++ v ∷ bs) → m ≤ key v
low_at key m [] v bs r = r.0
low_at key m (a ∷ us) v bs r =
    let low : m ≤ key a = r.0 in
    let more : suc (key a) ≤ key v = low_at key (suc (key a)) us v bs r.1 in
    omega arith

pub rise_at : {X : Type 0} (key : X → ℕ) (m : ℕ) (us : List X) (v : X) (bs : List X) → RisesFrom key m (us ++ v ∷ bs) → AllBelow key (key v) us × RisesFrom key (suc (key v)) bs
rise_at key m [] v bs r = (tt, r.1)
rise_at key m (a ∷ us) v bs r =
    let more : suc (key a) ≤ key v = low_at key (suc (key a)) us v bs r.1 in
    let rest = rise_at key (suc (key a)) us v bs r.1 in
    ((omega arith, rest.0), rest.1)

pub under_up : {X : Type 0} (key : X → ℕ) (m n : ℕ) (xs : List X) → m ≤ n → AllBelow key m xs → AllBelow key n xs
under_up key m n [] l h = tt
under_up key m n (x ∷ xs) l h = let low : key x < m = h.0 in (omega arith, under_up key m n xs l h.1)

pub under_at : {X : Type 0} (key : X → ℕ) (m : ℕ) (us : List X) (v : X) (bs : List X) → RisesFrom key m (us ++ v ∷ bs) → under key (key v) (us ++ v ∷ bs) ≡ us
under_at key m us v bs r =
    let parts = rise_at key m us v bs r in
    let none : under key (key v) (v ∷ bs) ≡ [] = none_under key (key v) (key v) (v ∷ bs) (omega arith) (omega arith, parts.1) in
    filter-append (λ x. nat_lt (key x) (key v)) us (v ∷ bs) ∙ (λ k. all_under key (key v) us parts.0 k ++ none k) ∙ append-nil us

pub under_behind : {X : Type 0} (key : X → ℕ) (m : ℕ) (us : List X) (v : X) (bs : List X) → RisesFrom key m (us ++ v ∷ bs) → under key (suc (key v)) (us ++ v ∷ bs) ≡ us ++ v ∷ []
under_behind key m us v bs r =
    let parts = rise_at key m us v bs r in
    let all = under_up key (key v) (suc (key v)) us (omega arith) parts.0 in
    let one : under key (suc (key v)) (v ∷ bs) ≡ v ∷ [] = λ k. cond (lt-ltb (key v) (suc (key v)) (omega arith) k) (v ∷ none_under key (suc (key v)) (suc (key v)) bs (omega arith) parts.1 k) (under key (suc (key v)) bs) in
    filter-append (λ x. nat_lt (key x) (suc (key v))) us (v ∷ bs) ∙ (λ k. all_under key (suc (key v)) us all k ++ one k)

-- ---- the first that passes a test

pub found_first : {X : Type 0} (t : X → Bool) (xs : List X) (v : X) → find t xs ≡ Some v → (rest : List X) × (filter t xs ≡ v ∷ rest)
found_first t [] v h = absurd (none_some v h)
found_first {X = X} t (x ∷ xs) v h = by_test (t x) h (λ e. found_first t xs v e)
  where
    by_test : (b : Bool) → cond b (Some x) (find t xs) ≡ Some v → (find t xs ≡ Some v → (rest : List X) × (filter t xs ≡ v ∷ rest)) → (rest : List X) × (cond b (x ∷ filter t xs) (filter t xs) ≡ v ∷ rest)
    by_test true e rest = let same : x ≡ v = cc in (filter t xs, ap (λ y. y ∷ filter t xs) same)
    by_test false e rest = rest e

pub none_found : {X : Type 0} (t : X → Bool) (xs : List X) → find t xs ≡ None → filter t xs ≡ []
none_found t [] h = refl
none_found {X = X} t (x ∷ xs) h = by_test (t x) h (λ e. none_found t xs e)
  where
    by_test : (b : Bool) → cond b (Some x) (find t xs) ≡ None → (find t xs ≡ None → filter t xs ≡ []) → cond b (x ∷ filter t xs) (filter t xs) ≡ []
    by_test true e rest = absurd (none_some x (sym e))
    by_test false e rest = rest e

-- it is found among those that pass a weaker test
pub find_in : {X : Type 0} (f g : X → Bool) (xs : List X) → ((x : X) → f x ≡ true → g x ≡ true) → find f (filter g xs) ≡ find f xs
find_in f g [] h = refl
find_in {X = X} f g (x ∷ xs) h = by_both (g x) refl (f x) refl (find_in f g xs h)
  where
    by_both : (b : Bool) → g x ≡ b → (a : Bool) → f x ≡ a → find f (filter g xs) ≡ find f xs → find f (cond b (x ∷ filter g xs) (filter g xs)) ≡ cond (f x) (Some x) (find f xs)
    by_both true eb a ea rest = ap (λ o. cond (f x) (Some x) o) rest
    by_both false eb true ea rest = absurd (true≢false (sym (h x ea) ∙ eb))
    by_both false eb false ea rest = rest ∙ ap (λ t. cond t (Some x) (find f xs)) (sym ea)

-- each of them fails a test
abbrev pub AllFail : {X : Type 0} → (X → Bool) → List X → Type 0
AllFail t [] = Unit {0}
AllFail t (x ∷ xs) = (t x ≡ false) × AllFail t xs

pub all_fail : {X : Type 0} (t : X → Bool) (xs : List X) → find t xs ≡ None → AllFail t xs
all_fail t [] h = tt
all_fail {X = X} t (x ∷ xs) h = by_test (t x) refl h (λ e. all_fail t xs e)
  where
    by_test : (b : Bool) → t x ≡ b → cond b (Some x) (find t xs) ≡ None → (find t xs ≡ None → AllFail t xs) → AllFail t (x ∷ xs)
    by_test true e h2 rest = absurd (none_some x (sym h2))
    by_test false e h2 rest = (e, rest h2)

-- a list parted at the first that passes
pub record PartsAt {X : Type 0} (t : X → Bool) (xs : List X) (v : X) : Type 0 where
  pub before : List X
  pub behind : List X
  pub parts : xs ≡ before ++ v ∷ behind
  pub fail : AllFail t before
  pub passes : t v ≡ true

pub parts_at : {X : Type 0} (t : X → Bool) (xs : List X) (v : X) → find t xs ≡ Some v → PartsAt t xs v
parts_at t [] v h = absurd (none_some v h)
parts_at {X = X} t (x ∷ xs) v h = by_test (t x) refl h (λ e. parts_at t xs v e)
  where
    by_test : (b : Bool) → t x ≡ b → cond b (Some x) (find t xs) ≡ Some v → (find t xs ≡ Some v → PartsAt t xs v) → PartsAt t (x ∷ xs) v
    by_test true e h2 rest = let same : x ≡ v = cc in record { before = []; behind = xs; parts = ap (λ y. y ∷ xs) same; fail = tt; passes = sym (ap t same) ∙ e }
    by_test false e h2 rest = let r = rest h2 in record { before = x ∷ r.before; behind = r.behind; parts = ap (λ l. x ∷ l) r.parts; fail = (e, r.fail); passes = r.passes }
