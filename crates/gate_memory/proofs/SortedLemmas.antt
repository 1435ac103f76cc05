-- Rows in the order of their keys: where one stands, is put, and is dropped.
use Rattle.std.proofs.Common.{◌≡◌, ◌≢◌, ℕ, zero, suc, ◌<◌, ◌≤◌, ◌⊎◌, inl, inr, ⊎_elim, Bool, true, false, not, cond}
use Rattle.std.proofs.Common.{Some, None, List, [], ◌∷◌, ◌++◌, length, get_or, set, refl, sym, ap, ◌∙◌, arith}
use Rattle.std.specs.Prelude.{◌==◌, ◌+◌, ◌-◌, ◌&&◌, nat_lt, nat_le, insert, remove, take, drop, find, filter, fold}
use Rattle.std.specs.Prelude.{slice_get, map, Option, option_map, unwrap_or}
use Rattle.std.specs.List.{AllWithin, AllByRecursion}
use Rattle.std.proofs.lemmas.Bool.{eq-eqb, ne_eqb, le-ltb, lt-ltb, le-leb, lt-leb}
use Rattle.std.proofs.lemmas.Bool.Decides.{eqb_tells}
use Rattle.gate_types.specs.State.{put_by}
use Rattle.gate_types.specs.Rising.{RisesFrom, In}
use Rattle.gate_types.proofs.PlainLemmas.{below_or}
use Rattle.std.proofs.lemmas.Option.{none-some, slice_get-get_or}
use Rattle.gate_memory.specs.Sorted.{IsAtPosition, position_in, without}

-- what stands at a position needs no default
pub get_or_any : {X : Type 0} (xs : List X) (i : ℕ) (d e : X) → i < length xs → get_or xs i d ≡ get_or xs i e
get_or_any [] i d e h = absurd (omega arith)
get_or_any (x ∷ xs) zero d e h = refl
get_or_any (x ∷ xs) (suc i) d e h = get_or_any xs i d e (omega arith)

-- ---- rising

-- each key is at least where the list rises from
pub rises-at : {X : Type 0} (key : X → ℕ) (n : ℕ) (xs : List X) (k : ℕ) (d : X) → RisesFrom key n xs → k < length xs → n ≤ key (get_or xs k d)
rises-at key n [] k d r h = absurd (omega arith)
rises-at key n (x ∷ xs) zero d r h = r.0
rises-at key n (x ∷ xs) (suc k) d r h =
    let here : n ≤ key x = r.0 in
    let there : suc (key x) ≤ key (get_or xs k d) = rises-at key (suc (key x)) xs k d r.1 (omega arith) in
    omega arith

pub rises-nondecreasing : {X : Type 0} (key : X → ℕ) (n : ℕ) (xs : List X) (i j : ℕ) (d : X) → RisesFrom key n xs → i ≤ j → j < length xs → key (get_or xs i d) ≤ key (get_or xs j d)
rises-nondecreasing key n [] i j d r h l = absurd (omega arith)
rises-nondecreasing key n (x ∷ xs) zero zero d r h l = omega arith
rises-nondecreasing key n (x ∷ xs) zero (suc j) d r h l =
    let there : suc (key x) ≤ key (get_or xs j d) = rises-at key (suc (key x)) xs j d r.1 (omega arith) in omega arith
rises-nondecreasing key n (x ∷ xs) (suc i) zero d r h l = absurd (omega arith)
rises-nondecreasing key n (x ∷ xs) (suc i) (suc j) d r h l = rises-nondecreasing key (suc (key x)) xs i j d r.1 (omega arith) (omega arith)

pub rises-more : {X : Type 0} (key : X → ℕ) (n m : ℕ) (xs : List X) → n ≤ m → RisesFrom key m xs → RisesFrom key n xs
rises-more key n m [] h r = tt
rises-more key n m (x ∷ xs) h r = let above : m ≤ key x = r.0 in (omega arith, r.1)

-- ---- the position of a key

-- where the first is below, and where it isn't
position_next : {X : Type 0} (key : X → ℕ) (n : ℕ) (x : X) (xs : List X) → key x < n → position_in key n (x ∷ xs) ≡ suc (position_in key n xs)
position_next key n x xs h = ap (λ t. cond t (suc (position_in key n xs)) 0) (lt-ltb (key x) n h)

position_here : {X : Type 0} (key : X → ℕ) (n : ℕ) (x : X) (xs : List X) → n ≤ key x → position_in key n (x ∷ xs) ≡ 0
position_here key n x xs h = ap (λ t. cond t (suc (position_in key n xs)) 0) (le-ltb (key x) n h)

-- the position that a binary search finds
pub position_is : {X : Type 0} (key : X → ℕ) (n : ℕ) (xs : List X) (i : ℕ) → i ≤ length xs → AllWithin (λ y. nat_lt (key y) n ≡ true) xs 0 i → AllWithin (λ y. nat_lt (key y) n ≡ false) xs i (length xs) → i ≡ position_in key n xs
position_is key n [] zero h below above = refl
position_is key n [] (suc i) h below above = absurd (omega arith)
position_is key n (x ∷ xs) zero h below above = sym (ap (λ t. cond t (suc (position_in key n xs)) 0) (above 0 x (omega arith) (omega arith)))
position_is key n (x ∷ xs) (suc i) h below above =
    ap (λ k. suc k) (position_is key n xs i (omega arith) (λ k e l m. below (suc k) e (omega arith) (omega arith)) (λ k e l m. above (suc k) e (omega arith) (omega arith)))
    ∙ sym (ap (λ t. cond t (suc (position_in key n xs)) 0) (below 0 x (omega arith) (omega arith)))

-- no row of this key stands at a position
abbrev pub IsMissing : {X : Type 0} → (X → ℕ) → ℕ → List X → ℕ → Type 0
IsMissing key n xs i = (length xs ≤ i) ⊎ ((d : _) × (key (get_or xs i d) ≢ n))

missing_first : {X : Type 0} (key : X → ℕ) (n : ℕ) (x : X) (xs : List X) → IsMissing key n (x ∷ xs) 0 → key x ≢ n
missing_first key n x xs h = ⊎_elim (λ l. absurd (omega arith)) (λ t. t.1) h

missing_rest : {X : Type 0} (key : X → ℕ) (n : ℕ) (x : X) (xs : List X) (i : ℕ) → IsMissing key n (x ∷ xs) (suc i) → IsMissing key n xs i
missing_rest key n x xs i h = ⊎_elim (λ l. inl (omega arith)) (λ t. inr t) h

-- ---- puts

abbrev branch : {X : Type 0} → Bool → Bool → X → X → List X → List X → List X
branch same below x y ys rest = cond same (x ∷ ys) (cond below (x ∷ y ∷ ys) (y ∷ rest))

pub put_first : {X : Type 0} (key : X → ℕ) (x y : X) (ys : List X) → key x ≡ key y → put_by key x (y ∷ ys) ≡ x ∷ ys
put_first key x y ys e = ap (λ t. branch t (nat_lt (key x) (key y)) x y ys (put_by key x ys)) (eq-eqb (key x) (key y) e)

pub put_before : {X : Type 0} (key : X → ℕ) (x y : X) (ys : List X) → key x < key y → put_by key x (y ∷ ys) ≡ x ∷ y ∷ ys
put_before key x y ys h = (λ k. branch (ne_eqb (key x) (key y) (λ s. omega (arith, s)) k) (lt-ltb (key x) (key y) h k) x y ys (put_by key x ys))

pub put_after : {X : Type 0} (key : X → ℕ) (x y : X) (ys : List X) → key y < key x → put_by key x (y ∷ ys) ≡ y ∷ put_by key x ys
put_after key x y ys h = (λ k. branch (ne_eqb (key x) (key y) (λ s. omega (arith, s)) k) (le-ltb (key x) (key y) (omega arith) k) x y ys (put_by key x ys))

-- a row whose key is there takes its place
pub put_set_at : {X : Type 0} (key : X → ℕ) (x : X) (xs : List X) (i : ℕ) (d : X) → i ≡ position_in key (key x) xs → i < length xs → key (get_or xs i d) ≡ key x → put_by key x xs ≡ set xs i x
put_set_at key x [] i d p h e = absurd (omega arith)
put_set_at key x (y ∷ ys) zero d p h e = put_first key x y ys (sym e)
put_set_at key x (y ∷ ys) (suc i) d p h e = ⊎_elim
    (λ l. put_after key x y ys l ∙ ap (λ zs. y ∷ zs) (put_set_at key x ys i d (let q = p ∙ position_next key (key x) y ys l in omega (arith, q)) (omega arith) e))
    (λ l. absurd (let q = p ∙ position_here key (key x) y ys l in omega (arith, q)))
    (below_or (key y) (key x))

-- a new one is put between
pub put_insert_at : {X : Type 0} (key : X → ℕ) (x : X) (xs : List X) (i : ℕ) → i ≡ position_in key (key x) xs → IsMissing key (key x) xs i → put_by key x xs ≡ insert xs i x
put_insert_at key x [] zero p h = refl
put_insert_at key x [] (suc i) p h = absurd (omega (arith, p))
put_insert_at key x (y ∷ ys) zero p h = ⊎_elim
    (λ l. absurd (let q = p ∙ position_next key (key x) y ys l in omega (arith, q)))
    (λ l. put_before key x y ys (let ne : key y ≢ key x = missing_first key (key x) y ys h in omega arith))
    (below_or (key y) (key x))
put_insert_at key x (y ∷ ys) (suc i) p h = ⊎_elim
    (λ l. put_after key x y ys l ∙ ap (λ zs. y ∷ zs) (put_insert_at key x ys i (let q = p ∙ position_next key (key x) y ys l in omega (arith, q)) (missing_rest key (key x) y ys i h)))
    (λ l. absurd (let q = p ∙ position_here key (key x) y ys l in omega (arith, q)))
    (below_or (key y) (key x))

pub rises-put : {X : Type 0} (key : X → ℕ) (n : ℕ) (x : X) (xs : List X) → n ≤ key x → RisesFrom key n xs → RisesFrom key n (put_by key x xs)
rises-put key n x [] h r = (h, tt)
rises-put key n x (y ∷ ys) h r = ⊎_elim
    (λ l. rw (put_before key x y ys l) (h, (l, r.1)))
    (λ l. ⊎_elim
    (λ m. rw (put_after key x y ys m) (r.0, rises-put key (suc (key y)) x ys m r.1))
    (λ m. let e : key x ≡ key y = omega arith in rw (put_first key x y ys e) (h, rw e r.1))
    (below_or (key y) (key x)))
    (below_or (key x) (key y))

-- ---- drops

without_keep : {X : Type 0} (key : X → ℕ) (n : ℕ) (x : X) (xs : List X) → key x ≢ n → without key n (x ∷ xs) ≡ x ∷ without key n xs
without_keep key n x xs h = ap (λ t. cond (not t) (x ∷ without key n xs) (without key n xs)) (ne_eqb (key x) n h)

without_drop : {X : Type 0} (key : X → ℕ) (n : ℕ) (x : X) (xs : List X) → key x ≡ n → without key n (x ∷ xs) ≡ without key n xs
without_drop key n x xs h = ap (λ t. cond (not t) (x ∷ without key n xs) (without key n xs)) (eq-eqb (key x) n h)

without_above : {X : Type 0} (key : X → ℕ) (n m : ℕ) (xs : List X) → n < m → RisesFrom key m xs → without key n xs ≡ xs
without_above key n m [] h r = refl
without_above key n m (x ∷ xs) h r =
    let above : m ≤ key x = r.0 in without_keep key n x xs (λ e. omega (arith, e)) ∙ ap (λ zs. x ∷ zs) (without_above key n (suc (key x)) xs (omega arith) r.1)

pub without_remove : {X : Type 0} (key : X → ℕ) (n m : ℕ) (xs : List X) (i : ℕ) (d : X) → RisesFrom key m xs → i < length xs → key (get_or xs i d) ≡ n → without key n xs ≡ remove xs i
without_remove key n m [] i d r h e = absurd (omega arith)
without_remove key n m (x ∷ xs) zero d r h e = without_drop key n x xs e ∙ without_above key n (suc (key x)) xs (omega (arith, e)) r.1
without_remove key n m (x ∷ xs) (suc i) d r h e =
    let above : suc (key x) ≤ key (get_or xs i d) = rises-at key (suc (key x)) xs i d r.1 (omega arith) in
    without_keep key n x xs (λ f. omega (arith, e, f)) ∙ ap (λ zs. x ∷ zs) (without_remove key n (suc (key x)) xs i d r.1 (omega arith) e)

pub without_none : {X : Type 0} (key : X → ℕ) (n m : ℕ) (xs : List X) (i : ℕ) → RisesFrom key m xs → i ≡ position_in key n xs → IsMissing key n xs i → without key n xs ≡ xs
without_none key n m [] i r p h = refl
without_none key n m (x ∷ xs) zero r p h = ⊎_elim
    (λ l. absurd (let q = p ∙ position_next key n x xs l in omega (arith, q)))
    (λ l. let ne : key x ≢ n = missing_first key n x xs h in without_keep key n x xs ne ∙ ap (λ zs. x ∷ zs) (without_above key n (suc (key x)) xs (omega arith) r.1))
    (below_or (key x) n)
without_none key n m (x ∷ xs) (suc i) r p h = ⊎_elim
    (λ l. without_keep key n x xs (λ e. omega (arith, e)) ∙ ap (λ zs. x ∷ zs) (without_none key n (suc (key x)) xs i r.1 (let q = p ∙ position_next key n x xs l in omega (arith, q)) (missing_rest key n x xs i h)))
    (λ l. absurd (let q = p ∙ position_here key n x xs l in omega (arith, q)))
    (below_or (key x) n)

pub rises-without : {X : Type 0} (key : X → ℕ) (n m : ℕ) (xs : List X) → RisesFrom key m xs → RisesFrom key m (without key n xs)
rises-without key n m [] r = tt
rises-without key n m (x ∷ xs) r = ⊎_elim
    (λ t. rw (without_drop key n x xs t.1) (let above : m ≤ key x = r.0 in rises-more key m (suc (key x)) (without key n xs) (omega arith) (rises-without key n (suc (key x)) xs r.1)))
    (λ t. rw (without_keep key n x xs t.1) (r.0, rises-without key n (suc (key x)) xs r.1))
    (eqb_tells (key x) n)

-- ---- looks

pub found_above : {X : Type 0} (key : X → ℕ) (n m : ℕ) (xs : List X) → n < m → RisesFrom key m xs → find (λ x. key x == n) xs ≡ None
found_above key n m [] h r = refl
found_above key n m (x ∷ xs) h r =
    let above : m ≤ key x = r.0 in
    ap (λ t. cond t (Some x) (find (λ y. key y == n) xs)) (ne_eqb (key x) n (λ e. omega (arith, e))) ∙ found_above key n (suc (key x)) xs (omega arith) r.1

pub found_at : {X : Type 0} (key : X → ℕ) (n m : ℕ) (xs : List X) (i : ℕ) (d : X) → RisesFrom key m xs → i < length xs → key (get_or xs i d) ≡ n → find (λ x. key x == n) xs ≡ Some (get_or xs i d)
found_at key n m [] i d r h e = absurd (omega arith)
found_at key n m (x ∷ xs) zero d r h e = ap (λ t. cond t (Some x) (find (λ y. key y == n) xs)) (eq-eqb (key x) n e)
found_at key n m (x ∷ xs) (suc i) d r h e =
    let above : suc (key x) ≤ key (get_or xs i d) = rises-at key (suc (key x)) xs i d r.1 (omega arith) in
    ap (λ t. cond t (Some x) (find (λ y. key y == n) xs)) (ne_eqb (key x) n (λ f. omega (arith, e, f))) ∙ found_at key n (suc (key x)) xs i d r.1 (omega arith) e

pub found_none : {X : Type 0} (key : X → ℕ) (n m : ℕ) (xs : List X) (i : ℕ) → RisesFrom key m xs → i ≡ position_in key n xs → IsMissing key n xs i → find (λ x. key x == n) xs ≡ None
found_none key n m [] i r p h = refl
found_none key n m (x ∷ xs) zero r p h = ⊎_elim
    (λ l. absurd (let q = p ∙ position_next key n x xs l in omega (arith, q)))
    (λ l. let ne : key x ≢ n = missing_first key n x xs h in ap (λ t. cond t (Some x) (find (λ y. key y == n) xs)) (ne_eqb (key x) n ne) ∙ found_above key n (suc (key x)) xs (omega arith) r.1)
    (below_or (key x) n)
found_none key n m (x ∷ xs) (suc i) r p h = ⊎_elim
    (λ l. ap (λ t. cond t (Some x) (find (λ y. key y == n) xs)) (ne_eqb (key x) n (λ e. omega (arith, e))) ∙ found_none key n (suc (key x)) xs i r.1 (let q = p ∙ position_next key n x xs l in omega (arith, q)) (missing_rest key n x xs i h))
    (λ l. absurd (let q = p ∙ position_here key n x xs l in omega (arith, q)))
    (below_or (key x) n)

-- the first row above n
pub found_behind : {X : Type 0} (key : X → ℕ) (n : ℕ) (xs : List X) → slice_get xs (position_in key (n + 1) xs) ≡ find (λ x. nat_lt n (key x)) xs
found_behind key n [] = refl
found_behind key n (x ∷ xs) = ⊎_elim
    (λ l. ap (λ i. slice_get (x ∷ xs) i) (position_next key (n + 1) x xs l) ∙ found_behind key n xs
    ∙ sym (ap (λ t. cond t (Some x) (find (λ y. nat_lt n (key y)) xs)) (le-ltb n (key x) (omega arith))))
    (λ l. ap (λ i. slice_get (x ∷ xs) i) (position_here key (n + 1) x xs l)
    ∙ sym (ap (λ t. cond t (Some x) (find (λ y. nat_lt n (key y)) xs)) (lt-ltb n (key x) (omega arith))))
    (below_or (key x) (n + 1))

-- the rows above n
abbrev those_above : {X : Type 0} → (X → ℕ) → ℕ → List X → List X
those_above key n xs = filter (λ x. nat_lt n (key x)) xs

all_above : {X : Type 0} (key : X → ℕ) (n m : ℕ) (xs : List X) → n < m → RisesFrom key m xs → xs ≡ those_above key n xs
all_above key n m [] h r = refl
all_above key n m (x ∷ xs) h r =
    let above : m ≤ key x = r.0 in
    ap (λ ys. x ∷ ys) (all_above key n (suc (key x)) xs (omega arith) r.1)
    ∙ sym (ap (λ t. cond t (x ∷ those_above key n xs) (those_above key n xs)) (lt-ltb n (key x) (omega arith)))

pub behind_is : {X : Type 0} (key : X → ℕ) (n m : ℕ) (xs : List X) → RisesFrom key m xs → drop (position_in key (n + 1) xs) xs ≡ those_above key n xs
behind_is key n m [] r = refl
behind_is key n m (x ∷ xs) r = ⊎_elim
    (λ l. ap (λ i. drop i (x ∷ xs)) (position_next key (n + 1) x xs l) ∙ behind_is key n (suc (key x)) xs r.1
    ∙ sym (ap (λ t. cond t (x ∷ those_above key n xs) (those_above key n xs)) (le-ltb n (key x) (omega arith))))
    (λ l. ap (λ i. drop i (x ∷ xs)) (position_here key (n + 1) x xs l) ∙ all_above key n (key x) (x ∷ xs) (omega arith) (omega arith, r.1))
    (below_or (key x) (n + 1))

-- the rows up to n
abbrev those_up_to : {X : Type 0} → (X → ℕ) → ℕ → List X → List X
those_up_to key n xs = filter (λ x. nat_le (key x) n) xs

none_up_to : {X : Type 0} (key : X → ℕ) (n m : ℕ) (xs : List X) → n < m → RisesFrom key m xs → those_up_to key n xs ≡ []
none_up_to key n m [] h r = refl
none_up_to key n m (x ∷ xs) h r =
    let above : m ≤ key x = r.0 in
    ap (λ t. cond t (x ∷ those_up_to key n xs) (those_up_to key n xs)) (lt-leb (key x) n (omega arith)) ∙ none_up_to key n (suc (key x)) xs (omega arith) r.1

pub up_to_is : {X : Type 0} (key : X → ℕ) (n m : ℕ) (xs : List X) → RisesFrom key m xs → take (position_in key (n + 1) xs) xs ≡ those_up_to key n xs
up_to_is key n m [] r = refl
up_to_is key n m (x ∷ xs) r = ⊎_elim
    (λ l. ap (λ i. take i (x ∷ xs)) (position_next key (n + 1) x xs l) ∙ ap (λ ys. x ∷ ys) (up_to_is key n (suc (key x)) xs r.1)
    ∙ sym (ap (λ t. cond t (x ∷ those_up_to key n xs) (those_up_to key n xs)) (le-leb (key x) n (omega arith))))
    (λ l. ap (λ i. take i (x ∷ xs)) (position_here key (n + 1) x xs l) ∙ sym (none_up_to key n (key x) (x ∷ xs) (omega arith) (omega arith, r.1)))
    (below_or (key x) (n + 1))

-- rows that are left out leave the order
pub rises-filter : {X : Type 0} (key : X → ℕ) (test : X → Bool) (m : ℕ) (xs : List X) → RisesFrom key m xs → RisesFrom key m (filter test xs)
rises-filter key test m [] r = tt
rises-filter key test m (x ∷ xs) r = by_test (test x) (rises-filter key test (suc (key x)) xs r.1)
  where
    by_test : (t : Bool) → RisesFrom key (suc (key x)) (filter test xs) → RisesFrom key m (cond t (x ∷ filter test xs) (filter test xs))
    by_test true rest = (r.0, rest)
    by_test false rest = let above : m ≤ key x = r.0 in rises-more key m (suc (key x)) (filter test xs) (omega arith) rest

-- the last of some rows, or what was found before them
abbrev last_of : {X : Type 0} → Option X → List X → Option X
last_of before xs = fold (λ last x. Some x) before xs

abbrev those_below : {X : Type 0} → (X → ℕ) → ℕ → List X → List X
those_below key n xs = filter (λ x. nat_lt (key x) n) xs

below_first : {X : Type 0} (key : X → ℕ) (n : ℕ) (x : X) (xs : List X) → key x < n → those_below key n (x ∷ xs) ≡ x ∷ those_below key n xs
below_first key n x xs h = ap (λ t. cond t (x ∷ those_below key n xs) (those_below key n xs)) (lt-ltb (key x) n h)

none_below : {X : Type 0} (key : X → ℕ) (n m : ℕ) (xs : List X) → n ≤ m → RisesFrom key m xs → those_below key n xs ≡ []
none_below key n m [] h r = refl
none_below key n m (x ∷ xs) h r =
    let above : m ≤ key x = r.0 in
    ap (λ t. cond t (x ∷ those_below key n xs) (those_below key n xs)) (le-ltb (key x) n (omega arith)) ∙ none_below key n (suc (key x)) xs (omega arith) r.1

-- a position is how many rows are below it
pub position_counts : {X : Type 0} (key : X → ℕ) (n m : ℕ) (xs : List X) → RisesFrom key m xs → position_in key n xs ≡ length (those_below key n xs)
position_counts key n m [] r = refl
position_counts key n m (x ∷ xs) r = ⊎_elim
    (λ l. position_next key n x xs l ∙ ap (λ k. suc k) (position_counts key n (suc (key x)) xs r.1) ∙ sym (ap length (below_first key n x xs l)))
    (λ l. position_here key n x xs l ∙ sym (ap length (none_below key n (key x) (x ∷ xs) l (omega arith, r.1))))
    (below_or (key x) n)

-- nothing is below the first position
pub last_none : {X : Type 0} (key : X → ℕ) (n m : ℕ) (xs : List X) (before : Option X) → RisesFrom key m xs → position_in key n xs ≡ 0 → last_of before (those_below key n xs) ≡ before
last_none key n m [] before r e = refl
last_none key n m (x ∷ xs) before r e = ⊎_elim
    (λ l. absurd (let q = position_next key n x xs l in omega (arith, e, q)))
    (λ l. ap (last_of before) (none_below key n (key x) (x ∷ xs) l (omega arith, r.1)))
    (below_or (key x) n)

-- else it is the row before the position
pub last_at : {X : Type 0} (key : X → ℕ) (n m : ℕ) (xs : List X) (before : Option X) (k : ℕ) → RisesFrom key m xs → position_in key n xs ≡ suc k → last_of before (those_below key n xs) ≡ slice_get xs k
last_at key n m [] before k r e = absurd (omega (arith, e))
last_at key n m (x ∷ xs) before k r e = ⊎_elim
    (λ l. ap (last_of before) (below_first key n x xs l) ∙ behind l k (λ j f. last_at key n (suc (key x)) xs (Some x) j r.1 f) (let q = position_next key n x xs l in omega (arith, e, q)))
    (λ l. absurd (let q = position_here key n x xs l in omega (arith, e, q)))
    (below_or (key x) n)
  where
    behind : key x < n → (k : ℕ) → ((j : ℕ) → position_in key n xs ≡ suc j → last_of (Some x) (those_below key n xs) ≡ slice_get xs j) → position_in key n xs ≡ k → last_of (Some x) (those_below key n xs) ≡ slice_get (x ∷ xs) k
    behind l zero later e = last_none key n (suc (key x)) xs (Some x) r.1 e
    behind l (suc j) later e = later j e

-- ---- changes in place

-- the row of a key changed
abbrev changed : {X : Type 0} → (X → ℕ) → ℕ → (X → X) → List X → List X
changed key n f xs = map (λ x. cond (key x == n) (f x) x) xs

changed_above : {X : Type 0} (key : X → ℕ) (n : ℕ) (f : X → X) (m : ℕ) (xs : List X) → n < m → RisesFrom key m xs → changed key n f xs ≡ xs
changed_above key n f m [] h r = refl
changed_above key n f m (x ∷ xs) h r =
    let above : m ≤ key x = r.0 in
    ap (λ t. cond t (f x) x ∷ changed key n f xs) (ne_eqb (key x) n (λ e. omega (arith, e))) ∙ ap (λ ys. x ∷ ys) (changed_above key n f (suc (key x)) xs (omega arith) r.1)

changed_set : {X : Type 0} (key : X → ℕ) (n : ℕ) (f : X → X) (m : ℕ) (xs : List X) (i : ℕ) (d : X) → RisesFrom key m xs → i < length xs → key (get_or xs i d) ≡ n → changed key n f xs ≡ set xs i (f (get_or xs i d))
changed_set key n f m [] i d r h e = absurd (omega arith)
changed_set key n f m (x ∷ xs) zero d r h e =
    ap (λ t. cond t (f x) x ∷ changed key n f xs) (eq-eqb (key x) n e) ∙ ap (λ ys. f x ∷ ys) (changed_above key n f (suc (key x)) xs (omega (arith, e)) r.1)
changed_set key n f m (x ∷ xs) (suc i) d r h e =
    let above : suc (key x) ≤ key (get_or xs i d) = rises-at key (suc (key x)) xs i d r.1 (omega arith) in
    ap (λ t. cond t (f x) x ∷ changed key n f xs) (ne_eqb (key x) n (λ s. omega (arith, e, s))) ∙ ap (λ ys. x ∷ ys) (changed_set key n f (suc (key x)) xs i d r.1 (omega arith) e)

pub key_at : {X : Type 0} (key : X → ℕ) (n : ℕ) (xs : List X) (i : ℕ) (d : X) → IsAtPosition key n xs i → key (get_or xs i d) ≡ n
key_at key n xs i d at = ap (λ o. unwrap_or o 0) (sym (ap (option_map key) (slice_get-get_or xs i d at.within)) ∙ at.has_key)

-- a row at its position, changed
pub changed_at : {X : Type 0} (key : X → ℕ) (n : ℕ) (f : X → X) (xs : List X) (i : ℕ) (d y : X) → RisesFrom key 0 xs → IsAtPosition key n xs i → y ≡ get_or xs i d → set xs i (f y) ≡ map (λ x. cond (key x == n) (f x) x) xs
changed_at key n f xs i d y r at here = ap (λ z. set xs i (f z)) here ∙ sym (changed_set key n f 0 xs i d r at.within (key_at key n xs i d at))

-- a row that isn't there changes nothing
pub changed_none : {X : Type 0} (key : X → ℕ) (n : ℕ) (f : X → X) (xs : List X) → find (λ x. key x == n) xs ≡ None → xs ≡ map (λ x. cond (key x == n) (f x) x) xs
changed_none key n f [] e = refl
changed_none key n f (x ∷ xs) e = by_key (key x == n) e (changed_none key n f xs)
  where
    by_key : (t : Bool) → cond t (Some x) (find (λ y. key y == n) xs) ≡ None → (find (λ y. key y == n) xs ≡ None → xs ≡ map (λ y. cond (key y == n) (f y) y) xs) → x ∷ xs ≡ cond t (f x) x ∷ map (λ y. cond (key y == n) (f y) y) xs
    by_key true e rest = absurd (none-some x (sym e))
    by_key false e rest = ap (λ ys. x ∷ ys) (rest e)

-- changes that leave the key leave the order
pub rises-changed : {X : Type 0} (key : X → ℕ) (n : ℕ) (f : X → X) (m : ℕ) (xs : List X) → ((x : X) → key (f x) ≡ key x) → RisesFrom key m xs → RisesFrom key m (map (λ x. cond (key x == n) (f x) x) xs)
rises-changed key n f m [] keeps r = tt
rises-changed key n f m (x ∷ xs) keeps r = by_key (key x == n) (rises-changed key n f (suc (key x)) xs keeps r.1)
  where
    by_key : (t : Bool) → RisesFrom key (suc (key x)) (map (λ y. cond (key y == n) (f y) y) xs) → RisesFrom key m (cond t (f x) x ∷ map (λ y. cond (key y == n) (f y) y) xs)
    by_key true rest = rw (keeps x) (r.0, rest)
    by_key false rest = (r.0, rest)

-- ---- the rows between two keys

abbrev is_within : {X : Type 0} → (X → ℕ) → ℕ → ℕ → X → Bool
is_within key from to x = nat_le from (key x) && nat_lt (key x) to

pub position_order : {X : Type 0} (key : X → ℕ) (from to : ℕ) (xs : List X) → from ≤ to → position_in key from xs ≤ position_in key to xs
position_order key from to [] h = omega arith
position_order key from to (x ∷ xs) h = ⊎_elim
    (λ l. let p = position_next key from x xs l in let q = position_next key to x xs (omega arith) in let rest = position_order key from to xs h in omega (arith, p, q, rest))
    (λ l. let p = position_here key from x xs l in omega (arith, p))
    (below_or (key x) from)

none_within : {X : Type 0} (key : X → ℕ) (from to m : ℕ) (xs : List X) → to ≤ m → RisesFrom key m xs → filter (is_within key from to) xs ≡ []
none_within key from to m [] h r = refl
none_within key from to m (x ∷ xs) h r =
    let above : m ≤ key x = r.0 in
    ap (λ t. cond (nat_le from (key x) && t) (x ∷ filter (is_within key from to) xs) (filter (is_within key from to) xs)) (le-ltb (key x) to (omega arith))
    ∙ by_from (nat_le from (key x)) ∙ none_within key from to (suc (key x)) xs (omega arith) r.1
  where
    by_from : (t : Bool) → cond (t && false) (x ∷ filter (is_within key from to) xs) (filter (is_within key from to) xs) ≡ filter (is_within key from to) xs
    by_from true = refl
    by_from false = refl

first_within : {X : Type 0} (key : X → ℕ) (from to : ℕ) (x : X) (xs : List X) → from ≤ key x → key x < to → filter (is_within key from to) (x ∷ xs) ≡ x ∷ filter (is_within key from to) xs
first_within key from to x xs low high =
    λ i. cond (le-leb from (key x) low i && lt-ltb (key x) to high i) (x ∷ filter (is_within key from to) xs) (filter (is_within key from to) xs)

first_before : {X : Type 0} (key : X → ℕ) (from to : ℕ) (x : X) (xs : List X) → key x < from → filter (is_within key from to) (x ∷ xs) ≡ filter (is_within key from to) xs
first_before key from to x xs l =
    ap (λ t. cond (t && nat_lt (key x) to) (x ∷ filter (is_within key from to) xs) (filter (is_within key from to) xs)) (lt-leb from (key x) l)

position_none : {X : Type 0} (key : X → ℕ) (n m : ℕ) (xs : List X) → n ≤ m → RisesFrom key m xs → position_in key n xs ≡ 0
position_none key n m [] h r = refl
position_none key n m (x ∷ xs) h r = let above : m ≤ key x = r.0 in position_here key n x xs (omega arith)

pub between_is : {X : Type 0} (key : X → ℕ) (from to m : ℕ) (xs : List X) → from ≤ to → RisesFrom key m xs → take (position_in key to xs - position_in key from xs) (drop (position_in key from xs) xs) ≡ filter (is_within key from to) xs
between_is key from to m [] h r = refl
between_is key from to m (x ∷ xs) h r = ⊎_elim
    (λ l. (λ i. take (position_next key to x xs (omega arith) i - position_next key from x xs l i) (drop (position_next key from x xs l i) (x ∷ xs)))
    ∙ less ∙ between_is key from to (suc (key x)) xs h r.1 ∙ sym (first_before key from to x xs l))
    (λ l. ⊎_elim
    (λ u. (λ i. take (position_next key to x xs u i - position_here key from x xs l i) (drop (position_here key from x xs l i) (x ∷ xs)))
    ∙ ap (λ n. take n (x ∷ xs)) plain ∙ ap (λ ys. x ∷ ys) (whole (position_none key from (suc (key x)) xs (omega arith) r.1) (between_is key from to (suc (key x)) xs h r.1)) ∙ sym (first_within key from to x xs l u))
    (λ u. (λ i. take (position_here key to x xs u i - position_here key from x xs l i) (drop (position_here key from x xs l i) (x ∷ xs)))
    ∙ sym (none_within key from to (key x) (x ∷ xs) u (omega arith, r.1)))
    (below_or (key x) to))
    (below_or (key x) from)
  where
    plain : suc (position_in key to xs) - 0 ≡ suc (position_in key to xs)
    plain = omega arith

    less : take (suc (position_in key to xs) - suc (position_in key from xs)) (drop (position_in key from xs) xs) ≡ take (position_in key to xs - position_in key from xs) (drop (position_in key from xs) xs)
    less = let e : suc (position_in key to xs) - suc (position_in key from xs) ≡ position_in key to xs - position_in key from xs = omega arith in ap (λ n. take n (drop (position_in key from xs) xs)) e

    whole : position_in key from xs ≡ 0 → take (position_in key to xs - position_in key from xs) (drop (position_in key from xs) xs) ≡ filter (is_within key from to) xs → take (position_in key to xs) xs ≡ filter (is_within key from to) xs
    whole e rest =
        let least : position_in key to xs ≡ position_in key to xs - 0 = omega arith in
        ap (λ n. take n xs) least ∙ sym (λ i. take (position_in key to xs - e i) (drop (e i) xs)) ∙ rest

-- the rows not between two keys
abbrev those_outside : {X : Type 0} → (X → ℕ) → ℕ → ℕ → List X → List X
those_outside key from to xs = filter (λ x. not (is_within key from to x)) xs

outside_first : {X : Type 0} (key : X → ℕ) (from to : ℕ) (x : X) (xs : List X) → key x < from → those_outside key from to (x ∷ xs) ≡ x ∷ those_outside key from to xs
outside_first key from to x xs l =
    ap (λ t. cond (not (t && nat_lt (key x) to)) (x ∷ those_outside key from to xs) (those_outside key from to xs)) (lt-leb from (key x) l)

outside_drop : {X : Type 0} (key : X → ℕ) (from to : ℕ) (x : X) (xs : List X) → from ≤ key x → key x < to → those_outside key from to (x ∷ xs) ≡ those_outside key from to xs
outside_drop key from to x xs low high =
    λ i. cond (not (le-leb from (key x) low i && lt-ltb (key x) to high i)) (x ∷ those_outside key from to xs) (those_outside key from to xs)

all_outside : {X : Type 0} (key : X → ℕ) (from to m : ℕ) (xs : List X) → to ≤ m → RisesFrom key m xs → xs ≡ those_outside key from to xs
all_outside key from to m [] h r = refl
all_outside key from to m (x ∷ xs) h r =
    let above : m ≤ key x = r.0 in
    ap (λ ys. x ∷ ys) (all_outside key from to (suc (key x)) xs (omega arith) r.1)
    ∙ sym (ap (λ t. cond (not (nat_le from (key x) && t)) (x ∷ those_outside key from to xs) (those_outside key from to xs)) (le-ltb (key x) to (omega arith)) ∙ by_from (nat_le from (key x)))
  where
    by_from : (t : Bool) → cond (not (t && false)) (x ∷ those_outside key from to xs) (those_outside key from to xs) ≡ x ∷ those_outside key from to xs
    by_from true = refl
    by_from false = refl

pub outside_is : {X : Type 0} (key : X → ℕ) (from to m : ℕ) (xs : List X) → from ≤ to → RisesFrom key m xs → take (position_in key from xs) xs ++ drop (position_in key to xs) xs ≡ those_outside key from to xs
outside_is key from to m [] h r = refl
outside_is {X} key from to m (x ∷ xs) h r = ⊎_elim
    (λ l. (λ i. parts (position_next key from x xs l i) (position_next key to x xs (omega arith) i))
    ∙ ap (λ ys. x ∷ ys) (outside_is key from to (suc (key x)) xs h r.1) ∙ sym (outside_first key from to x xs l))
    (λ l. ⊎_elim
    (λ u. (λ i. parts (position_here key from x xs l i) (position_next key to x xs u i))
    ∙ ap (λ n. take n xs ++ drop (position_in key to xs) xs) (sym (position_none key from (suc (key x)) xs (omega arith) r.1))
    ∙ outside_is key from to (suc (key x)) xs h r.1 ∙ sym (outside_drop key from to x xs l u))
    (λ u. (λ i. parts (position_here key from x xs l i) (position_here key to x xs u i)) ∙ all_outside key from to (key x) (x ∷ xs) u (omega arith, r.1))
    (below_or (key x) to))
    (below_or (key x) from)
  where
    parts : ℕ → ℕ → List X
    parts i j = take i (x ∷ xs) ++ drop j (x ∷ xs)

-- where all that stands before a key passes, a filter begins there
pub front_passes : {X : Type 0} (key : X → ℕ) (n : ℕ) (test : X → Bool) (xs : List X) → AllByRecursion (λ x. key x < n → test x ≡ true) xs → take (position_in key n xs) xs ++ filter test (drop (position_in key n xs) xs) ≡ filter test xs
front_passes key n test [] pass = refl
front_passes {X} key n test (x ∷ xs) pass = ⊎_elim
    (λ l. ap parts (position_next key n x xs l) ∙ ap (λ ys. x ∷ ys) (front_passes key n test xs pass.1)
    ∙ sym (ap (λ t. cond t (x ∷ filter test xs) (filter test xs)) (pass.0 l)))
    (λ l. ap parts (position_here key n x xs l))
    (below_or (key x) n)
  where
    parts : ℕ → List X
    parts i = take i (x ∷ xs) ++ filter test (drop i (x ∷ xs))

-- ---- rows that are there

-- what is in rows that rise from a key isn't below it
pub in_above : {X : Type 0} (key : X → ℕ) (m : ℕ) (x : X) (xs : List X) → RisesFrom key m xs → In x xs → m ≤ key x
in_above key m x [] up there = absurd there
in_above key m x (y ∷ ys) up there =
    let low : m ≤ key y = up.0 in
    ⊎_elim (λ e. omega (arith, low, ap key e)) (λ t. let high : suc (key y) ≤ key x = in_above key (suc (key y)) x ys up.1 t in omega (arith, low, high)) there

-- of rows that rise, one key is one row
pub one_key : {X : Type 0} (key : X → ℕ) (m : ℕ) (x y : X) (xs : List X) → RisesFrom key m xs → In x xs → In y xs → key x ≡ key y → x ≡ y
one_key key m x y [] up tx ty e = absurd tx
one_key key m x y (z ∷ zs) up tx ty e = ⊎_elim
    (λ ex. ⊎_elim
    (λ ey. sym ex ∙ ey)
    (λ ty. let high : suc (key z) ≤ key y = in_above key (suc (key z)) y zs up.1 ty in absurd (omega (arith, high, e, ap key ex)))
    ty)
    (λ tx. ⊎_elim
    (λ ey. let high : suc (key z) ≤ key x = in_above key (suc (key z)) x zs up.1 tx in absurd (omega (arith, high, e, ap key ey)))
    (λ ty. one_key key (suc (key z)) x y zs up.1 tx ty e)
    ty)
    tx

-- lists that rise and have the same rows are one list
pub same_rows : {X : Type 0} (key : X → ℕ) (m n : ℕ) (xs ys : List X) → RisesFrom key m xs → RisesFrom key n ys → ((z : X) → In z xs → In z ys) → ((z : X) → In z ys → In z xs) → xs ≡ ys
same_rows key m n [] [] up to there back = refl
same_rows key m n [] (y ∷ ys) up to there back = absurd (back y (inl refl))
same_rows key m n (x ∷ xs) [] up to there back = absurd (there x (inl refl))
same_rows {X} key m n (x ∷ xs) (y ∷ ys) up to there back =
    λ i. first i ∷ same_rows key (suc (key x)) (suc (key y)) xs ys up.1 to.1 rest tser i
  where
    first : x ≡ y
    first = ⊎_elim
        (λ e. sym e)
        (λ t. ⊎_elim
        (λ e. e)
        (λ u. let above : suc (key y) ≤ key x = in_above key (suc (key y)) x ys to.1 t in let below : suc (key x) ≤ key y = in_above key (suc (key x)) y xs up.1 u in absurd (omega (arith, above, below)))
        (back y (inl refl)))
        (there x (inl refl))

    rest : (z : X) → In z xs → In z ys
    rest z t = ⊎_elim
        (λ e. let above : suc (key x) ≤ key z = in_above key (suc (key x)) z xs up.1 t in absurd (omega (arith, above, ap key e, ap key first)))
        (λ u. u)
        (there z (inr t))

    tser : (z : X) → In z ys → In z xs
    tser z t = ⊎_elim
        (λ e. let above : suc (key y) ≤ key z = in_above key (suc (key y)) z ys to.1 t in absurd (omega (arith, above, ap key e, ap key first)))
        (λ u. u)
        (back z (inr t))
