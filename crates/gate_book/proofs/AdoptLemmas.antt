-- Queues of other settings, taken one by one.
use Rattle.std.proofs.Common.{◌≡◌, ◌<◌, ◌≤◌, ℕ, zero, suc, Bool, true, false, not, ◌||◌, cond, Some, None, List, []}
use Rattle.std.proofs.Common.{◌∷◌, ◌++◌, map, take, drop, length, get_or, set, refl, sym, ap, ◌∙◌, subst, arith}
use Rattle.std.proofs.Common.{true≢false}
use Rattle.std.specs.Prelude.{find, nat_lt, option_map, remove}
use Rattle.std.specs.List.{AllByRecursion, list_any, position, position_or_len}
use Rattle.std.specs.Option.{option_map_or}
use Rattle.std.proofs.lemmas.Bool.{and_parts, ltb-true, not-true}
use Rattle.std.proofs.lemmas.Bool.Decides.{nat_tests}
use Rattle.std.proofs.lemmas.List.Folds.{find_at}
use Rattle.std.proofs.lemmas.List.Sums.{passes_at_first}
use Rattle.std.proofs.lemmas.Option.{slice_get-get_or, slice_get_past}
use Rattle.std.proofs.lemmas.Slice.Eq.{bytes_eq-Decides}
use Rattle.gate_types.specs.Names.{same_name}
use Rattle.gate_types.specs.Settings.{Settings, are_distinct}
use Rattle.gate_types.specs.Tables.{QueueRows}
use Rattle.gate_types.specs.AdoptedTables.{adopted_rows, empty_rows, resized_rows}
use Rattle.gate_types.specs.declared.config.Queue.{Queue as QueueSetting}
use Rattle.gate_types.proofs.PlainLemmas.{some_is}
use Rattle.gate_book_trait.specs.RowReads.{rows_named}

-- ---- one is taken out

-- found among what is made of things as among the things
found_map : {X Y : Type 0} (f : X → Y) (p : X → Bool) (q : Y → Bool) → ((x : X) → q (f x) ≡ p x) → (xs : List X) → find q (map f xs) ≡ option_map f (find p xs)
found_map f p q same [] = refl
found_map {X} {Y} f p q same (x ∷ xs) = ap (λ b. cond b (Some (f x)) (find q (map f xs))) (same x) ∙ by_test (p x) (found_map f p q same xs)
  where
    by_test : (b : Bool) → find q (map f xs) ≡ option_map f (find p xs) → cond b (Some (f x)) (find q (map f xs)) ≡ option_map f (cond b (Some x) (find p xs))
    by_test true h = refl
    by_test false h = h

-- the place of the first that passes
first_place : {X : Type 0} (p : X → Bool) (xs : List X) (n : ℕ) → position p xs ≡ Some n → (position_or_len p xs ≡ n) × (position_or_len p xs < length xs)
first_place {X} p xs n at = by_test (nat_lt (position_or_len p xs) (length xs)) refl at
  where
    by_test : (b : Bool) → nat_lt (position_or_len p xs) (length xs) ≡ b → cond b (Some (position_or_len p xs)) None ≡ Some n → (position_or_len p xs ≡ n) × (position_or_len p xs < length xs)
    by_test true h is = (some_is (position_or_len p xs) n is, ltb-true (position_or_len p xs) (length xs) h)
    by_test false h is = absurd cc

-- the first that passes is found
pub found_first : {X Y : Type 0} (f : X → Y) (p : X → Bool) (q : Y → Bool) → ((x : X) → q (f x) ≡ p x) → (xs : List X) (n : ℕ) (d : X) → position p xs ≡ Some n →
    (n < length xs) × (Some (f (get_or xs n d)) ≡ find q (map f xs)) × (p (get_or xs n d) ≡ true)
found_first {X} {Y} f p q same xs n d at =
    let (is, within) = first_place p xs n at in
    subst (λ k. (k < length xs) × (Some (f (get_or xs k d)) ≡ find q (map f xs)) × (p (get_or xs k d) ≡ true)) is
    (within, sym (found_map f p q same xs ∙ ap (option_map f) (find_at p xs ∙ slice_get-get_or xs (position_or_len p xs) d within)), passes_at_first p xs d within)

-- none is found where there is none
pub found_none : {X Y : Type 0} (f : X → Y) (p : X → Bool) (q : Y → Bool) → ((x : X) → q (f x) ≡ p x) → (xs : List X) → position p xs ≡ None → find q (map f xs) ≡ None
found_none {X} {Y} f p q same xs at = found_map f p q same xs ∙ ap (option_map f) (by_test (nat_lt (position_or_len p xs) (length xs)) refl at)
  where
    by_test : (b : Bool) → nat_lt (position_or_len p xs) (length xs) ≡ b → cond b (Some (position_or_len p xs)) None ≡ None → find p xs ≡ None
    by_test true h is = absurd cc
    by_test false h is = let past : length xs ≤ position_or_len p xs = grind (arith, nat_tests) in find_at p xs ∙ slice_get_past xs (position_or_len p xs) past

-- what doesn't pass is not missed
pub others_found : {X Y : Type 0} (f : X → Y) (q : Y → Bool) (xs : List X) (n : ℕ) (d : X) → n < length xs → q (f (get_or xs n d)) ≡ false → find q (map f (remove xs n)) ≡ find q (map f xs)
others_found f q [] n d within none = absurd (omega (arith, within))
others_found f q (x ∷ xs) zero d within none = sym (ap (λ b. cond b (Some (f x)) (find q (map f xs))) none)
others_found f q (x ∷ xs) (suc n) d within none = ap (λ o. cond (q (f x)) (Some (f x)) o) (others_found f q xs n d (omega (arith, within)) none)

-- what is true of all stays so where one is set
pub all_set : {X : Type 0} (P : X → Type 0) (xs : List X) (n : ℕ) (y : X) → AllByRecursion P xs → P y → AllByRecursion P (set xs n y)
all_set P [] n y all h = tt
all_set P (x ∷ xs) zero y all h = (h, all.1)
all_set P (x ∷ xs) (suc n) y all h = (all.0, all_set P xs n y all.1 h)

-- ---- the queues of the settings, up to one

-- the rows so far: those of the queues that are there, then those of new ones
abbrev pub rows_so_far : Settings → List QueueRows → ℕ → List QueueSetting → List QueueRows
rows_so_far c told n rs = map (adopted_rows c told) (take n rs) ++ map empty_rows (drop n rs)

-- they are as many as the settings
pub so_far_length : (c : Settings) (told : List QueueRows) (n : ℕ) (rs : List QueueSetting) → length (rows_so_far c told n rs) ≡ length rs
so_far_length c told zero [] = refl
so_far_length c told zero (x ∷ xs) = ap (λ m. suc m) (so_far_length c told zero xs)
so_far_length c told (suc n) [] = refl
so_far_length c told (suc n) (x ∷ xs) = ap (λ m. suc m) (so_far_length c told n xs)

-- a queue of none of the settings so far is there still
abbrev pub AreLeft : List QueueRows → List QueueRows → ℕ → List QueueSetting → Type 0
AreLeft told left n rs = (name : List ℕ) → list_any (λ (r : QueueSetting). same_name r.name name) (take n rs) ≡ false → rows_named left name ≡ rows_named told name

pub so_far_none : (c : Settings) (told : List QueueRows) (n : ℕ) (rs : List QueueSetting) (r : QueueSetting) → n < length rs → r ≡ get_or rs n r → rows_named told r.name ≡ None → rows_so_far c told n rs ≡ rows_so_far c told (suc n) rs
so_far_none c told n [] r within is none = absurd (omega (arith, within))
so_far_none c told zero (x ∷ xs) r within is none =
    let same : r ≡ x = is in
    sym (ap (λ o. option_map_or (resized_rows c x) o (empty_rows x) ∷ map empty_rows xs) (subst (λ (y : QueueSetting). rows_named told y.name ≡ None) same none))
so_far_none c told (suc n) (x ∷ xs) r within is none = ap (λ l. adopted_rows c told x ∷ l) (so_far_none c told n xs r (omega (arith, within)) is none)

pub so_far_one : (c : Settings) (told : List QueueRows) (n : ℕ) (rs : List QueueSetting) (r : QueueSetting) (q q' : QueueRows) → n < length rs → r ≡ get_or rs n r → rows_named told r.name ≡ Some q → q' ≡ resized_rows c r q →
    set (rows_so_far c told n rs) n q' ≡ rows_so_far c told (suc n) rs
so_far_one c told n [] r q q' within is one made = absurd (omega (arith, within))
so_far_one c told zero (x ∷ xs) r q q' within is one made =
    let same : r ≡ x = is in
    ap (λ l. l ∷ map empty_rows xs) (made ∙ ap (λ (y : QueueSetting). resized_rows c y q) same)
    ∙ sym (ap (λ o. option_map_or (resized_rows c x) o (empty_rows x) ∷ map empty_rows xs) (subst (λ (y : QueueSetting). rows_named told y.name ≡ Some q) same one))
so_far_one c told (suc n) (x ∷ xs) r q q' within is one made = ap (λ l. adopted_rows c told x ∷ l) (so_far_one c told n xs r q q' (omega (arith, within)) is one made)

either : (a b : Bool) → (a || b) ≡ false → (a ≡ false) × (b ≡ false)
either true b e = absurd (true≢false e)
either false b e = (refl, e)

apart : (x : QueueSetting) (n : ℕ) (xs : List QueueSetting) (r : QueueSetting) → n < length xs → r ≡ get_or xs n r → list_any (same_name x.name) (map (λ (r : QueueSetting). r.name) xs) ≡ false → same_name x.name r.name ≡ false
apart x n [] r within is none = absurd (omega (arith, within))
apart x zero (y ∷ ys) r within is none =
    let same : r ≡ y = is in
    ap (λ (z : QueueSetting). same_name x.name z.name) same ∙ (either (same_name x.name y.name) _ none).0
apart x (suc n) (y ∷ ys) r within is none = apart x n ys r (omega (arith, within)) is (either (same_name x.name y.name) _ none).1

-- a setting is none of those before it
pub not_before : (n : ℕ) (rs : List QueueSetting) (r : QueueSetting) → are_distinct (map (λ (r : QueueSetting). r.name) rs) ≡ true → n < length rs → r ≡ get_or rs n r → list_any (λ (x : QueueSetting). same_name x.name r.name) (take n rs) ≡ false
not_before n [] r differ within is = absurd (omega (arith, within))
not_before zero (x ∷ xs) r differ within is = refl
not_before (suc n) (x ∷ xs) r differ within is =
    let both = and_parts (not (list_any (same_name x.name) (map (λ (r : QueueSetting). r.name) xs))) (are_distinct (map (λ (r : QueueSetting). r.name) xs)) differ in
    let none = not-true (list_any (same_name x.name) (map (λ (r : QueueSetting). r.name) xs)) both.0 in
    ap (λ b. b || list_any (λ (x : QueueSetting). same_name x.name r.name) (take n xs)) (apart x n xs r (omega (arith, within)) is none)
    ∙ not_before n xs r both.1 (omega (arith, within)) is

split : (n : ℕ) (rs : List QueueSetting) (r : QueueSetting) → n < length rs → r ≡ get_or rs n r → (name : List ℕ) → list_any (λ (x : QueueSetting). same_name x.name name) (take (suc n) rs) ≡ false →
    (list_any (λ (x : QueueSetting). same_name x.name name) (take n rs) ≡ false) × (same_name r.name name ≡ false)
split n [] r within is name none = absurd (omega (arith, within))
split zero (x ∷ xs) r within is name none =
    let same : r ≡ x = is in
    (refl, ap (λ (z : QueueSetting). same_name z.name name) same ∙ (either (same_name x.name name) _ none).0)
split (suc n) (x ∷ xs) r within is name none =
    let here = either (same_name x.name name) _ none in
    let more = split n xs r (omega (arith, within)) is name here.1 in
    (ap (λ b. b || list_any (λ (x : QueueSetting). same_name x.name name) (take n xs)) here.0 ∙ more.0, more.1)

-- one of more settings is one of them, or the last
pub left_more : (told left next : List QueueRows) (n : ℕ) (rs : List QueueSetting) (r : QueueSetting) → n < length rs → r ≡ get_or rs n r →
    ((name : List ℕ) → same_name r.name name ≡ false → rows_named next name ≡ rows_named left name) → AreLeft told left n rs → AreLeft told next (suc n) rs
left_more told left next n rs r within is others are name none =
    let both = split n rs r within is name none in
    others name both.1 ∙ are name both.0

-- of two names that differ, what has the one hasn't the other
pub named_apart : (a b other : List ℕ) → same_name a b ≡ true → same_name b other ≡ false → same_name a other ≡ false
named_apart a b other same apart = ap (λ n. same_name n other) ((bytes_eq-Decides a b).0 same) ∙ apart

-- a map of a list with one thing put at a place
pub map_set : {X Y : Type 0} (f : X → Y) (xs : List X) (n : ℕ) (y : X) → map f (set xs n y) ≡ set (map f xs) n (f y)
map_set f [] n y = refl
map_set f (x ∷ xs) zero y = refl
map_set f (x ∷ xs) (suc n) y = ap (λ l. f x ∷ l) (map_set f xs n y)
