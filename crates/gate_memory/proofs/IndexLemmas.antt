-- The index of all builds.
use Rattle.std.proofs.Common.{◌≡◌, ◌≢◌, ◌⊎◌, ℕ, zero, suc, ◌<◌, ◌≤◌, inl, inr, ⊎_elim, Bool, true, false, not, cond}
use Rattle.std.proofs.Common.{Option, Some, None, List, [], ◌∷◌, length, map, drop, refl, sym, ap, subst, eqb-true}
use Rattle.std.proofs.Common.{◌∙◌, arith}
use Rattle.std.specs.Prelude.{◌==◌, ◌-◌, filter, find, option_map}
use Rattle.std.specs.List.{AllByRecursion, filter_map, cons_option}
use Rattle.std.proofs.lemmas.Bool.{eq-eqb, ne_eqb, false≢true}
use Rattle.std.proofs.lemmas.List.{drop-map, length-map}
use Rattle.std.proofs.lemmas.Option.{none-some}
use Rattle.gate_types.specs.declared.records.Build.{Build}
use Rattle.gate_types.specs.State.{put_by}
use Rattle.gate_types.specs.Rows.{change_build}
use Rattle.gate_types.specs.Rising.{RisesFrom, In}
use Rattle.gate_types.proofs.PlainLemmas.{below_or}
use Rattle.gate_archive.specs.declared.rows.BuildSummary.{BuildSummary}
use Rattle.gate_archive.specs.ItemText.{last_of, summary_of}
use Rattle.gate_book_trait.proofs.Finding.{all_in}
use Rattle.gate_memory.specs.declared.pairs.Pair.{Pair}
use Rattle.gate_memory.specs.Sorted.{without}
use Rattle.gate_memory.specs.Pairs.{pair_key, IsFit}
use Rattle.gate_memory.specs.Builds.{Indexes, number_of_build, is_build_of, pair_of}
use Rattle.gate_memory.proofs.SortedLemmas.{put_first, put_before, put_after, in_above, one_key, rises-put}
use Rattle.gate_memory.proofs.SortedLemmas.{rises-without, rises-filter, same_rows}
use Rattle.gate_memory.proofs.PairLemmas.{same_pair, seconds_of, second_in, seconds_rise, filter_map_seconds}
use Rattle.gate_memory.proofs.BuildLemmas.{all_put, all_without, in_put, still_in, in_without}
use Rattle.gate_memory.proofs.NeedLemmas.{all_from, in_filter, from_filter}

-- ---- rows that are there

-- what stands after a put is what was put, or was there under another key
pub put_in : {X : Type 0} (key : X → ℕ) (x z : X) (m : ℕ) (xs : List X) → RisesFrom key m xs → In z (put_by key x xs) →
    (x ≡ z) ⊎ (In z xs × (key z ≢ key x))
put_in key x z m [] up there = ⊎_elim (λ e. inl e) (λ t. absurd t) there
put_in {X} key x z m (y ∷ ys) up there = ⊎_elim
    (λ l. before l (subst (In z) (put_before key x y ys l) there))
    (λ l. ⊎_elim
    (λ n. after n (put_in key x z (suc (key y)) ys up.1) (subst (In z) (put_after key x y ys n) there))
    (λ n. let e : key x ≡ key y = omega arith in first e (subst (In z) (put_first key x y ys e) there))
    (below_or (key y) (key x)))
    (below_or (key x) (key y))
  where
    before : key x < key y → In z (x ∷ y ∷ ys) → (x ≡ z) ⊎ (In z (y ∷ ys) × (key z ≢ key x))
    before l t = ⊎_elim
        (λ e. inl e)
        (λ u. let high : key y ≤ key z = in_above key (key y) z (y ∷ ys) (omega arith, up.1) u in inr (u, λ e. omega (arith, l, high, e)))
        t

    after : key y < key x → (In z (put_by key x ys) → (x ≡ z) ⊎ (In z ys × (key z ≢ key x))) → In z (y ∷ put_by key x ys) →
        (x ≡ z) ⊎ (In z (y ∷ ys) × (key z ≢ key x))
    after l rest t = ⊎_elim
        (λ e. inr (inl e, λ k. omega (arith, l, ap key e, k)))
        (λ u. ⊎_elim (λ e. inl e) (λ w. inr (inr w.0, w.1)) (rest u))
        t

    first : key x ≡ key y → In z (x ∷ ys) → (x ≡ z) ⊎ (In z (y ∷ ys) × (key z ≢ key x))
    first k t = ⊎_elim
        (λ e. inl e)
        (λ u. let high : suc (key y) ≤ key z = in_above key (suc (key y)) z ys up.1 u in inr (inr u, λ e. omega (arith, k, high, e)))
        t

pub in_map : {X Y : Type 0} (f : X → Y) (x : X) (xs : List X) → In x xs → In (f x) (map f xs)
in_map f x [] there = there
in_map f x (y ∷ ys) there = ⊎_elim (λ e. inl (ap f e)) (λ t. inr (in_map f x ys t)) there

pub from_map : {X Y : Type 0} (f : X → Y) (y : Y) (xs : List X) → In y (map f xs) → (x : X) × In x xs × (f x ≡ y)
from_map f y [] there = absurd there
from_map f y (x ∷ xs) there = ⊎_elim (λ e. (x, inl refl, e)) (λ t. let r = from_map f y xs t in (r.0, inr r.1, r.2)) there

-- a row under another key stays
pub stays : {X : Type 0} (key : X → ℕ) (n : ℕ) (x : X) → key x ≢ n → not (key x == n) ≡ true
stays key n x ne = ap not (ne_eqb (key x) n ne)

pub other : {X : Type 0} (key : X → ℕ) (n : ℕ) (x : X) → not (key x == n) ≡ true → key x ≢ n
other key n x h e = false≢true (sym (ap not (eq-eqb (key x) n e)) ∙ h)

-- nothing is dropped where nothing is found
pub without_absent : {X : Type 0} (key : X → ℕ) (n : ℕ) (xs : List X) → find (λ x. key x == n) xs ≡ None → xs ≡ without key n xs
without_absent key n [] e = refl
without_absent {X} key n (x ∷ xs) e = by_key (key x == n) e (without_absent key n xs)
  where
    by_key : (t : Bool) → cond t (Some x) (find (λ y. key y == n) xs) ≡ None →
        (find (λ y. key y == n) xs ≡ None → xs ≡ without key n xs) →
        x ∷ xs ≡ cond (not t) (x ∷ without key n xs) (without key n xs)
    by_key true e rest = absurd (none-some x (sym e))
    by_key false e rest = ap (λ ys. x ∷ ys) (rest e)

-- ---- the index

-- a build dropped, and its pair
pub index_forgets : (pairs : List Pair) (b : Build) (builds : List Build) → RisesFrom number_of_build 0 builds → In b builds →
    Indexes pairs builds → Indexes (without pair_key (pair_key (pair_of b)) pairs) (without number_of_build b.number builds)
index_forgets pairs b builds up here index = record {
  rise = rises-without pair_key (pair_key (pair_of b)) 0 pairs index.rise;
  fit = all_without IsFit pair_key (pair_key (pair_of b)) pairs index.fit;
  told = record { there = there; back = back };
}
  where
    fits : (x : Build) → In x builds → IsFit (pair_of x)
    fits x t = all_in IsFit pairs (pair_of x) index.fit (index.told.there x t)

    there : (x : Build) → In x (without number_of_build b.number builds) → In (pair_of x) (without pair_key (pair_key (pair_of b)) pairs)
    there x t =
        let r = from_filter (λ (y : Build). not (number_of_build y == b.number)) x builds t in
        in_without pair_key (pair_key (pair_of b)) (pair_of x) pairs
        (λ e. other number_of_build b.number x r.1 (ap (λ (q : Pair). q.second) (same_pair (pair_of x) (pair_of b) (fits x r.0) (fits b here) e)))
        (index.told.there x r.0)

    back : (p : Pair) → In p (without pair_key (pair_key (pair_of b)) pairs) →
        (x : Build) × In x (without number_of_build b.number builds) × (pair_of x ≡ p)
    back p t =
        let r = from_filter (λ (q : Pair). not (pair_key q == pair_key (pair_of b))) p pairs t in
        let x = index.told.back p r.0 in (
          x.0,
          in_filter (λ (y : Build). not (number_of_build y == b.number)) x.0 builds
              (stays number_of_build b.number x.0 (λ e. other pair_key (pair_key (pair_of b)) p r.1
              (ap pair_key (sym x.2 ∙ ap pair_of (one_key number_of_build 0 x.0 b builds up x.1 here e))))) x.1,
          x.2,
        )

-- a build put where none has its number, and its pair
pub index_notes : (pairs : List Pair) (b : Build) (builds : List Build) → RisesFrom number_of_build 0 builds → IsFit (pair_of b) →
    Indexes pairs (without number_of_build b.number builds) →
    Indexes (put_by pair_key (pair_of b) pairs) (put_by number_of_build b builds)
index_notes pairs b builds up small index = record {
  rise = rises-put pair_key 0 (pair_of b) pairs (omega arith) index.rise;
  fit = all_put IsFit pair_key (pair_of b) pairs small index.fit;
  told = record { there = there; back = back };
}
  where
    there : (x : Build) → In x (put_by number_of_build b builds) → In (pair_of x) (put_by pair_key (pair_of b) pairs)
    there x t = ⊎_elim
        (λ e. subst (λ y. In (pair_of y) (put_by pair_key (pair_of b) pairs)) e (in_put pair_key (pair_of b) pairs))
        (λ r. let told = index.told.there x (in_filter (λ (y : Build). not (number_of_build y == b.number)) x builds (stays number_of_build b.number x r.1) r.0) in
        still_in pair_key (pair_of b) (pair_of x) pairs (λ e. same_pair (pair_of x) (pair_of b) (all_in IsFit pairs (pair_of x) index.fit told) small e) told)
        (put_in number_of_build b x 0 builds up t)

    back : (p : Pair) → In p (put_by pair_key (pair_of b) pairs) → (x : Build) × In x (put_by number_of_build b builds) × (pair_of x ≡ p)
    back p t = ⊎_elim
        (λ e. (b, in_put number_of_build b builds, e))
        (λ r. let x = index.told.back p r.0 in
        let s = from_filter (λ (y : Build). not (number_of_build y == b.number)) x.0 builds x.1 in
        (x.0, still_in number_of_build b x.0 builds (λ e. absurd (other number_of_build b.number x.0 s.1 e)) s.0, x.2))
        (put_in pair_key (pair_of b) p 0 pairs index.rise t)

-- builds changed, but not in what their pairs tell
pub index_changed : (pairs : List Pair) (n : ℕ) (f : Build → Build) (builds : List Build) →
    ((b : Build) → pair_of (f b) ≡ pair_of b) → Indexes pairs builds → Indexes pairs (change_build n f builds)
index_changed pairs n f builds pair index = record {
  rise = index.rise;
  fit = index.fit;
  told = record { there = there; back = back };
}
  where
    changed : Build → Build
    changed b = cond (b.number == n) (f b) b

    same : (b : Build) → pair_of (changed b) ≡ pair_of b
    same b = by_number (b.number == n)
      where
        by_number : (t : Bool) → pair_of (cond t (f b) b) ≡ pair_of b
        by_number true = pair b
        by_number false = refl

    there : (x : Build) → In x (change_build n f builds) → In (pair_of x) pairs
    there x t =
        let r = from_map changed x builds t in
        subst (λ q. In q pairs) (sym (same r.0) ∙ ap pair_of r.2) (index.told.there r.0 r.1)

    back : (p : Pair) → In p pairs → (x : Build) × In x (change_build n f builds) × (pair_of x ≡ p)
    back p t =
        let x = index.told.back p t in
        (changed x.0, in_map changed x.0 builds x.1, same x.0 ∙ x.2)

-- ---- reads

pub rises-map : {X : Type 0} (key : X → ℕ) (m : ℕ) (xs : List X) → RisesFrom key m xs → RisesFrom (λ (n : ℕ). n) m (map key xs)
rises-map key m [] up = tt
rises-map key m (x ∷ xs) up = (up.0, rises-map key (suc (key x)) xs up.1)

-- the pairs of a serial tell the numbers of its builds
pub numbers_of_index : (n : ℕ) (pairs : List Pair) (builds : List Build) → RisesFrom number_of_build 0 builds → Indexes pairs builds →
    seconds_of n pairs ≡ map number_of_build (filter (is_build_of n) builds)
numbers_of_index n pairs builds up index =
    same_rows (λ (i : ℕ). i) 0 0 (seconds_of n pairs) (map number_of_build (filter (is_build_of n) builds))
    (seconds_rise n 0 0 pairs index.rise (λ q h e. omega arith))
    (rises-map number_of_build 0 (filter (is_build_of n) builds) (rises-filter number_of_build (is_build_of n) 0 builds up)) there back
  where
    there : (z : ℕ) → In z (seconds_of n pairs) → In z (map number_of_build (filter (is_build_of n) builds))
    there z t =
        let r = from_map (λ (q : Pair). q.second) z (filter (λ (q : Pair). q.first == n) pairs) t in
        let s = from_filter (λ (q : Pair). q.first == n) r.0 pairs r.1 in
        let x = index.told.back r.0 s.0 in
        subst (λ i. In i (map number_of_build (filter (is_build_of n) builds))) (ap (λ (q : Pair). q.second) x.2 ∙ r.2)
        (in_map number_of_build x.0 (filter (is_build_of n) builds) (in_filter (is_build_of n) x.0 builds (ap (λ (q : Pair). q.first == n) x.2 ∙ s.1) x.1))

    back : (z : ℕ) → In z (map number_of_build (filter (is_build_of n) builds)) → In z (seconds_of n pairs)
    back z t =
        let r = from_map number_of_build z (filter (is_build_of n) builds) t in
        let s = from_filter (is_build_of n) r.0 builds r.1 in
        subst (λ i. In i (seconds_of n pairs)) r.2 (second_in n (pair_of r.0) pairs (eqb-true r.0.serial n s.1) (index.told.there r.0 s.0))

-- so they are as many
pub count_of_index : (n : ℕ) (pairs : List Pair) (builds : List Build) → RisesFrom number_of_build 0 builds → Indexes pairs builds →
    length (filter (λ (p : Pair). p.first == n) pairs) ≡ length (filter (is_build_of n) builds)
count_of_index n pairs builds up index =
    sym (length-map (filter (λ (p : Pair). p.first == n) pairs) (λ (p : Pair). p.second))
    ∙ ap length (numbers_of_index n pairs builds up index) ∙ length-map (filter (is_build_of n) builds) number_of_build

-- ---- the last of them

map_last : {X Y : Type 0} (f : X → Y) (most : ℕ) (xs : List X) → map f (last_of most xs) ≡ last_of most (map f xs)
map_last f most xs = sym (drop-map f (length xs - most) xs) ∙ ap (λ n. drop (n - most) (map f xs)) (sym (length-map xs f))

all_drop : {X : Type 0} (P : X → Type 0) (k : ℕ) (xs : List X) → AllByRecursion P xs → AllByRecursion P (drop k xs)
all_drop P zero xs all = all
all_drop P (suc k) [] all = tt
all_drop P (suc k) (x ∷ xs) all = all_drop P k xs all.1

-- a row that is there is found by its key
pub finds_row : {X : Type 0} (key : X → ℕ) (x : X) (m : ℕ) (xs : List X) → RisesFrom key m xs → In x xs →
    find (λ y. key y == key x) xs ≡ Some x
finds_row key x m [] up there = absurd there
finds_row key x m (y ∷ ys) up there = ⊎_elim
    (λ e. ap (λ t. cond t (Some y) (find (λ z. key z == key x) ys)) (eq-eqb (key y) (key x) (ap key e)) ∙ ap (λ z. Some z) e)
    (λ t. let high : suc (key y) ≤ key x = in_above key (suc (key y)) x ys up.1 t in
    ap (λ t. cond t (Some y) (find (λ z. key z == key x) ys)) (ne_eqb (key y) (key x) (λ e. omega (arith, high, e)))
    ∙ finds_row key x (suc (key y)) ys up.1 t)
    there

-- what is told of the build of a number
abbrev pub told_of : List Build → ℕ → Option BuildSummary
told_of builds n = option_map summary_of (find (λ b. b.number == n) builds)

told_each : (builds fs : List Build) → AllByRecursion (λ (b : Build). find (λ x. x.number == b.number) builds ≡ Some b) fs →
    filter_map (told_of builds) (map number_of_build fs) ≡ map summary_of fs
told_each builds [] all = refl
told_each builds (b ∷ bs) all =
    λ i. cons_option (option_map summary_of (all.0 i)) (told_each builds bs all.1 i)

-- the last pairs of a serial tell of its last builds
pub last_of_index : (n most : ℕ) (pairs : List Pair) (builds : List Build) → RisesFrom number_of_build 0 builds → Indexes pairs builds →
    filter_map (λ (p : Pair). told_of builds p.second) (last_of most (filter (λ (p : Pair). p.first == n) pairs))
    ≡ map summary_of (last_of most (filter (is_build_of n) builds))
last_of_index n most pairs builds up index =
    let those = filter (λ (p : Pair). p.first == n) pairs in
    let its = filter (is_build_of n) builds in
    filter_map_seconds (told_of builds) (last_of most those)
    ∙ ap (filter_map (told_of builds)) (map_last (λ (p : Pair). p.second) most those
    ∙ ap (last_of most) (numbers_of_index n pairs builds up index) ∙ sym (map_last number_of_build most its))
    ∙ told_each builds (last_of most its)
    (all_drop (λ (b : Build). find (λ x. x.number == b.number) builds ≡ Some b) (length its - most) its
    (all_from (λ (b : Build). find (λ x. x.number == b.number) builds ≡ Some b) its
    (λ b t. finds_row number_of_build b 0 builds up (from_filter (is_build_of n) b builds t).0)))
