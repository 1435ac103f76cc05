-- Builds that go, and their pairs.
use Rattle.std.proofs.Common.{◌≡◌, ℕ, suc, ◌≤◌, inl, inr, ⊎_elim, Bool, true, not, cond, Some, None, List, [], ◌∷◌}
use Rattle.std.proofs.Common.{map, refl, sym, ap, ◌∙◌, arith}
use Rattle.std.specs.Prelude.{◌==◌, filter, option_map, unwrap_or}
use Rattle.std.specs.List.{AllByRecursion}
use Rattle.std.proofs.lemmas.Bool.Decides.{eqb_tells}
use Rattle.std.proofs.lemmas.Option.{none-some}
use Rattle.gate_types.specs.declared.records.Build.{Build}
use Rattle.gate_types.specs.Rising.{RisesFrom, In}
use Rattle.gate_book_trait.proofs.Finding.{all_in}
use Rattle.gate_memory.specs.declared.pairs.Pair.{Pair}
use Rattle.gate_memory.specs.Sorted.{first_of, without}
use Rattle.gate_memory.specs.Pairs.{pair_key, IsFit}
use Rattle.gate_memory.specs.Builds.{Indexes, TellsLive, number_of_build, is_build_of, pair_of}
use Rattle.gate_memory.proofs.SortedLemmas.{in_above, rises-filter}
use Rattle.gate_memory.proofs.PairLemmas.{same_pair, seconds_of, second_in, seconds_rise}
use Rattle.gate_memory.proofs.BuildLemmas.{in_without}
use Rattle.gate_memory.proofs.NeedLemmas.{all_from, all_filter, in_filter, from_filter}
use Rattle.gate_memory.proofs.IndexLemmas.{other}

-- a build dropped, and its pair
pub tells_dropped : (pairs : List Pair) (p : Pair) (n : ℕ) (builds : List Build) → AllByRecursion IsFit pairs → IsFit p → p.second ≡ n →
    TellsLive pairs builds → TellsLive (without pair_key (pair_key p) pairs) (without number_of_build n builds)
tells_dropped pairs p n builds fit small second told =
    all_from (λ (b : Build). b.live ≡ true → In (pair_of b) (without pair_key (pair_key p) pairs)) (without number_of_build n builds)
    (λ b t live.
    let r = from_filter (λ (x : Build). not (number_of_build x == n)) b builds t in
    let there = all_in (λ (x : Build). x.live ≡ true → In (pair_of x) pairs) builds b told r.0 live in
    in_without pair_key (pair_key p) (pair_of b) pairs
    (λ e. other number_of_build n b r.1 (ap (λ (q : Pair). q.second) (same_pair (pair_of b) p (all_in IsFit pairs (pair_of b) fit there) small e) ∙ second)) there)

-- ---- all builds of a serial

-- what isn't of a serial
abbrev pub pairs_without : ℕ → List Pair → List Pair
pairs_without n pairs = filter (λ (p : Pair). not (p.first == n)) pairs

abbrev pub builds_without : ℕ → List Build → List Build
builds_without n builds = filter (λ (b : Build). not (is_build_of n b)) builds

pub index_drops : (n : ℕ) (pairs : List Pair) (builds : List Build) → Indexes pairs builds → Indexes (pairs_without n pairs) (builds_without n builds)
index_drops n pairs builds index = record {
  rise = rises-filter pair_key (λ (p : Pair). not (p.first == n)) 0 pairs index.rise;
  fit = all_filter IsFit (λ (p : Pair). not (p.first == n)) pairs index.fit;
  told = record { there = there; back = back };
}
  where
    there : (b : Build) → In b (builds_without n builds) → In (pair_of b) (pairs_without n pairs)
    there b t =
        let r = from_filter (λ (x : Build). not (is_build_of n x)) b builds t in
        in_filter (λ (p : Pair). not (p.first == n)) (pair_of b) pairs r.1 (index.told.there b r.0)

    back : (p : Pair) → In p (pairs_without n pairs) → (b : Build) × In b (builds_without n builds) × (pair_of b ≡ p)
    back p t =
        let r = from_filter (λ (q : Pair). not (q.first == n)) p pairs t in
        let x = index.told.back p r.0 in
        (x.0, in_filter (λ (b : Build). not (is_build_of n b)) x.0 builds (ap (λ (q : Pair). not (q.first == n)) x.2 ∙ r.1) x.1, x.2)

pub tells_drops : (n : ℕ) (pairs : List Pair) (builds : List Build) → TellsLive pairs builds → TellsLive (pairs_without n pairs) (builds_without n builds)
tells_drops n pairs builds told =
    all_from (λ (b : Build). b.live ≡ true → In (pair_of b) (pairs_without n pairs)) (builds_without n builds)
    (λ b t live.
    let r = from_filter (λ (x : Build). not (is_build_of n x)) b builds t in
    in_filter (λ (p : Pair). not (p.first == n)) (pair_of b) pairs r.1 (all_in (λ (x : Build). x.live ≡ true → In (pair_of x) pairs) builds b told r.0 live))

first_map : {X Y : Type 0} (f : X → Y) (xs : List X) → option_map f (first_of xs) ≡ first_of (map f xs)
first_map f [] = refl
first_map f (x ∷ xs) = refl

-- the first of numbers that rise is the lowest
lowest : (k n m : ℕ) (ns : List ℕ) → RisesFrom (λ (i : ℕ). i) k ns → Some n ≡ first_of ns → In m ns → n ≤ m
lowest k n m [] up first there = absurd there
lowest k n m (i ∷ is) up first there =
    let same : n ≡ i = ap (λ o. unwrap_or o 0) first in
    ⊎_elim (λ e. omega (arith, same, e)) (λ t. let above : suc i ≤ m = in_above (λ (j : ℕ). j) (suc i) m is up.1 t in omega (arith, same, above)) there

-- no build of a serial has a number below that of its first pair
pub none_below : (n first : ℕ) (pairs : List Pair) (builds : List Build) → Indexes pairs builds →
    Some first ≡ option_map (λ (p : Pair). p.second) (first_of (filter (λ (p : Pair). p.first == n) pairs)) →
    AllByRecursion (λ (b : Build). b.serial ≡ n → first ≤ b.number) builds
none_below n first pairs builds index e =
    all_from (λ (b : Build). b.serial ≡ n → first ≤ b.number) builds
    (λ b t s. lowest 0 first b.number (seconds_of n pairs) (seconds_rise n 0 0 pairs index.rise (λ q h f. omega arith))
    (e ∙ first_map (λ (p : Pair). p.second) (filter (λ (p : Pair). p.first == n) pairs)) (second_in n (pair_of b) pairs s (index.told.there b t)))

-- where all pass, a filter leaves the list
all_kept : {X : Type 0} (test : X → Bool) (xs : List X) → ((x : X) → In x xs → test x ≡ true) → xs ≡ filter test xs
all_kept test [] pass = refl
all_kept test (x ∷ xs) pass =
    ap (λ ys. x ∷ ys) (all_kept test xs (λ y t. pass y (inr t))) ∙ sym (ap (λ t. cond t (x ∷ filter test xs) (filter test xs)) (pass x (inl refl)))

nothing_in : (p : Pair) (ps : List Pair) → None ≡ option_map (λ (q : Pair). q.second) (first_of ps) → In p ps → ⊥
nothing_in p [] none there = there
nothing_in p (q ∷ qs) none there = none-some q.second none

-- where no pair is of a serial, no build is
pub none_of : (n : ℕ) (pairs : List Pair) (builds : List Build) → Indexes pairs builds →
    None ≡ option_map (λ (p : Pair). p.second) (first_of (filter (λ (p : Pair). p.first == n) pairs)) → builds ≡ builds_without n builds
none_of n pairs builds index e =
    all_kept (λ (b : Build). not (is_build_of n b)) builds
    (λ b t. ⊎_elim
    (λ (u : (b.serial == n ≡ true) × (b.serial ≡ n)). absurd (nothing_in (pair_of b) (filter (λ (p : Pair). p.first == n) pairs) e (in_filter (λ (p : Pair). p.first == n) (pair_of b) pairs u.0 (index.told.there b t))))
    (λ u. ap not u.0)
    (eqb_tells b.serial n))
