-- The index of live builds.
use Rattle.std.proofs.Common.{◌≡◌, ◌≢◌, ℕ, inl, inr, ⊎_elim, Bool, true, false, not, cond, List, [], ◌∷◌, refl, sym}
use Rattle.std.proofs.Common.{ap, eqb-true, ◌∙◌, arith}
use Rattle.std.specs.Prelude.{◌==◌, ◌&&◌}
use Rattle.std.specs.List.{AllByRecursion}
use Rattle.std.proofs.lemmas.Bool.{eq-eqb, false≢true}
use Rattle.gate_types.specs.declared.records.Build.{Build}
use Rattle.gate_types.specs.State.{put_by}
use Rattle.gate_types.specs.Rows.{change_build}
use Rattle.gate_types.specs.Rising.{In}
use Rattle.gate_types.proofs.PlainLemmas.{below_or}
use Rattle.gate_memory.specs.declared.pairs.Pair.{Pair}
use Rattle.gate_memory.specs.Sorted.{without}
use Rattle.gate_memory.specs.Pairs.{pair_key, IsFit}
use Rattle.gate_memory.specs.Builds.{TellsLive, number_of_build, is_live_of, pair_of}
use Rattle.gate_memory.proofs.PairLemmas.{same_pair, seconds_of, second_in}
use Rattle.gate_memory.proofs.CollectLemmas.{AreTold}
use Rattle.gate_memory.proofs.SortedLemmas.{put_first, put_before, put_after}
use Rattle.gate_book_trait.proofs.Finding.{in_weaker, all_in}

-- ---- rows that are there

pub all_put : {X : Type 0} (P : X → Type 0) (key : X → ℕ) (x : X) (xs : List X) → P x → AllByRecursion P xs → AllByRecursion P (put_by key x xs)
all_put P key x [] px all = (px, tt)
all_put P key x (y ∷ ys) px all = ⊎_elim
    (λ l. rw (put_before key x y ys l) (px, all))
    (λ l. ⊎_elim
    (λ m. rw (put_after key x y ys m) (all.0, all_put P key x ys px all.1))
    (λ m. rw (put_first key x y ys (omega arith)) (px, all.1))
    (below_or (key y) (key x)))
    (below_or (key x) (key y))

pub in_put : {X : Type 0} (key : X → ℕ) (x : X) (xs : List X) → In x (put_by key x xs)
in_put key x [] = inl refl
in_put key x (y ∷ ys) = ⊎_elim
    (λ l. rw (put_before key x y ys l) (inl refl))
    (λ l. ⊎_elim
    (λ m. rw (put_after key x y ys m) (inr (in_put key x ys)))
    (λ m. rw (put_first key x y ys (omega arith)) (inl refl))
    (below_or (key y) (key x)))
    (below_or (key x) (key y))

-- what is there stays, unless another row of its key is put
pub still_in : {X : Type 0} (key : X → ℕ) (x z : X) (xs : List X) → (key z ≡ key x → z ≡ x) → In z xs → In z (put_by key x xs)
still_in key x z [] same there = absurd there
still_in key x z (y ∷ ys) same there = ⊎_elim
    (λ l. rw (put_before key x y ys l) (inr there))
    (λ l. ⊎_elim
    (λ m. rw (put_after key x y ys m) (⊎_elim (λ e. inl e) (λ t. inr (still_in key x z ys same t)) there))
    (λ m. let k : key x ≡ key y = omega arith in rw (put_first key x y ys k) (⊎_elim (λ e. inl (sym (same (sym (ap key e) ∙ sym k)))) (λ t. inr t) there))
    (below_or (key y) (key x)))
    (below_or (key x) (key y))

pub in_without : {X : Type 0} (key : X → ℕ) (n : ℕ) (z : X) (xs : List X) → key z ≢ n → In z xs → In z (without key n xs)
in_without key n z [] ne there = absurd there
in_without key n z (y ∷ ys) ne there = by_key (key y == n) refl (λ t. in_without key n z ys ne t) there
  where
    by_key : (t : Bool) → key y == n ≡ t → (In z ys → In z (without key n ys)) → In z (y ∷ ys) → In z (cond (not t) (y ∷ without key n ys) (without key n ys))
    by_key true e rest there = ⊎_elim (λ s. absurd (ne (sym (ap key s) ∙ eqb-true (key y) n e))) rest there
    by_key false e rest there = ⊎_elim (λ s. inl s) (λ t. inr (rest t)) there

pub all_without : {X : Type 0} (P : X → Type 0) (key : X → ℕ) (n : ℕ) (xs : List X) → AllByRecursion P xs → AllByRecursion P (without key n xs)
all_without P key n [] all = tt
all_without P key n (y ∷ ys) all = by_key (key y == n) (all_without P key n ys all.1)
  where
    by_key : (t : Bool) → AllByRecursion P (without key n ys) → AllByRecursion P (cond (not t) (y ∷ without key n ys) (without key n ys))
    by_key true rest = rest
    by_key false rest = (all.0, rest)

-- ---- builds

-- a build put, and its pair
pub tells_put : (pairs : List Pair) (b : Build) (builds : List Build) → AllByRecursion IsFit pairs → IsFit (pair_of b) → TellsLive pairs builds → TellsLive (put_by pair_key (pair_of b) pairs) (put_by number_of_build b builds)
tells_put pairs b builds fit small told =
    all_put (λ x. x.live ≡ true → In (pair_of x) (put_by pair_key (pair_of b) pairs)) number_of_build b builds (λ _. in_put pair_key (pair_of b) pairs)
    (in_weaker (λ x. x.live ≡ true → In (pair_of x) pairs) (λ x. x.live ≡ true → In (pair_of x) (put_by pair_key (pair_of b) pairs))
    (λ x h live. still_in pair_key (pair_of b) (pair_of x) pairs (λ e. same_pair (pair_of x) (pair_of b) (all_in IsFit pairs (pair_of x) fit (h live)) small e) (h live))
    builds told)

-- builds changed, but not in what their pairs tell
pub tells_changed : (pairs : List Pair) (n : ℕ) (f : Build → Build) (builds : List Build) → ((b : Build) → pair_of (f b) ≡ pair_of b) → ((b : Build) → (f b).live ≡ true → b.live ≡ true) → TellsLive pairs builds → TellsLive pairs (change_build n f builds)
tells_changed pairs n f [] pair live told = tt
tells_changed pairs n f (b ∷ bs) pair live told = (by_number (b.number == n), tells_changed pairs n f bs pair live told.1)
  where
    by_number : (t : Bool) → (cond t (f b) b).live ≡ true → In (pair_of (cond t (f b) b)) pairs
    by_number true l = rw (pair b) (told.0 (live b l))
    by_number false l = told.0 l

-- a build stopped, its pair dropped
pub tells_stopped : (pairs : List Pair) (p : Pair) (n : ℕ) (f : Build → Build) (builds : List Build) → AllByRecursion IsFit pairs → IsFit p → p.second ≡ n → ((b : Build) → (f b).live ≡ false) → TellsLive pairs builds → TellsLive (without pair_key (pair_key p) pairs) (change_build n f builds)
tells_stopped pairs p n f [] fit small second dead told = tt
tells_stopped pairs p n f (b ∷ bs) fit small second dead told = (by_number (b.number == n) refl, tells_stopped pairs p n f bs fit small second dead told.1)
  where
    by_number : (t : Bool) → b.number == n ≡ t → (cond t (f b) b).live ≡ true → In (pair_of (cond t (f b) b)) (without pair_key (pair_key p) pairs)
    by_number true e l = absurd (false≢true (sym (dead b) ∙ l))
    by_number false e l =
        let there = told.0 l in
        in_without pair_key (pair_key p) (pair_of b) pairs
        (λ k. absurd (false≢true (sym e ∙ eq-eqb b.number n (ap (λ (q : Pair). q.second) (same_pair (pair_of b) p (all_in IsFit pairs (pair_of b) fit there) small k) ∙ second)))) there

-- each live build of a serial has its number in the index
pub live_are_told : (serial : ℕ) (pairs : List Pair) (builds : List Build) → TellsLive pairs builds → AreTold number_of_build (is_live_of serial) builds (seconds_of serial pairs)
live_are_told serial pairs [] told = tt
live_are_told serial pairs (b ∷ bs) told = (by_live b.live refl, live_are_told serial pairs bs told.1)
  where
    by_live : (t : Bool) → b.live ≡ t → t && b.serial == serial ≡ true → In b.number (seconds_of serial pairs)
    by_live true live e = second_in serial (pair_of b) pairs (eqb-true b.serial serial e) (told.0 live)
    by_live false live e = absurd (false≢true e)
