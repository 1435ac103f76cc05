-- The index of ready changes.
use Rattle.std.proofs.Common.{◌≡◌, ◌≢◌, ℕ, suc, ◌<◌, ◌≤◌, ⊎_elim, Option, Some, None, List, [], ◌∷◌, ap, subst, arith}
use Rattle.std.specs.Prelude.{unwrap_or}
use Rattle.std.specs.List.{AllByRecursion}
use Rattle.std.specs.Option.{option_map_or}
use Rattle.std.proofs.lemmas.Option.{none-some}
use Rattle.gate_types.specs.declared.rows.ChangeRow.{ChangeRow}
use Rattle.gate_types.specs.State.{put_by}
use Rattle.gate_types.specs.Keys.{number_of_change}
use Rattle.gate_types.specs.Rising.{RisesFrom, In}
use Rattle.gate_types.proofs.PlainLemmas.{below_or}
use Rattle.gate_memory.specs.declared.pairs.Pair.{Pair}
use Rattle.gate_memory.specs.Sorted.{without}
use Rattle.gate_memory.specs.Pairs.{pair_key, IsFit}
use Rattle.gate_memory.specs.Changes.{TellsReady, in_order, indexed_ready}
use Rattle.gate_memory.proofs.SortedLemmas.{put_first, put_before, put_after, rises-put}
use Rattle.gate_memory.proofs.PairLemmas.{same_pair}
use Rattle.gate_book_trait.proofs.Finding.{all_in}
use Rattle.gate_memory.proofs.BuildLemmas.{all_put, all_without, in_put, still_in, in_without}

-- rows put one after another rise
pub in_order_rises : {X : Type 0} (key : X → ℕ) (xs : List X) → RisesFrom key 0 (in_order key xs)
in_order_rises key [] = tt
in_order_rises key (x ∷ xs) = rises-put key 0 x (in_order key xs) (omega arith) (in_order_rises key xs)

-- the index without the approval of a change, if it had one
abbrev pub dropped : Option ℕ → ℕ → List Pair → List Pair
dropped old n ready = option_map_or (λ a. without pair_key (pair_key (indexed_ready n a)) ready) old ready

-- and with one
abbrev pub noted : Option ℕ → ℕ → List Pair → List Pair
noted new n ready = option_map_or (λ a. put_by pair_key (indexed_ready n a) ready) new ready

pub fit_dropped : (old : Option ℕ) (n : ℕ) (ready : List Pair) → AllByRecursion IsFit ready → AllByRecursion IsFit (dropped old n ready)
fit_dropped None n ready fit = fit
fit_dropped (Some a) n ready fit = all_without IsFit pair_key (pair_key (indexed_ready n a)) ready fit

pub fit_noted : (new : Option ℕ) (n : ℕ) (ready : List Pair) → n < 18446744073709551616 → AllByRecursion IsFit ready → AllByRecursion IsFit (noted new n ready)
fit_noted None n ready small fit = fit
fit_noted (Some a) n ready small fit = all_put IsFit pair_key (indexed_ready n a) ready small fit

-- the entry of another change stays
pub in_dropped : (old : Option ℕ) (n : ℕ) (ready : List Pair) (p : Pair) → n < 18446744073709551616 → AllByRecursion IsFit ready → p.second ≢ n → In p ready → In p (dropped old n ready)
in_dropped None n ready p small fit ne there = there
in_dropped (Some a) n ready p small fit ne there =
    in_without pair_key (pair_key (indexed_ready n a)) p ready (λ e. ne (ap (λ (q : Pair). q.second) (same_pair p (indexed_ready n a) (all_in IsFit ready p fit there) small e))) there

in_noted : (new : Option ℕ) (n : ℕ) (ready : List Pair) (p : Pair) → n < 18446744073709551616 → AllByRecursion IsFit ready → In p ready → In p (noted new n ready)
in_noted None n ready p small fit there = there
in_noted (Some a) n ready p small fit there =
    still_in pair_key (indexed_ready n a) p ready (λ e. same_pair p (indexed_ready n a) (all_in IsFit ready p fit there) small e) there

-- the index after a change is put
abbrev pub put_ready : Option ℕ → Option ℕ → ℕ → List Pair → List Pair
put_ready old new n ready = noted new n (dropped old n ready)

still_told : (old new : Option ℕ) (n : ℕ) (ready : List Pair) (r : ChangeRow) → n < 18446744073709551616 → AllByRecursion IsFit ready → number_of_change r ≢ n → ((a : ℕ) → r.approval ≡ Some a → In (indexed_ready (number_of_change r) a) ready) → (a : ℕ) → r.approval ≡ Some a → In (indexed_ready (number_of_change r) a) (put_ready old new n ready)
still_told old new n ready r small fit ne told a e =
    in_noted new n (dropped old n ready) (indexed_ready (number_of_change r) a) small (fit_dropped old n ready fit) (in_dropped old n ready (indexed_ready (number_of_change r) a) small fit ne (told a e))

others_told : (old new : Option ℕ) (n m : ℕ) (ready : List Pair) (rows : List ChangeRow) → n < 18446744073709551616 → AllByRecursion IsFit ready → n < m → RisesFrom number_of_change m rows → TellsReady ready rows → TellsReady (put_ready old new n ready) rows
others_told old new n m ready [] small fit l rise told = tt
others_told old new n m ready (r ∷ rs) small fit l rise told =
    let low : m ≤ number_of_change r = rise.0 in
    (still_told old new n ready r small fit (λ e. omega (arith, e)) told.0, others_told old new n (suc (number_of_change r)) ready rs small fit (omega arith) rise.1 told.1)

itself_told : (new : Option ℕ) (n : ℕ) (ready : List Pair) (a : ℕ) → new ≡ Some a → In (indexed_ready n a) (noted new n ready)
itself_told None n ready a e = absurd (none-some a e)
itself_told (Some b) n ready a e = let same : b ≡ a = ap (λ o. unwrap_or o 0) e in subst (λ (x : ℕ). In (indexed_ready n x) (put_by pair_key (indexed_ready n b) ready)) same (in_put pair_key (indexed_ready n b) ready)

-- the index tells of the ready changes after one is put
pub tells_put : (old : Option ℕ) (row : ChangeRow) (m : ℕ) (ready : List Pair) (rows : List ChangeRow) → number_of_change row < 18446744073709551616 → AllByRecursion IsFit ready → RisesFrom number_of_change m rows → TellsReady ready rows → TellsReady (put_ready old row.approval (number_of_change row) ready) (put_by number_of_change row rows)
tells_put old row m ready [] small fit rise told = (itself_told row.approval (number_of_change row) (dropped old (number_of_change row) ready), tt)
tells_put old row m ready (r ∷ rs) small fit rise told = ⊎_elim
    (λ l. let others : TellsReady (put_ready old row.approval (number_of_change row) ready) (r ∷ rs) = others_told old row.approval (number_of_change row) (number_of_change r) ready (r ∷ rs) small fit l (omega arith, rise.1) told in
    rw (put_before number_of_change row r rs l) (itself_told row.approval (number_of_change row) (dropped old (number_of_change row) ready), others))
    (λ l. ⊎_elim
    (λ u. let ne : number_of_change r ≢ number_of_change row = λ e. omega (arith, e) in
    let first : (a : ℕ) → r.approval ≡ Some a → In (indexed_ready (number_of_change r) a) (put_ready old row.approval (number_of_change row) ready) = still_told old row.approval (number_of_change row) ready r small fit ne told.0 in
    let rest : TellsReady (put_ready old row.approval (number_of_change row) ready) (put_by number_of_change row rs) = tells_put old row (suc (number_of_change r)) ready rs small fit rise.1 told.1 in
    rw (put_after number_of_change row r rs u) (first, rest))
    (λ u. let e : number_of_change row ≡ number_of_change r = omega arith in
    let above : number_of_change row < suc (number_of_change r) = omega (arith, e) in
    rw (put_first number_of_change row r rs e) (itself_told row.approval (number_of_change row) (dropped old (number_of_change row) ready), others_told old row.approval (number_of_change row) (suc (number_of_change r)) ready rs small fit above rise.1 told.1))
    (below_or (number_of_change r) (number_of_change row)))
    (below_or (number_of_change row) (number_of_change r))
