-- The ready list, read along its index.
use Rattle.std.proofs.Common.{◌≡◌, ◌≢◌, ℕ, suc, ◌*◌, ◌<◌, ◌≤◌, inl, inr, ⊎_elim, Bool, true, false, cond, Option}
use Rattle.std.proofs.Common.{Some, None, List, [], ◌∷◌, map, refl, sym, ap, subst, ◌∙◌, eqb-true, arith}
use Rattle.std.specs.Prelude.{◌==◌, filter, find, option_map, option_and_then, IsSome}
use Rattle.std.specs.List.{AllByRecursion, filter_map, cons_option}
use Rattle.std.proofs.lemmas.Bool.{eq-eqb, ne_eqb, false≢true}
use Rattle.std.proofs.lemmas.Bool.Decides.{eqb_tells}
use Rattle.gate_types.specs.declared.records.Ready.{Ready}
use Rattle.gate_types.specs.declared.rows.ChangeRow.{ChangeRow}
use Rattle.gate_types.specs.Tables.{approval_of}
use Rattle.gate_types.specs.Keys.{number_of_change}
use Rattle.gate_types.specs.Rising.{RisesFrom, In}
use Rattle.gate_memory.specs.declared.pairs.Pair.{Pair}
use Rattle.gate_memory.specs.Sorted.{kept_if, passing_at}
use Rattle.gate_memory.specs.Pairs.{pair_key, IsFit}
use Rattle.gate_book_trait.specs.RowReads.{AreReady, Differ}
use Rattle.gate_memory.specs.Changes.{TellsReady, same_number, ready_by, indexed_ready}
use Rattle.gate_memory.proofs.PairLemmas.{same_pair}
use Rattle.gate_book_trait.proofs.Finding.{all_in, found_has, found_in}
use Rattle.gate_memory.proofs.CollectLemmas.{collected}
use Rattle.gate_memory.proofs.NeedLemmas.{all_from}
use Rattle.gate_book_trait.proofs.ReadLemmas.{no_row}

-- the key of a ready change is that of its pair
abbrev pub ready_key : Ready → ℕ
ready_key r = pair_key (indexed_ready r.change r.approval)

abbrev any : Ready → Bool
any r = true

-- ---- lists

in_map : {X : Type 0} (f : X → ℕ) (x : X) (xs : List X) → In x xs → In (f x) (map f xs)
in_map f x [] there = absurd there
in_map f x (y ∷ ys) there = ⊎_elim (λ e. inl (ap f e)) (λ t. inr (in_map f x ys t)) there

map_rises : {X : Type 0} (key : X → ℕ) (k : ℕ) (xs : List X) → RisesFrom key k xs → RisesFrom (λ (n : ℕ). n) k (map key xs)
map_rises key k [] rise = tt
map_rises key k (x ∷ xs) rise = (rise.0, map_rises key (suc (key x)) xs rise.1)

filter_any : (rs : List Ready) → filter any rs ≡ rs
filter_any [] = refl
filter_any (r ∷ rs) = ap (λ xs. r ∷ xs) (filter_any rs)

-- ---- keys

keys_rise : (m k : ℕ) (rs : List Ready) → RisesFrom (λ (r : Ready). r.approval) m rs → AllByRecursion (λ (r : Ready). r.change < 18446744073709551616) rs → k ≤ m * 18446744073709551616 → RisesFrom ready_key k rs
keys_rise m k [] rise fit low = tt
keys_rise m k (r ∷ rs) rise fit low =
    let above : m ≤ r.approval = rise.0 in
    let small : r.change < 18446744073709551616 = fit.0 in
    (omega arith, keys_rise (suc r.approval) (suc (ready_key r)) rs rise.1 fit.1 (omega arith))

-- ---- approvals

-- a change that is there has the approval that is looked up
pub approval_known : (rs : List Ready) (r : Ready) → Differ rs → In r rs → approval_of rs r.change ≡ Some r.approval
approval_known [] r differ there = absurd there
approval_known (s ∷ ss) r differ there = ⊎_elim
    (λ e. ap (λ t. option_map (λ (q : Ready). q.approval) (cond t (Some s) (find (λ q. q.change == r.change) ss))) (eq-eqb s.change r.change (ap (λ (q : Ready). q.change) e)) ∙ ap (λ (q : Ready). Some q.approval) e)
    (λ t. ap (λ b. option_map (λ (q : Ready). q.approval) (cond b (Some s) (find (λ q. q.change == r.change) ss))) (ne_eqb s.change r.change (all_in (λ (q : Ready). s.change ≢ q.change) ss r differ.0 t)) ∙ approval_known ss r differ.1 t)
    there

-- no other has its change
none_change : (n : ℕ) (rs : List Ready) → AllByRecursion (λ (r : Ready). n ≢ r.change) rs → find (λ r. r.change == n) rs ≡ None
none_change n [] apart = refl
none_change n (r ∷ rs) apart = ap (λ t. cond t (Some r) (find (λ s. s.change == n) rs)) (ne_eqb r.change n (λ e. apart.0 (sym e))) ∙ none_change n rs apart.1

-- a change under this approval
abbrev if_approved : ℕ → Ready → Option Ready
if_approved a r = cond (r.approval == a) (Some r) None

-- the first is of the pair's change
at_change : (p : Pair) (r : Ready) (found : Option Ready) → IsFit p → r.change < 18446744073709551616 → r.change ≡ p.second → found ≡ None → cond (ready_key r == pair_key p) (Some r) found ≡ if_approved p.first r
at_change p r found fit small e none = ⊎_elim
    (λ t. ap (λ b. cond b (Some r) found) (eq-eqb (ready_key r) (pair_key p) (omega (arith, e, t.1))) ∙ ap (λ b. cond b (Some r) None) (sym t.0))
    (λ t. let ne : ready_key r ≢ pair_key p = λ k. t.1 (ap (λ (q : Pair). q.first) (same_pair (indexed_ready r.change r.approval) p small fit k)) in
    ap (λ b. cond b (Some r) found) (ne_eqb (ready_key r) (pair_key p) ne) ∙ none ∙ ap (λ b. cond b (Some r) None) (sym t.0))
    (eqb_tells r.approval p.first)

-- a look by the key of a pair is a look by its change
by_change : (p : Pair) (rs : List Ready) → IsFit p → AllByRecursion (λ (r : Ready). r.change < 18446744073709551616) rs → Differ rs → find (λ r. ready_key r == pair_key p) rs ≡ option_and_then (if_approved p.first) (find (λ r. r.change == p.second) rs)
by_change p [] fit small differ = refl
by_change p (r ∷ rs) fit small differ =
    let others : Option Ready = find (λ (s : Ready). ready_key s == pair_key p) rs in
    let changes : Option Ready = find (λ (s : Ready). s.change == p.second) rs in
    let rest : others ≡ option_and_then (if_approved p.first) changes = by_change p rs fit small.1 differ.1 in
    ⊎_elim
    (λ t. let none : changes ≡ None = ap (λ n. find (λ (s : Ready). s.change == n) rs) (sym t.1) ∙ none_change r.change rs differ.0 in
    at_change p r others fit small.0 t.1 (rest ∙ ap (option_and_then (if_approved p.first)) none) ∙ ap (λ b. option_and_then (if_approved p.first) (cond b (Some r) changes)) (sym t.0))
    (λ t. let ne : ready_key r ≢ pair_key p = λ k. t.1 (ap (λ (q : Pair). q.second) (same_pair (indexed_ready r.change r.approval) p small.0 fit k)) in
    ap (λ b. cond b (Some r) others) (ne_eqb (ready_key r) (pair_key p) ne) ∙ rest ∙ ap (λ b. option_and_then (if_approved p.first) (cond b (Some r) changes)) (sym t.0))
    (eqb_tells r.change p.second)

-- ---- a pair and its row

-- what a row tells
abbrev told_by : ℕ → ChangeRow → Option Ready
told_by a k = cond (same_number k.approval a) (Some (record { approval = a; change = k.change.number })) None

-- where the row has the approval of a change that was found, it tells that change
row_tells : (a n : ℕ) (k : ChangeRow) (o : Option Ready) → k.change.number ≡ n → k.approval ≡ option_map (λ (r : Ready). r.approval) o → ((r : Ready) → o ≡ Some r → r.change ≡ n) → told_by a k ≡ option_and_then (if_approved a) o
row_tells a n k None e approval change = ap (λ p. cond (same_number p a) (Some (record { approval = a; change = k.change.number })) None) approval
row_tells a n k (Some r) e approval change = ap (λ p. cond (same_number p a) (Some (record { approval = a; change = k.change.number })) None) approval ∙ by_approval (r.approval == a) refl
  where
    by_approval : (t : Bool) → r.approval == a ≡ t → cond t (Some (record { approval = a; change = k.change.number })) None ≡ cond t (Some r) None
    by_approval true same = let first : a ≡ r.approval = sym (eqb-true r.approval a same) in let second : k.change.number ≡ r.change = e ∙ sym (change r refl) in λ i. Some (record { approval = first i; change = second i })
    by_approval false same = refl

-- each pair tells what a look by its key finds
pair_tells : (rows : List ChangeRow) (rs : List Ready) (p : Pair) → AreReady rows rs → IsFit p → (o : Option ChangeRow) → find (λ (k : ChangeRow). k.change.number == p.second) rows ≡ o → option_and_then (told_by p.first) o ≡ option_and_then (if_approved p.first) (find (λ (r : Ready). r.change == p.second) rs)
pair_tells rows rs p ready fit None e = sym (ap (option_and_then (if_approved p.first)) (no_row p.second rows rs ready.known e))
pair_tells rows rs p ready fit (Some k) e =
    let number : number_of_change k ≡ p.second = found_has number_of_change p.second k rows (sym e) in
    let approval : k.approval ≡ approval_of rs k.change.number = all_in (λ (j : ChangeRow). j.approval ≡ approval_of rs j.change.number) rows k ready.told (found_in (λ (j : ChangeRow). j.change.number == p.second) rows k e) in
    let change : (r : Ready) → find (λ (s : Ready). s.change == p.second) rs ≡ Some r → r.change ≡ p.second = λ (r : Ready) (f : find (λ (s : Ready). s.change == p.second) rs ≡ Some r). found_has (λ (s : Ready). s.change) p.second r rs (sym f) in
    row_tells p.first p.second k (find (λ (r : Ready). r.change == p.second) rs) number (approval ∙ ap (approval_of rs) number) change

-- all pairs
pairs_tell : (rows : List ChangeRow) (rs : List Ready) (ps : List Pair) → AreReady rows rs → AllByRecursion IsFit ps → filter_map (ready_by rows) ps ≡ filter_map (passing_at ready_key any rs) (map pair_key ps)
pairs_tell rows rs [] ready fit = refl
pairs_tell rows rs (p ∷ ps) ready fit = λ i. cons_option (one i) (pairs_tell rows rs ps ready fit.1 i)
  where
    taken : (o : Option Ready) → o ≡ option_and_then (kept_if any) o
    taken None = refl
    taken (Some r) = refl

    one : ready_by rows p ≡ passing_at ready_key any rs (pair_key p)
    one = pair_tells rows rs p ready fit.0 (find (λ (k : ChangeRow). k.change.number == p.second) rows) refl ∙ sym (by_change p rs fit.0 ready.fit ready.differ) ∙ taken (find (λ (r : Ready). ready_key r == pair_key p) rs)

-- each ready change has its key in the index
keys_told : (rows : List ChangeRow) (rs : List Ready) (ps : List Pair) → AreReady rows rs → TellsReady ps rows → (r : Ready) → In r rs → In (ready_key r) (map pair_key ps)
keys_told rows rs ps ready told r there = by_row (find (λ (k : ChangeRow). k.change.number == r.change) rows) refl (all_in (λ (s : Ready). IsSome (find (λ (k : ChangeRow). k.change.number == s.change) rows)) rs r ready.known there)
  where
    by_row : (o : Option ChangeRow) → find (λ (k : ChangeRow). k.change.number == r.change) rows ≡ o → IsSome o → In (ready_key r) (map pair_key ps)
    by_row None e some = absurd (false≢true some)
    by_row (Some k) e some =
        let number : number_of_change k ≡ r.change = found_has number_of_change r.change k rows (sym e) in
        let there' : In k rows = found_in (λ (j : ChangeRow). j.change.number == r.change) rows k e in
        let approval : k.approval ≡ Some r.approval = all_in (λ (j : ChangeRow). j.approval ≡ approval_of rs j.change.number) rows k ready.told there' ∙ ap (approval_of rs) number ∙ approval_known rs r ready.differ there in
        let entry : In (indexed_ready k.change.number r.approval) ps = all_in (λ (j : ChangeRow). (a : ℕ) → j.approval ≡ Some a → In (indexed_ready j.change.number a) ps) rows k told there' r.approval approval in
        subst (λ n. In (pair_key (indexed_ready n r.approval)) (map pair_key ps)) number (in_map pair_key (indexed_ready k.change.number r.approval) ps entry)

-- what is read along the index is the ready list
pub ready_is : (rows : List ChangeRow) (rs : List Ready) (ps : List Pair) → AreReady rows rs → RisesFrom pair_key 0 ps → AllByRecursion IsFit ps → TellsReady ps rows → filter_map (ready_by rows) ps ≡ rs
ready_is rows rs ps ready rise fit told =
    pairs_tell rows rs ps ready fit
    ∙ collected ready_key any 0 rs (keys_rise 0 0 rs ready.rise ready.fit (omega arith)) 0 (map pair_key ps) (map_rises pair_key 0 ps rise)
    (all_from (λ (r : Ready). true ≡ true → In (ready_key r) (map pair_key ps)) rs (λ r there _. keys_told rows rs ps ready told r there))
    ∙ filter_any rs
