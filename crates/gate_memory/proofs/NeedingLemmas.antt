-- The ready changes that need a change, found along the index of needs.
use Rattle.std.proofs.Common.{◌≡◌, ◌≢◌, ℕ, suc, ◌<◌, ◌≤◌, ⊎_elim, Bool, true, false, cond, Option, Some, None, List}
use Rattle.std.proofs.Common.{[], ◌∷◌, map, refl, sym, ap, subst, ◌∙◌, arith}
use Rattle.std.specs.Prelude.{◌==◌, find, option_map, option_and_then, unwrap_or, IsSome}
use Rattle.std.specs.List.{AllByRecursion, IsDistinct, list_any, filter_map, cons_option}
use Rattle.std.specs.List.Sorted.{IsNonDecreasingBy, IsPermutation}
use Rattle.std.specs.Option.{option_map_or}
use Rattle.std.proofs.lemmas.Bool.{false≢true, eq-eqb, ne_eqb}
use Rattle.std.proofs.lemmas.Bool.Decides.{eqb_tells}
use Rattle.std.proofs.lemmas.List.Elements.{recursion_from_All}
use Rattle.std.proofs.lemmas.List.Sorted.{IsPermutation-sym}
use Rattle.std.proofs.lemmas.Map.Keys.{IsDistinct-head, IsDistinct-tail, IsDistinct-cons, IsDistinct-IsPermutation}
use Rattle.std.proofs.lemmas.Option.{none-some}
use Rattle.gate_types.specs.declared.records.Change.{Change}
use Rattle.gate_types.specs.declared.records.Ready.{Ready}
use Rattle.gate_types.specs.declared.rows.ChangeRow.{ChangeRow}
use Rattle.gate_types.specs.Tables.{approval_of, change_row_in, needs_in}
use Rattle.gate_types.specs.Keys.{number_of_change}
use Rattle.gate_types.specs.Rising.{RisesFrom, In}
use Rattle.gate_memory.specs.declared.pairs.Pair.{Pair}
use Rattle.gate_book_trait.specs.RowReads.{AreReady, is_ready_needing, ready_needing_in}
use Rattle.gate_memory.specs.Needs.{pair_of_need}
use Rattle.gate_memory.specs.TableReads.{if_needing, needing_by}
use Rattle.gate_book_trait.proofs.Finding.{all_in, found_has, found_in}
use Rattle.gate_memory.proofs.NeedLemmas.{all_from, from_filter, in_filter, in_given, moved_in}
use Rattle.gate_memory.proofs.ReadyLemmas.{approval_known}
use Rattle.gate_memory.proofs.SortedLemmas.{one_key, rises-filter, same_rows}

-- ---- order of approval

abbrev same_approval : Ready → Ready → Bool
same_approval r s = r.approval == s.approval

flips : (r s : Ready) → same_approval r s ≡ same_approval s r
flips r s = ⊎_elim
    (λ t. t.0 ∙ sym (eq-eqb s.approval r.approval (sym t.1)))
    (λ t. t.0 ∙ sym (ne_eqb s.approval r.approval (λ e. t.1 (sym e))))
    (eqb_tells r.approval s.approval)

-- no approval falls and no two are one: so they rise
sorted_rises : (m : ℕ) (rs : List Ready) → AllByRecursion (λ (r : Ready). m ≤ r.approval) rs → IsNonDecreasingBy (λ (r : Ready). r.approval) rs → IsDistinct same_approval rs → RisesFrom (λ (r : Ready). r.approval) m rs
sorted_rises m [] low up apart = tt
sorted_rises m (r ∷ rs) low up apart =
    (low.0, sorted_rises (suc r.approval) rs above (λ i j d h k. up (suc i) (suc j) d (omega arith) (omega arith)) (IsDistinct-tail same_approval r rs apart))
  where
    higher : AllByRecursion (λ (s : Ready). r.approval ≤ s.approval) rs
    higher = recursion_from_All (λ (s : Ready). r.approval ≤ s.approval) rs (λ k d l. up 0 (suc k) d (omega arith) (omega arith))

    above : AllByRecursion (λ (s : Ready). suc r.approval ≤ s.approval) rs
    above = all_from (λ (s : Ready). suc r.approval ≤ s.approval) rs (λ s t.
        let least : r.approval ≤ s.approval = all_in (λ (q : Ready). r.approval ≤ q.approval) rs s higher t in
        let other : r.approval ≢ s.approval = λ e. false≢true (sym (all_in (λ (q : Ready). same_approval r q ≡ false) rs s (IsDistinct-head same_approval r rs apart) t) ∙ eq-eqb r.approval s.approval e) in
        omega (arith, least, other))

-- ---- a pair and its row

-- what a pair tells is so
pair_is : (rows : List ChangeRow) (rs : List Ready) (n : ℕ) (p : Pair) (r : Ready) → AreReady rows rs → needing_by rows n p ≡ Some r → In r (ready_needing_in rows n rs) × (r.change ≡ p.second)
pair_is rows rs n p r ready told = by_row (change_row_in rows p.second) refl told
  where
    by_row : (o : Option ChangeRow) → change_row_in rows p.second ≡ o → option_and_then (if_needing n) o ≡ Some r → In r (ready_needing_in rows n rs) × (r.change ≡ p.second)
    by_row None e f = absurd (none-some r f)
    by_row (Some k) e f = by_needs (list_any (λ m. m == n) k.change.needs) refl k.approval refl f
      where
        number : k.change.number ≡ p.second
        number = found_has number_of_change p.second k rows (sym e)

        by_needs : (t : Bool) → list_any (λ m. m == n) k.change.needs ≡ t → (a : Option ℕ) → k.approval ≡ a → cond t (option_map (λ b. record { approval = b; change = k.change.number }) a) None ≡ Some r → In r (ready_needing_in rows n rs) × (r.change ≡ p.second)
        by_needs false h a g f = absurd (none-some r f)
        by_needs true h None g f = absurd (none-some r f)
        by_needs true h (Some b) g f = by_found (find (λ (q : Ready). q.change == k.change.number) rs) refl (sym g ∙ known)
          where
            is : record { approval = b; change = k.change.number } ≡ r
            is = ap (λ o. unwrap_or o r) f

            change : r.change ≡ p.second
            change = sym (ap (λ (q : Ready). q.change) is) ∙ number

            known : k.approval ≡ approval_of rs k.change.number
            known = all_in (λ (j : ChangeRow). j.approval ≡ approval_of rs j.change.number) rows k ready.told (found_in (λ (j : ChangeRow). j.change.number == p.second) rows k e)

            needs : needs_in rows r.change ≡ k.change.needs
            needs = ap (λ (o : Option ChangeRow). option_map_or (λ (c : Change). c.needs) (option_map (λ (j : ChangeRow). j.change) o) []) (ap (change_row_in rows) change ∙ e)

            by_found : (o : Option Ready) → find (λ (q : Ready). q.change == k.change.number) rs ≡ o → Some b ≡ option_map (λ (q : Ready). q.approval) o → In r (ready_needing_in rows n rs) × (r.change ≡ p.second)
            by_found None i a = absurd (none-some b (sym a))
            by_found (Some q) i a =
                let first : b ≡ q.approval = ap (λ o. unwrap_or o b) a in
                let second : q.change ≡ k.change.number = found_has (λ (j : Ready). j.change) k.change.number q rs (sym i) in
                let same : q ≡ r = (λ j. record { approval = sym first j; change = second j }) ∙ is in
                let there : In r rs = subst (λ z. In z rs) same (found_in (λ (j : Ready). j.change == k.change.number) rs q i) in
                (in_filter (is_ready_needing rows n) r rs (ap (list_any (λ m. m == n)) needs ∙ h) there, change)

-- who is ready and needs the change is told by its pair
pair_tells : (rows : List ChangeRow) (rs : List Ready) (n : ℕ) (r : Ready) → AreReady rows rs → In r (ready_needing_in rows n rs) → needing_by rows n (pair_of_need n r.change) ≡ Some r
pair_tells rows rs n r ready there = by_row (change_row_in rows r.change) refl (all_in (λ (s : Ready). IsSome (change_row_in rows s.change)) rs r ready.known kept.0)
  where
    kept : In r rs × (is_ready_needing rows n r ≡ true)
    kept = from_filter (is_ready_needing rows n) r rs there

    by_row : (o : Option ChangeRow) → change_row_in rows r.change ≡ o → IsSome o → needing_by rows n (pair_of_need n r.change) ≡ Some r
    by_row None e some = absurd (false≢true some)
    by_row (Some k) e some =
        let number : k.change.number ≡ r.change = found_has number_of_change r.change k rows (sym e) in
        let approval : k.approval ≡ Some r.approval = all_in (λ (j : ChangeRow). j.approval ≡ approval_of rs j.change.number) rows k ready.told (found_in (λ (j : ChangeRow). j.change.number == r.change) rows k e) ∙ ap (approval_of rs) number ∙ approval_known rs r ready.differ kept.0 in
        let needs : list_any (λ m. m == n) k.change.needs ≡ true = sym (ap (λ (o : Option ChangeRow). list_any (λ m. m == n) (option_map_or (λ (c : Change). c.needs) (option_map (λ (j : ChangeRow). j.change) o) [])) e) ∙ kept.1 in
        ap (option_and_then (if_needing n)) e
        ∙ (λ i. cond (needs i) (option_map (λ a. record { approval = a; change = k.change.number }) (approval i)) None)
        ∙ (λ i. Some (record { approval = r.approval; change = number i }))

-- ---- all pairs

-- no pair above a change tells its approval
others_apart : (rows : List ChangeRow) (rs : List Ready) (n k : ℕ) (r : Ready) (ps : List Pair) → AreReady rows rs → In r rs → r.change < k → RisesFrom (λ (m : ℕ). m) k (map (λ (p : Pair). p.second) ps) → AllByRecursion (λ (s : Ready). same_approval r s ≡ false) (filter_map (needing_by rows n) ps)
others_apart rows rs n k r [] ready there l rise = tt
others_apart rows rs n k r (p ∷ ps) ready there l rise =
    let low : k ≤ p.second = rise.0 in
    by_told (needing_by rows n p) refl (others_apart rows rs n (suc p.second) r ps ready there (omega (arith, l, low)) rise.1)
  where
    by_told : (o : Option Ready) → needing_by rows n p ≡ o → AllByRecursion (λ (s : Ready). same_approval r s ≡ false) (filter_map (needing_by rows n) ps) → AllByRecursion (λ (s : Ready). same_approval r s ≡ false) (cons_option o (filter_map (needing_by rows n) ps))
    by_told None e rest = rest
    by_told (Some s) e rest =
        let is = pair_is rows rs n p s ready e in
        let also : In s rs = (from_filter (is_ready_needing rows n) s rs is.0).0 in
        let low : k ≤ p.second = rise.0 in
        (ne_eqb r.approval s.approval (λ f. let same : r.change ≡ s.change = ap (λ (q : Ready). q.change) (one_key (λ (q : Ready). q.approval) 0 r s rs ready.rise there also f) in omega (arith, l, low, same, is.1)), rest)

-- so no two pairs tell one
all_apart : (rows : List ChangeRow) (rs : List Ready) (n k : ℕ) (ps : List Pair) → AreReady rows rs → RisesFrom (λ (m : ℕ). m) k (map (λ (p : Pair). p.second) ps) → IsDistinct same_approval (filter_map (needing_by rows n) ps)
unfolding IsDistinct
all_apart rows rs n k [] ready rise = tt
all_apart rows rs n k (p ∷ ps) ready rise = by_told (needing_by rows n p) refl (all_apart rows rs n (suc p.second) ps ready rise.1)
  where
    by_told : (o : Option Ready) → needing_by rows n p ≡ o → IsDistinct same_approval (filter_map (needing_by rows n) ps) → IsDistinct same_approval (cons_option o (filter_map (needing_by rows n) ps))
    by_told None e rest = rest
    by_told (Some r) e rest =
        let is = pair_is rows rs n p r ready e in
        let there : In r rs = (from_filter (is_ready_needing rows n) r rs is.0).0 in
        IsDistinct-cons same_approval r (filter_map (needing_by rows n) ps) (others_apart rows rs n (suc p.second) r ps ready there (omega (arith, is.1)) rise.1) rest

-- what the pairs tell is so
all_so : (rows : List ChangeRow) (rs : List Ready) (n : ℕ) (ps : List Pair) → AreReady rows rs → AllByRecursion (λ r. In r (ready_needing_in rows n rs)) (filter_map (needing_by rows n) ps)
all_so rows rs n [] ready = tt
all_so rows rs n (p ∷ ps) ready = by_told (needing_by rows n p) refl (all_so rows rs n ps ready)
  where
    by_told : (o : Option Ready) → needing_by rows n p ≡ o → AllByRecursion (λ r. In r (ready_needing_in rows n rs)) (filter_map (needing_by rows n) ps) → AllByRecursion (λ r. In r (ready_needing_in rows n rs)) (cons_option o (filter_map (needing_by rows n) ps))
    by_told None e rest = rest
    by_told (Some r) e rest = ((pair_is rows rs n p r ready e).0, rest)

-- what the pairs tell, in order of approval, are the ready changes that need the change
pub needing_is : (rows : List ChangeRow) (rs : List Ready) (n : ℕ) (ps : List Pair) (sorted : List Ready) → AreReady rows rs → RisesFrom (λ (m : ℕ). m) 0 (map (λ (p : Pair). p.second) ps) → ((k : ℕ) → list_any (λ m. m == n) (needs_in rows k) ≡ true → In (pair_of_need n k) ps) → IsPermutation (filter_map (needing_by rows n) ps) sorted → IsNonDecreasingBy (λ (r : Ready). r.approval) sorted → sorted ≡ ready_needing_in rows n rs
needing_is rows rs n ps sorted ready rise told same order = same_rows (λ (r : Ready). r.approval) 0 0 sorted (ready_needing_in rows n rs) up (rises-filter (λ (r : Ready). r.approval) (is_ready_needing rows n) 0 rs ready.rise) so all
  where
    up : RisesFrom (λ (r : Ready). r.approval) 0 sorted
    up = sorted_rises 0 sorted (all_from (λ (r : Ready). 0 ≤ r.approval) sorted (λ r t. omega arith)) order (IsDistinct-IsPermutation same_approval flips (filter_map (needing_by rows n) ps) sorted same (all_apart rows rs n 0 ps ready rise))

    so : (r : Ready) → In r sorted → In r (ready_needing_in rows n rs)
    so r t = all_in (λ q. In q (ready_needing_in rows n rs)) (filter_map (needing_by rows n) ps) r (all_so rows rs n ps ready) (moved_in sorted (filter_map (needing_by rows n) ps) (IsPermutation-sym (filter_map (needing_by rows n) ps) sorted same) r t)

    all : (r : Ready) → In r (ready_needing_in rows n rs) → In r sorted
    all r t = moved_in (filter_map (needing_by rows n) ps) sorted same r (in_given (needing_by rows n) (pair_of_need n r.change) r ps (told r.change (from_filter (is_ready_needing rows n) r rs t).1) (pair_tells rows rs n r ready t))
