-- The changes that are held: what is read of them.
use Rattle.std.proofs.Common.{◌≡◌, ℕ, Bool, true, false, cond, not, Option, Some, None, List, [], ◌∷◌, refl, sym, ap}
use Rattle.std.proofs.Common.{◌∙◌, eqb-true, true≢false, ⊎_elim}
use Rattle.std.specs.Prelude.{◌==◌, ◌&&◌, nat_lt, find, is_some, IsSome, IfSome, IfOk, Result, Ok, Err, option_map}
use Rattle.std.specs.Prelude.{option_and_then}
use Rattle.std.specs.List.{list_any, list_all, AllByRecursion}
use Rattle.std.specs.Option.{option_map_or}
use Rattle.std.proofs.lemmas.Bool.{eq-eqb}
use Rattle.gate_types.specs.declared.records.Change.{Change}
use Rattle.gate_types.specs.declared.records.Item.{Item}
use Rattle.gate_types.specs.declared.records.Ready.{Ready}
use Rattle.gate_types.specs.declared.rows.ChangeRow.{ChangeRow}
use Rattle.gate_types.specs.State.{put_by}
use Rattle.gate_types.specs.Tables.{approval_of, change_row_in, change_in, needs_in}
use Rattle.gate_types.specs.Keys.{number_of_change}
use Rattle.gate_types.specs.Rising.{RisesFrom, In}
use Rattle.gate_book_trait.specs.RowReads.{AreReady, approval_in, needing_in}
use Rattle.gate_book_trait.specs.RowReads.{ready_needing_in}
use Rattle.gate_book_trait.proofs.Finding.{all_in, found_in}
use Rattle.gate_book_trait.proofs.ReadLemmas.{approval_told}
use Rattle.gate_memory.specs.Sorted.{without}
use Rattle.gate_memory.specs.Changes.{IsWhatRowsTell}
use Rattle.gate_memory.specs.TableReads.{IsWhatRowsTellOf}
use Rattle.gate_memory.proofs.TableLemmas.{find_put}
use Rattle.gate_memory.proofs.NeedLemmas.{all_from}
use Rattle.gate_memory.proofs.IndexLemmas.{finds_row}
use Rattle.gate_live.specs.HeldChanges.{AreRowsOf, has_row, has_rows_of, items_above}

abbrev pub approval_of_row : ChangeRow → Option ℕ
approval_of_row r = r.approval

-- a row among all
abbrev pub put_row : List ChangeRow → ChangeRow → List ChangeRow
put_row rows r = put_by number_of_change r rows

-- ---- what is found after a put, or after a row went

-- the same of two lists, if it was the same for each other number
pub put_same : (r : ChangeRow) (rows all : List ChangeRow) (n : ℕ) → (r.change.number == n ≡ false → change_row_in rows n ≡ change_row_in all n) →
    change_row_in (put_row rows r) n ≡ change_row_in (put_row all r) n
put_same r rows all n same = find_put number_of_change n r rows ∙ by_number (r.change.number == n) refl ∙ sym (find_put number_of_change n r all)
  where
    by_number : (t : Bool) → r.change.number == n ≡ t → cond t (Some r) (change_row_in rows n) ≡ cond t (Some r) (change_row_in all n)
    by_number true e = refl
    by_number false e = same e

-- another row is as it was
pub put_other : (r : ChangeRow) (rows : List ChangeRow) (n : ℕ) → r.change.number == n ≡ false → change_row_in (put_row rows r) n ≡ change_row_in rows n
put_other r rows n e = find_put number_of_change n r rows ∙ ap (λ t. cond t (Some r) (change_row_in rows n)) e

pub put_found : (r : ChangeRow) (rows : List ChangeRow) (n : ℕ) → r.change.number == n ≡ true → change_row_in (put_row rows r) n ≡ Some r
put_found r rows n e = find_put number_of_change n r rows ∙ ap (λ t. cond t (Some r) (change_row_in rows n)) e

-- a row of another number stays
pub without_other : (m n : ℕ) (rows : List ChangeRow) → m == n ≡ false → change_row_in (without number_of_change m rows) n ≡ change_row_in rows n
without_other m n [] e = refl
without_other m n (r ∷ rs) e = by_number (r.change.number == m) refl (r.change.number == n) refl (without_other m n rs e)
  where
    by_number : (s : Bool) → r.change.number == m ≡ s → (t : Bool) → r.change.number == n ≡ t → change_row_in (without number_of_change m rs) n ≡ change_row_in rs n →
        find (λ (k : ChangeRow). k.change.number == n) (cond (not s) (r ∷ without number_of_change m rs) (without number_of_change m rs)) ≡ cond t (Some r) (change_row_in rs n)
    by_number true a true b rest =
        let p : r.change.number ≡ m = eqb-true r.change.number m a in
        let q : r.change.number ≡ n = eqb-true r.change.number n b in
        absurd (true≢false (sym (eq-eqb m n (sym p ∙ q)) ∙ e))
    by_number true a false b rest = rest
    by_number false a t b rest = ap (λ v. cond v (Some r) (change_row_in (without number_of_change m rs) n)) b ∙ ap (λ o. cond t (Some r) o) rest

-- one of this number is gone
pub without_same : (m n : ℕ) (rows : List ChangeRow) → m == n ≡ true → change_row_in (without number_of_change m rows) n ≡ None
without_same m n [] e = refl
without_same m n (r ∷ rs) e = by_number (r.change.number == m) refl (without_same m n rs e)
  where
    by_number : (s : Bool) → r.change.number == m ≡ s → change_row_in (without number_of_change m rs) n ≡ None →
        find (λ (k : ChangeRow). k.change.number == n) (cond (not s) (r ∷ without number_of_change m rs) (without number_of_change m rs)) ≡ None
    by_number true a rest = rest
    by_number false a rest = ap (λ k. cond (r.change.number == k) (Some r) (change_row_in (without number_of_change m rs) n)) (sym (eqb-true m n e))
        ∙ ap (λ v. cond v (Some r) (change_row_in (without number_of_change m rs) n)) a ∙ rest

-- ---- what is read of them

-- each approval
pub approval_held : (rows all : List ChangeRow) (n : ℕ) → AreRowsOf rows all → approval_in rows n ≡ approval_in all n
approval_held rows all n held = by_row (change_row_in rows n) refl
  where
    by_none : (o : Option ℕ) → approval_in all n ≡ o → change_row_in rows n ≡ None → approval_in rows n ≡ approval_in all n
    by_none None e none = ap (option_and_then approval_of_row) none ∙ sym e
    by_none (Some a) e none = ap (option_and_then approval_of_row) (held.ready n (ap is_some e))

    by_row : (o : Option ChangeRow) → change_row_in rows n ≡ o → approval_in rows n ≡ approval_in all n
    by_row None e = by_none (approval_in all n) refl e
    by_row (Some r) e = ap (option_and_then approval_of_row) (held.own n (ap is_some e))

-- what is known of one that is held
pub change_held : (rows all : List ChangeRow) (n : ℕ) (k : Change) → AreRowsOf rows all → Some k ≡ change_in rows n → Some k ≡ change_in all n
change_held rows all n k held found = found ∙ ap (option_map change_of_row) (held.own n (some_row (change_row_in rows n) found))
  where
    change_of_row : ChangeRow → Change
    change_of_row r = r.change

    some_row : (o : Option ChangeRow) → Some k ≡ option_map (λ (r : ChangeRow). r.change) o → is_some o ≡ true
    some_row None e = absurd (true≢false (ap is_some e))
    some_row (Some r) e = refl

-- the ready list: the rows that are held tell each list that all tell
pub ready_held : (rows all : List ChangeRow) (rs : List Ready) → RisesFrom number_of_change 0 rows → AreRowsOf rows all → AreReady all rs → AreReady rows rs
ready_held rows all rs rise held ready = record {
  rise = ready.rise;
  differ = ready.differ;
  fit = ready.fit;
  told = all_from (λ (r : ChangeRow). r.approval ≡ approval_of rs r.change.number) rows (λ r there. told r (finds_row number_of_change r 0 rows rise there));
  known = all_from (λ (r : Ready). IsSome (change_row_in rows r.change)) rs (λ r there. known r there);
}
  where
    told : (r : ChangeRow) → change_row_in rows r.change.number ≡ Some r → r.approval ≡ approval_of rs r.change.number
    told r found =
        let own : change_row_in all r.change.number ≡ Some r = sym (held.own r.change.number (ap is_some found)) ∙ found in
        all_in (λ (j : ChangeRow). j.approval ≡ approval_of rs j.change.number) all r ready.told (found_in (λ (j : ChangeRow). j.change.number == r.change.number) all r own)

    known : (r : Ready) → In r rs → IsSome (change_row_in rows r.change)
    known r there =
        let listed : is_some (approval_of rs r.change) ≡ true = some_approval (find (λ (q : Ready). q.change == r.change) rs) (in_found rs there) in
        let approved : is_some (approval_in all r.change) ≡ true = ap is_some (approval_told all rs r.change ready) ∙ listed in
        ap is_some (held.ready r.change approved) ∙ all_in (λ (q : Ready). IsSome (change_row_in all q.change)) rs r ready.known there
      where
        in_found : (qs : List Ready) → In r qs → is_some (find (λ (q : Ready). q.change == r.change) qs) ≡ true
        in_found [] there = absurd there
        in_found (q ∷ qs) there = ⊎_elim
            (λ e. ap (λ t. is_some (cond t (Some q) (find (λ (p : Ready). p.change == r.change) qs))) (eq-eqb q.change r.change (ap (λ (p : Ready). p.change) e)))
            (λ t. some_either (q.change == r.change) (find (λ (p : Ready). p.change == r.change) qs) (in_found qs t))
            there
          where
            some_either : (t : Bool) (o : Option Ready) → is_some o ≡ true → is_some (cond t (Some q) o) ≡ true
            some_either true o e = refl
            some_either false o e = e

        some_approval : (o : Option Ready) → is_some o ≡ true → is_some (option_map (λ (q : Ready). q.approval) o) ≡ true
        some_approval None e = e
        some_approval (Some q) e = refl

-- the needs of one that is held
needs_held : (rows all : List ChangeRow) (n : ℕ) → AreRowsOf rows all → has_row rows n ≡ true → needs_in rows n ≡ needs_in all n
needs_held rows all n held here = ap (λ o. option_map_or (λ (k : Change). k.needs) (option_map (λ (r : ChangeRow). r.change) o) []) (held.own n here)

-- the ready changes that need another
pub ready_needing_held : (rows all : List ChangeRow) (n : ℕ) (rs : List Ready) → AreRowsOf rows all → AllByRecursion (λ (r : Ready). IsSome (change_row_in rows r.change)) rs →
    ready_needing_in rows n rs ≡ ready_needing_in all n rs
ready_needing_held rows all n [] held here = refl
ready_needing_held rows all n (r ∷ rs) held here = λ i. cond (list_any (λ m. m == n) (needs_held rows all r.change held here.0 i)) (r ∷ ready_needing_held rows all n rs held here.1 i) (ready_needing_held rows all n rs held here.1 i)

pub not_false : (b : Bool) → not b ≡ false → b ≡ true
not_false true e = refl
not_false false e = absurd (true≢false e)

and_parts : (a b : Bool) → a && b ≡ true → (a ≡ true) × (b ≡ true)
and_parts true b e = (refl, e)
and_parts false b e = absurd (true≢false (sym e))

-- the items above a serial whose changes need another
pub needing_held : (rows all : List ChangeRow) (n above : ℕ) (items : List Item) → AreRowsOf rows all → has_rows_of rows (items_above above items) ≡ true →
    needing_in rows n above items ≡ needing_in all n above items
needing_held rows all n above [] held here = refl
needing_held rows all n above (i ∷ items) held here = by_serial (nat_lt above i.serial) here (needing_held rows all n above items held)
  where
    by_serial : (t : Bool) → list_all (λ (j : Item). has_row rows j.change) (cond t (i ∷ items_above above items) (items_above above items)) ≡ true →
        (has_rows_of rows (items_above above items) ≡ true → needing_in rows n above items ≡ needing_in all n above items) →
        cond (t && list_any (λ m. m == n) (needs_in rows i.change)) (i ∷ needing_in rows n above items) (needing_in rows n above items)
        ≡ cond (t && list_any (λ m. m == n) (needs_in all i.change)) (i ∷ needing_in all n above items) (needing_in all n above items)
    by_serial true here rest =
        let both = and_parts (has_row rows i.change) (has_rows_of rows (items_above above items)) here in
        let needs = needs_held rows all i.change held both.0 in
        let others = rest both.1 in
        λ k. cond (list_any (λ m. m == n) (needs k)) (i ∷ others k) (others k)
    by_serial false here rest = rest here

-- ---- answers that may be refused memory

pub change_there : {E : Type 0} (rows : List ChangeRow) (n : ℕ) (r : Result (Option Change) E) → IfOk r (λ found. found ≡ change_in rows n) →
    IfOk r (λ found. is_some found ≡ has_row rows n)
change_there rows n (Err e) told = tt
change_there rows n (Ok found) told = ap is_some told ∙ by_row (change_row_in rows n)
  where
    by_row : (o : Option ChangeRow) → is_some (option_map (λ (r : ChangeRow). r.change) o) ≡ is_some o
    by_row None = refl
    by_row (Some r) = refl

pub change_read : {E : Type 0} (rows : List ChangeRow) (n : ℕ) (r : Result (Option Change) E) → IfOk r (λ found. found ≡ change_in rows n) →
    IfOk r (λ found. IfSome found (λ k. (all : List ChangeRow) → AreRowsOf rows all → Some k ≡ change_in all n))
change_read rows n (Err e) told = tt
change_read rows n (Ok None) told = tt
change_read rows n (Ok (Some k)) told = λ all held. change_held rows all n k held told

pub ready_read : {E : Type 0} (rows : List ChangeRow) (r : Result (List Ready) E) → RisesFrom number_of_change 0 rows → IfOk r (IsWhatRowsTell rows) →
    IfOk r (λ found. (all : List ChangeRow) → AreRowsOf rows all → IsWhatRowsTell all found)
ready_read rows (Err e) rise told = tt
ready_read rows (Ok found) rise told = λ all held ready are. told ready (ready_held rows all ready rise held are)

pub ready_needing_read : {E : Type 0} (rows : List ChangeRow) (n : ℕ) (r : Result (List Ready) E) → RisesFrom number_of_change 0 rows → IfOk r (IsWhatRowsTellOf rows n) →
    IfOk r (λ found. (all : List ChangeRow) → AreRowsOf rows all → IsWhatRowsTellOf all n found)
ready_needing_read rows n (Err e) rise told = tt
ready_needing_read rows n (Ok found) rise told = λ all held ready are.
    let mine = ready_held rows all ready rise held are in told ready mine ∙ ready_needing_held rows all n ready held mine.known
