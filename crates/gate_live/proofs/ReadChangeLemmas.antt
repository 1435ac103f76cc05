-- The ready changes that are held once they were read one by one.
use Rattle.std.proofs.Common.{◌≡◌, ℕ, ◌+◌, ◌<◌, Bool, true, false, Option, Some, None, List, length, take, get_or}
use Rattle.std.proofs.Common.{refl, sym, ap, subst, ◌∙◌, eqb-true, true≢false}
use Rattle.std.specs.Prelude.{◌==◌, find, is_some, IsSome, option_map, option_and_then}
use Rattle.std.specs.List.{AllByRecursion}
use Rattle.std.proofs.lemmas.Bool.{eq-eqb, false≢true}
use Rattle.gate_types.specs.declared.records.Change.{Change}
use Rattle.gate_types.specs.declared.records.Ready.{Ready}
use Rattle.gate_types.specs.declared.rows.ChangeRow.{ChangeRow}
use Rattle.gate_types.specs.Tables.{approval_of, change_row_in, change_in}
use Rattle.gate_types.specs.Rising.{In}
use Rattle.gate_book_trait.specs.RowReads.{AreReady}
use Rattle.gate_book_trait.proofs.Finding.{all_in, in_weaker, found_in, found_has}
use Rattle.gate_book_trait.proofs.ReadLemmas.{approval_told}
use Rattle.gate_memory.proofs.LoopLemmas.{all_at}
use Rattle.gate_memory.proofs.NeedLemmas.{all_from, all_more}
use Rattle.gate_memory.proofs.ReadyLemmas.{approval_known}
use Rattle.gate_live.specs.HeldChanges.{AreRowsOf}
use Rattle.gate_live.proofs.HeldChangeLemmas.{approval_of_row, put_row, put_other, put_found}
use Rattle.gate_live.proofs.ChangeEditLemmas.{number_is}

-- the rows of these ready changes are there, and each row is what it is among all
pub record AreRead (rows all : List ChangeRow) (rs : List Ready) : Type 0 where
  pub own : (n : ℕ) → IsSome (change_row_in rows n) → change_row_in rows n ≡ change_row_in all n
  pub there : AllByRecursion (λ (r : Ready). IsSome (change_row_in rows r.change)) rs

-- the row of a ready change
abbrev pub ready_row : Change → ℕ → ChangeRow
ready_row k a = record { change = k; approval = Some a }

in_at : (rs : List Ready) (i : ℕ) (r : Ready) → i < length rs → r ≡ get_or rs i r → In r rs
in_at rs i r within at = subst (λ z. In z rs) (sym at) (all_at (λ z. In z rs) rs i r (all_from (λ z. In z rs) rs (λ z t. t)) within)

-- it is that of all
row_is : (all : List ChangeRow) (rs : List Ready) (r : Ready) (k : Change) → AreReady all rs → In r rs → Some k ≡ change_in all r.change →
    change_row_in all r.change ≡ Some (ready_row k r.approval)
row_is all rs r k ready there known = by_row (change_row_in all r.change) refl known
  where
    by_row : (o : Option ChangeRow) → change_row_in all r.change ≡ o → Some k ≡ option_map (λ (j : ChangeRow). j.change) o → change_row_in all r.change ≡ Some (ready_row k r.approval)
    by_row None e known = absurd (true≢false (ap is_some known))
    by_row (Some j) e known =
        let change : j.change ≡ k = cc in
        let approval : j.approval ≡ Some r.approval =
        sym (ap (option_and_then approval_of_row) e) ∙ approval_told all rs r.change ready ∙ approval_known rs r ready.differ there in
        e ∙ λ i. Some (record { change = change i; approval = approval i })

-- one more that was read
pub one_read : (rows all : List ChangeRow) (rs : List Ready) (i : ℕ) (r : Ready) (k : Change) → AreReady all rs → i < length rs → r ≡ get_or rs i r →
    Some k ≡ change_in all r.change → AreRead rows all (take i rs) → AreRead (put_row rows (ready_row k r.approval)) all (take (i + 1) rs)
one_read rows all rs i r k ready within at known read = record {
  own = λ n here. own n (k.number == n) refl here;
  there = all_more (λ (q : Ready). IsSome (change_row_in (put_row rows row) q.change)) rs i r within at
      (in_weaker (λ (q : Ready). IsSome (change_row_in rows q.change)) (λ (q : Ready). IsSome (change_row_in (put_row rows row) q.change)) (λ q here. still q.change (k.number == q.change) refl here) (take i rs) read.there)
      (ap is_some (put_found row rows r.change (eq-eqb k.number r.change number)));
}
  where
    row : ChangeRow
    row = ready_row k r.approval

    number : k.number ≡ r.change
    number = number_is all r.change k known

    here_in : In r rs
    here_in = in_at rs i r within at

    own : (n : ℕ) (t : Bool) → k.number == n ≡ t → is_some (change_row_in (put_row rows row) n) ≡ true → change_row_in (put_row rows row) n ≡ change_row_in all n
    own n true e here = put_found row rows n e ∙ sym (row_is all rs r k ready here_in known) ∙ ap (change_row_in all) (sym number ∙ eqb-true k.number n e)
    own n false e here = put_other row rows n e ∙ read.own n (sym (ap is_some (put_other row rows n e)) ∙ here)

    still : (n : ℕ) (t : Bool) → k.number == n ≡ t → is_some (change_row_in rows n) ≡ true → is_some (change_row_in (put_row rows row) n) ≡ true
    still n true e here = ap is_some (put_found row rows n e)
    still n false e here = ap is_some (put_other row rows n e) ∙ here

-- each is known
pub none_missing : (all : List ChangeRow) (rs : List Ready) (i : ℕ) (r : Ready) → AreReady all rs → i < length rs → r ≡ get_or rs i r → None ≡ change_in all r.change → ⊥
none_missing all rs i r ready within at none =
    by_row (change_row_in all r.change) none (all_in (λ (q : Ready). IsSome (change_row_in all q.change)) rs r ready.known (in_at rs i r within at))
  where
    by_row : (o : Option ChangeRow) → None ≡ option_map (λ (j : ChangeRow). j.change) o → is_some o ≡ true → ⊥
    by_row None none here = false≢true here
    by_row (Some j) none here = false≢true (ap is_some none)

-- all that are ready were read
pub all_read : (rows all : List ChangeRow) (rs : List Ready) → AreReady all rs → AreRead rows all rs → AreRowsOf rows all
all_read rows all rs ready read = record {
  own = read.own;
  ready = λ n here. read.own n (there n (find (λ (r : Ready). r.change == n) rs) refl (sym (ap is_some (approval_told all rs n ready)) ∙ here));
}
  where
    there : (n : ℕ) (o : Option Ready) → find (λ (r : Ready). r.change == n) rs ≡ o → is_some (approval_of rs n) ≡ true → IsSome (change_row_in rows n)
    there n None e here = absurd (false≢true (ap (λ o. is_some (option_map (λ (r : Ready). r.approval) o)) (sym e) ∙ here))
    there n (Some r) e here =
        subst (λ m. IsSome (change_row_in rows m)) (found_has (λ (q : Ready). q.change) n r rs (sym e))
        (all_in (λ (q : Ready). IsSome (change_row_in rows q.change)) rs r read.there (found_in (λ (q : Ready). q.change == n) rs r e))
