-- The changes that are held: what edits make of them.
use Rattle.std.proofs.Common.{◌≡◌, ℕ, suc, ◌+◌, Bool, true, false, cond, Option, Some, None, List, [], ◌∷◌}
use Rattle.std.proofs.Common.{refl, sym, ap, subst, ◌∙◌, eqb-true, arith, true≢false}
use Rattle.std.specs.Prelude.{◌==◌, ◌||◌, filter, fold, is_some, OnOk, OnErr, Result, Ok, Err, option_map}
use Rattle.std.specs.Prelude.{option_and_then}
use Rattle.std.specs.Option.{option_map_or}
use Rattle.std.proofs.lemmas.Bool.{false≢true}
use Rattle.gate_types.specs.declared.edits.Edit.{Edit}
use Rattle.gate_types.specs.declared.edits.Edit.TheVariants as edit
use Rattle.gate_types.specs.declared.records.Change.{Change}
use Rattle.gate_types.specs.declared.records.Stage.{Stage}
use Rattle.gate_types.specs.declared.rows.ChangeRow.{ChangeRow}
use Rattle.gate_types.specs.Tables.{at_stage, change_known, edited_changes, change_row_in, change_in}
use Rattle.gate_types.specs.Keys.{number_of_change}
use Rattle.gate_types.proofs.ChangedLemmas.{found_changed}
use Rattle.gate_book_trait.specs.RowReads.{approval_in}
use Rattle.gate_book_trait.proofs.Finding.{found_has}
use Rattle.gate_memory.specs.Sorted.{without}
use Rattle.gate_memory.specs.Changes.{HasRoomForChanges}
use Rattle.gate_memory.specs.declared.changes.ChangeTable.{ChangeTable}
use Rattle.gate_memory.proofs.RoomLemmas.{changes_fewer}
use Rattle.gate_memory.specs.HeldQueues.{LiveQueue}
use Rattle.gate_live.specs.HeldChanges.{AnyAreHeldOf, AreRowsOf, rows_edited, has_row, with_row, edited_rows, fold_rows}
use Rattle.gate_live.specs.HeldChanges.{is_of_changes, is_queued_in, without_change, without_left}
use Rattle.gate_live.specs.HeldChanges.{change_touched}
use Rattle.gate_live.proofs.HeldChangeLemmas.{approval_of_row, put_row, put_same, put_other, put_found, without_other}
use Rattle.gate_live.proofs.HeldChangeLemmas.{without_same, approval_held}

-- a row put among all, where its change is ready or was held
held_with_row : (rows all : List ChangeRow) (r : ChangeRow) → AreRowsOf rows all → AreRowsOf (with_row rows r) (put_row all r)
held_with_row rows all r held = by_test (is_some r.approval || has_row rows r.change.number) refl
  where
    neither : (a b : Bool) → a || b ≡ false → (a ≡ false) × (b ≡ false)
    neither true b e = absurd (true≢false e)
    neither false b e = (refl, e)

    -- it is put in both
    both_own : (n : ℕ) (t : Bool) → r.change.number == n ≡ t → is_some (change_row_in (put_row rows r) n) ≡ true → change_row_in (put_row rows r) n ≡ change_row_in (put_row all r) n
    both_own n true e here = put_found r rows n e ∙ sym (put_found r all n e)
    both_own n false e here = put_same r rows all n (λ f. held.own n (sym (ap is_some (put_other r rows n e)) ∙ here))

    both_ready : (n : ℕ) (t : Bool) → r.change.number == n ≡ t → is_some (approval_in (put_row all r) n) ≡ true → change_row_in (put_row rows r) n ≡ change_row_in (put_row all r) n
    both_ready n true e here = put_found r rows n e ∙ sym (put_found r all n e)
    both_ready n false e here = put_same r rows all n (λ f. held.ready n (sym (ap (λ o. is_some (option_and_then approval_of_row o)) (put_other r all n e)) ∙ here))

    -- it is put in neither of those that are held
    none_own : has_row rows r.change.number ≡ false → (n : ℕ) (t : Bool) → r.change.number == n ≡ t → has_row rows n ≡ true → change_row_in rows n ≡ change_row_in (put_row all r) n
    none_own none n true e here = absurd (false≢true (sym none ∙ ap (has_row rows) (eqb-true r.change.number n e) ∙ here))
    none_own none n false e here = held.own n here ∙ sym (put_other r all n e)

    none_ready : is_some r.approval ≡ false → (n : ℕ) (t : Bool) → r.change.number == n ≡ t → is_some (approval_in (put_row all r) n) ≡ true → change_row_in rows n ≡ change_row_in (put_row all r) n
    none_ready none n true e here = absurd (false≢true (sym none ∙ sym (ap (λ o. is_some (option_and_then approval_of_row o)) (put_found r all n e)) ∙ here))
    none_ready none n false e here = held.ready n (sym (ap (λ o. is_some (option_and_then approval_of_row o)) (put_other r all n e)) ∙ here) ∙ sym (put_other r all n e)

    by_test : (t : Bool) → (is_some r.approval || has_row rows r.change.number) ≡ t → AreRowsOf (cond t (put_row rows r) rows) (put_row all r)
    by_test true e = record { own = λ n here. both_own n (r.change.number == n) refl here; ready = λ n here. both_ready n (r.change.number == n) refl here }
    by_test false e =
        let none = neither (is_some r.approval) (has_row rows r.change.number) e in
        record { own = λ n here. none_own none.1 n (r.change.number == n) refl here; ready = λ n here. none_ready none.0 n (r.change.number == n) refl here }

-- a stage set among all: the change isn't ready then, so it may be held or not
held_with_stage : (rows all : List ChangeRow) (n : ℕ) (g : Stage) → AreRowsOf rows all → AreRowsOf (change_known n (at_stage g) rows) (change_known n (at_stage g) all)
held_with_stage rows all n g held = record {
  own = λ m here. same m (held.own m (sym (still_some (change_row_in rows m)) ∙ sym (ap is_some (found m rows)) ∙ here));
  ready = λ m here. same m (by_row m (change_row_in all m) refl (sym (ap (λ o. is_some (option_and_then approval_of_row o)) (found m all)) ∙ here));
}
  where
    found : (m : ℕ) (rs : List ChangeRow) → change_row_in (change_known n (at_stage g) rs) m ≡ option_map (λ (r : ChangeRow). cond (r.change.number == n) (at_stage g r) r) (change_row_in rs m)
    found m rs = found_changed number_of_change n (at_stage g) (λ r. refl) m rs

    still_some : (o : Option ChangeRow) → is_some (option_map (λ (r : ChangeRow). cond (r.change.number == n) (at_stage g r) r) o) ≡ is_some o
    still_some None = refl
    still_some (Some r) = refl

    same : (m : ℕ) → change_row_in rows m ≡ change_row_in all m → change_row_in (change_known n (at_stage g) rows) m ≡ change_row_in (change_known n (at_stage g) all) m
    same m e = found_changed number_of_change n (at_stage g) (λ r. refl) m rows ∙ ap (option_map (λ (r : ChangeRow). cond (r.change.number == n) (at_stage g r) r)) e ∙ sym (found_changed number_of_change n (at_stage g) (λ r. refl) m all)

    by_row : (m : ℕ) (o : Option ChangeRow) → change_row_in all m ≡ o → is_some (option_and_then approval_of_row (option_map (λ (r : ChangeRow). cond (r.change.number == n) (at_stage g r) r) o)) ≡ true → change_row_in rows m ≡ change_row_in all m
    by_row m None e here = absurd (false≢true here)
    by_row m (Some r) e here = by_number (r.change.number == n) here
      where
        by_number : (t : Bool) → is_some (approval_of_row (cond t (at_stage g r) r)) ≡ true → change_row_in rows m ≡ change_row_in all m
        by_number true here = absurd (false≢true here)
        by_number false here = held.ready m (ap (λ p. is_some (option_and_then approval_of_row p)) e ∙ here)

-- all rows of changes after a list of edits
abbrev pub fold_changes : List ChangeRow → List Edit → List ChangeRow
fold_changes all edits = fold edited_changes all edits

held_with_edit : (rows all : List ChangeRow) (e : Edit) → AreRowsOf rows all → AreRowsOf (edited_rows rows e) (edited_changes all e)
held_with_edit rows all (edit.PutChange k a) held = held_with_row rows all (record { change = k; approval = a }) held
held_with_edit rows all (edit.SetStage n g) held = held_with_stage rows all n g held
held_with_edit rows all _ held = held

-- the rows that are held after edits are of those that all then are
held_after : (edits : List Edit) (rows all : List ChangeRow) → AreRowsOf rows all → AreRowsOf (fold_rows rows edits) (fold_changes all edits)
held_after [] rows all held = held
held_after (e ∷ es) rows all held = held_after es (edited_rows rows e) (edited_changes all e) (held_with_edit rows all e held)

-- edits of changes alone make the same of what is held
rows_of_copies : (edits : List Edit) (rows : List ChangeRow) → fold_rows rows (filter is_of_changes edits) ≡ fold_rows rows edits
rows_of_copies [] rows = refl
rows_of_copies (edit.PutChange k a ∷ es) rows = rows_of_copies es (edited_rows rows (edit.PutChange k a))
rows_of_copies (edit.SetStage n g ∷ es) rows = rows_of_copies es (edited_rows rows (edit.SetStage n g))
rows_of_copies (_ ∷ es) rows = rows_of_copies es rows

-- ---- what is let go

pub held_without : (rows all : List ChangeRow) (n : ℕ) → AreRowsOf rows all → AreRowsOf (without_change rows n) all
held_without rows all n held = by_approval (is_some (approval_in rows n)) refl
  where
    own : (m : ℕ) (t : Bool) → n == m ≡ t → has_row (without number_of_change n rows) m ≡ true → change_row_in (without number_of_change n rows) m ≡ change_row_in all m
    own m true e here = absurd (false≢true (sym (ap is_some (without_same n m rows e)) ∙ here))
    own m false e here = without_other n m rows e ∙ held.own m (sym (ap is_some (without_other n m rows e)) ∙ here)

    ready : is_some (approval_in rows n) ≡ false → (m : ℕ) (t : Bool) → n == m ≡ t → is_some (approval_in all m) ≡ true → change_row_in (without number_of_change n rows) m ≡ change_row_in all m
    ready none m true e here = absurd (false≢true (sym none ∙ ap is_some (approval_held rows all n held) ∙ ap (λ k. is_some (approval_in all k)) (eqb-true n m e) ∙ here))
    ready none m false e here = without_other n m rows e ∙ held.ready m here

    by_approval : (t : Bool) → is_some (approval_in rows n) ≡ t → AreRowsOf (cond t rows (without number_of_change n rows)) all
    by_approval true e = held
    by_approval false e = record { own = λ m here. own m (n == m) refl here; ready = λ m here. ready e m (n == m) refl here }

-- what edits left
pub held_still : (queues : List LiveQueue) (edits : List Edit) (rows all : List ChangeRow) → AreRowsOf rows all → AreRowsOf (fold (without_left queues) rows edits) all
held_still queues [] rows all held = held
held_still queues (e ∷ es) rows all held = held_still queues es (without_left queues rows e) all (by_touched (change_touched e))
  where
    by_queued : (n : ℕ) (t : Bool) → AreRowsOf (cond t rows (without_change rows n)) all
    by_queued n true = held
    by_queued n false = held_without rows all n held

    by_touched : (o : Option ℕ) → AreRowsOf (option_map_or (λ n. cond (is_queued_in queues n) rows (without_change rows n)) o rows) all
    by_touched None = held
    by_touched (Some n) = by_queued n (is_queued_in queues n)

-- ---- both

-- the rows that are held after edits, those that they left let go, are of those that all then are
pub held_edited : (queues : List LiveQueue) (edits : List Edit) (rows all : List ChangeRow) → AreRowsOf rows all → AreRowsOf (rows_edited queues edits rows) (fold_changes all edits)
held_edited queues edits rows all held =
    held_still queues edits (fold_rows rows (filter is_of_changes edits)) (fold_changes all edits)
    (subst (λ rs. AreRowsOf rs (fold_changes all edits)) (sym (rows_of_copies edits rows)) (held_after edits rows all held))

pub any_edited : (queues : List LiveQueue) (edits : List Edit) (old : Option (List ChangeRow)) (all : List ChangeRow) → AnyAreHeldOf old all →
    AnyAreHeldOf (option_map (rows_edited queues edits) old) (fold_changes all edits)
any_edited queues edits None all held = tt
any_edited queues edits (Some rows) all held = held_edited queues edits rows all held

-- ---- what was read

-- a change that is known by a number has it
pub number_is : (all : List ChangeRow) (n : ℕ) (k : Change) → Some k ≡ change_in all n → k.number ≡ n
number_is all n k known = by_row (change_row_in all n) refl known
  where
    by_row : (o : Option ChangeRow) → change_row_in all n ≡ o → Some k ≡ option_map (λ (r : ChangeRow). r.change) o → k.number ≡ n
    by_row None e known = absurd (true≢false (ap is_some known))
    by_row (Some r) e known =
        let change : k ≡ r.change = cc in
        ap (λ (j : Change). j.number) change ∙ found_has number_of_change n r all (sym e)

-- a change that wasn't held, and is among all
pub held_more : (rows all : List ChangeRow) (n : ℕ) (k : Change) → AreRowsOf rows all → has_row rows n ≡ false → change_in all n ≡ Some k → k.number ≡ n →
    AreRowsOf (put_row rows (record { change = k; approval = None })) all
held_more rows all n k held none known number = record {
  own = λ m here. own m (k.number == m) refl here;
  ready = λ m here. ready m (k.number == m) refl here;
}
  where
    r : ChangeRow
    r = record { change = k; approval = None }

    -- its row among all isn't ready
    row_is : change_row_in all n ≡ Some r
    row_is = by_row (change_row_in all n) refl (approval_in all n) refl
      where
        by_row : (o : Option ChangeRow) → change_row_in all n ≡ o → (a : Option ℕ) → approval_in all n ≡ a → change_row_in all n ≡ Some r
        by_row None e a f = absurd (false≢true (ap is_some (sym (ap (option_map (λ (j : ChangeRow). j.change)) e) ∙ known)))
        by_row (Some j) e (Some a) f = absurd (false≢true (sym none ∙ ap is_some (held.ready n (ap is_some f) ∙ e)))
        by_row (Some j) e None f =
            let change : j.change ≡ k = cc (ap (option_map (λ (i : ChangeRow). i.change)) e, known) in
            let approval : j.approval ≡ None = sym (ap (option_and_then approval_of_row) e) ∙ f in
            e ∙ λ i. Some (record { change = change i; approval = approval i })

    own : (m : ℕ) (t : Bool) → k.number == m ≡ t → has_row (put_row rows r) m ≡ true → change_row_in (put_row rows r) m ≡ change_row_in all m
    own m true e here = put_found r rows m e ∙ sym row_is ∙ ap (change_row_in all) (sym number ∙ eqb-true k.number m e)
    own m false e here = put_other r rows m e ∙ held.own m (sym (ap is_some (put_other r rows m e)) ∙ here)

    ready : (m : ℕ) (t : Bool) → k.number == m ≡ t → is_some (approval_in all m) ≡ true → change_row_in (put_row rows r) m ≡ change_row_in all m
    ready m true e here = put_found r rows m e ∙ sym row_is ∙ ap (change_row_in all) (sym number ∙ eqb-true k.number m e)
    ready m false e here = put_other r rows m e ∙ held.ready m here

-- and whatever came of the wish to hold it
pub held_read : {E : Type 0} (old new all : List ChangeRow) (n : ℕ) (k : Change) (r : Result (Unit {0}) E) →
    OnOk r (new ≡ put_row old (record { change = k; approval = None })) → OnErr r (new ≡ old) → has_row old n ≡ false → Some k ≡ change_in all n →
    AreRowsOf old all → AreRowsOf new all
held_read old new all n k (Err e) put same none known held = subst (λ rows. AreRowsOf rows all) (sym same) held
held_read old new all n k (Ok done) put same none known held =
    subst (λ rows. AreRowsOf rows all) (sym put) (held_more old all n k held none (sym known) (number_is all n k known))

-- ---- room

-- room for more is room for one
pub room_one : (n m k : ℕ) (t : ChangeTable) → HasRoomForChanges (suc n) (m + k) t → HasRoomForChanges 1 m t
room_one n m k t room = changes_fewer (suc n) (m + k) 1 m t (omega arith) (omega arith) room
