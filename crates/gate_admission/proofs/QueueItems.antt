-- The items of a queue after edits: in order, each stored before or put since, and found by serial and by change.
use Rattle.std.proofs.Common.{◌≡◌, ℕ, ◌-◌, ◌<◌, ◌≤◌, ◌⊎◌, inl, inr, ⊎_elim, Bool, true, false, not, cond, Some, None}
use Rattle.std.proofs.Common.{List, [], ◌∷◌, refl, sym, ap, ◌∙◌, arith}
use Rattle.std.specs.Prelude.{◌==◌, option_and_then}
use Rattle.std.proofs.lemmas.Bool.{eq-eqb, ne_eqb, lt-ltb, le-ltb, cases_lt}
use Rattle.gate_types.specs.declared.records.Item.{Item as ItemRow}
use Rattle.gate_types.specs.declared.edits.Edit.{Edit}
use Rattle.gate_types.specs.declared.edits.Edit.TheVariants as edit
use Rattle.gate_types.specs.Names.{same_name}
use Rattle.gate_types.specs.State.{put_by}
use Rattle.gate_types.specs.Rows.{edited_items}
use Rattle.gate_types.specs.Keys.{serial_of_item}
use Rattle.gate_types.specs.Rising.{In}
use Rattle.gate_book_trait.specs.Reads.{first_above}
use Rattle.gate_laws.proofs.Members.{from_filter}
use Rattle.gate_laws.proofs.Rising.{Rising, from_put, rising_put, rising_filter}
use Rattle.gate_admission.specs.Seen.{items_after, row_of_serial, if_at}

-- ---- in order

pub rising_after : (name : List ℕ) (rows : List ItemRow) (edits : List Edit) → Rising serial_of_item rows →
    Rising serial_of_item (items_after name rows edits)
rising_after name rows [] r = r
rising_after name rows (e ∷ es) r = rising_after name (edited_items name rows e) es (step e)
  where
    step : (e : Edit) → Rising serial_of_item (edited_items name rows e)
    step (edit.PutItem q i) = by_name (same_name q name)
      where
        by_name : (b : Bool) → Rising serial_of_item (cond b (put_by serial_of_item i rows) rows)
        by_name true = rising_put serial_of_item i rows r
        by_name false = r
    step (edit.DropItem k) = rising_filter serial_of_item (λ j. not (j.serial == k)) rows r
    step (edit.LandItem k) = rising_filter serial_of_item (λ j. not (j.serial == k)) rows r
    step (edit.PutChange k a) = r
    step (edit.SetStage n g) = r
    step (edit.PutPlan k) = r
    step (edit.PutLanding q p l) = r
    step (edit.PutReport q p l) = r
    step (edit.PutBuild b) = r
    step (edit.SetOutcome b o) = r
    step (edit.StopBuild b) = r
    step (edit.SetWindow q w) = r
    step (edit.SetCounter k d) = r
    step (edit.Keep k) = r

-- ---- the stored item of a serial

-- in a list that rises, what is above the one before a serial tells what is at it
pub none_from : (k : ℕ) (rows : List ItemRow) → ((y : ItemRow) → In y rows → k < y.serial) → row_of_serial k rows ≡ None
none_from k [] h = refl
none_from k (x ∷ xs) h =
    let above = h x (inl refl) in
    ap (λ t. cond t (Some x) (row_of_serial k xs)) (ne_eqb x.serial k (λ e. omega (arith, above, e)))
    ∙ none_from k xs (λ y m. h y (inr m))

pub at_by_above : (k : ℕ) (rows : List ItemRow) → 1 ≤ k → Rising serial_of_item rows →
    row_of_serial k rows ≡ option_and_then (if_at k) (first_above (k - 1) rows)
at_by_above k [] one r = refl
at_by_above k (x ∷ xs) one r = ⊎_elim
    (λ (l : x.serial < k).
    ap (λ t. cond t (Some x) (row_of_serial k xs)) (ne_eqb x.serial k (λ e. omega (arith, l, e)))
    ∙ at_by_above k xs one r.1
    ∙ sym (ap (λ t. option_and_then (if_at k) (cond t (Some x) (first_above (k - 1) xs)))
    (le-ltb (k - 1) x.serial (omega (arith, l, one)))))
    (λ (l : k ≤ x.serial).
    by_test (x.serial == k) refl l
    ∙ sym (ap (λ t. option_and_then (if_at k) (cond t (Some x) (first_above (k - 1) xs)))
    (lt-ltb (k - 1) x.serial (omega (arith, l, one)))))
    (cases_lt x.serial k)
  where
    by_test : (b : Bool) → x.serial == k ≡ b → k ≤ x.serial →
        cond b (Some x) (row_of_serial k xs) ≡ cond b (Some x) None
    by_test true e l = refl
    by_test false e l = none_from k xs (λ y m. let up = r.0 y m in omega (arith, up, l))

-- ---- each was stored or put

-- an edit puts a row into a queue
abbrev pub Puts : List ℕ → ItemRow → Edit → Type 0
Puts name r (edit.PutItem q i) = (same_name q name ≡ true) × (i ≡ r)
Puts name r _ = ⊥

-- one of these edits does
abbrev pub PutBy : List ℕ → ItemRow → List Edit → Type 0
PutBy name r [] = ⊥
PutBy name r (e ∷ es) = Puts name r e ⊎ PutBy name r es

from_step : (name : List ℕ) (rows : List ItemRow) (e : Edit) (r : ItemRow) → In r (edited_items name rows e) →
    In r rows ⊎ Puts name r e
from_step name rows (edit.PutItem q i) r m = by_name (same_name q name) refl m
  where
    by_name : (b : Bool) → same_name q name ≡ b → In r (cond b (put_by serial_of_item i rows) rows) →
        In r rows ⊎ ((same_name q name ≡ true) × (i ≡ r))
    by_name true e n =
        ⊎_elim (λ (f : i ≡ r). inr (e, f)) (λ (f : In r rows). inl f) (from_put serial_of_item i rows r n)
    by_name false e n = inl n
from_step name rows (edit.DropItem k) r m = inl (from_filter (λ j. not (j.serial == k)) rows r m).0
from_step name rows (edit.LandItem k) r m = inl (from_filter (λ j. not (j.serial == k)) rows r m).0
from_step name rows (edit.PutChange k a) r m = inl m
from_step name rows (edit.SetStage n g) r m = inl m
from_step name rows (edit.PutPlan k) r m = inl m
from_step name rows (edit.PutLanding q p l) r m = inl m
from_step name rows (edit.PutReport q p l) r m = inl m
from_step name rows (edit.PutBuild b) r m = inl m
from_step name rows (edit.SetOutcome b o) r m = inl m
from_step name rows (edit.StopBuild b) r m = inl m
from_step name rows (edit.SetWindow q w) r m = inl m
from_step name rows (edit.SetCounter k d) r m = inl m
from_step name rows (edit.Keep k) r m = inl m

pub from_after : (name : List ℕ) (rows : List ItemRow) (edits : List Edit) (r : ItemRow) →
    In r (items_after name rows edits) → In r rows ⊎ PutBy name r edits
from_after name rows [] r m = inl m
from_after name rows (e ∷ es) r m = ⊎_elim
    (λ (n : In r (edited_items name rows e)). ⊎_elim (λ (k : In r rows). inl k) (λ (k : Puts name r e). inr (inl k))
    (from_step name rows e r n))
    (λ (n : PutBy name r es). inr (inr n))
    (from_after name (edited_items name rows e) es r m)

-- ---- by serial

-- what stands at a serial is found
pub at_there : (rows : List ItemRow) (r : ItemRow) → Rising serial_of_item rows → In r rows →
    row_of_serial r.serial rows ≡ Some r
at_there [] r up m = absurd m
at_there (x ∷ xs) r up m = elim m [
  | inl e ↦ ap (λ t. cond t (Some x) (row_of_serial r.serial xs)) (eq-eqb x.serial r.serial (ap serial_of_item e)) ∙ ap Some e
  | inr n ↦
      (let low = up.0 r n in
      ap (λ t. cond t (Some x) (row_of_serial r.serial xs)) (ne_eqb x.serial r.serial (λ e. omega (arith, low, e)))
      ∙ at_there xs r up.1 n)
]
