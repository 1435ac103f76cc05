-- How many items a queue has after edits.
use Rattle.std.proofs.Common.{◌≡◌, ℕ, zero, suc, ◌+◌, ◌<◌, ◌≤◌, Bool, true, false, not, ◌&&◌, cond, Some, List, []}
use Rattle.std.proofs.Common.{◌∷◌, filter, length, take, get_or, refl, sym, ap, ◌∙◌, subst, arith, add-one, inl, inr}
use Rattle.std.specs.Prelude.{nat_lt, ◌==◌, is_some}
use Rattle.std.proofs.lemmas.Bool.{eqb-true, eq-eqb, ne_eqb, ltb-true, eqb-false}
use Rattle.gate_types.specs.declared.records.Item.{Item as ItemRow}
use Rattle.gate_types.specs.declared.edits.Edit.{Edit}
use Rattle.gate_types.specs.declared.edits.Edit.TheVariants as edit
use Rattle.gate_types.specs.Names.{same_name}
use Rattle.gate_types.specs.State.{put_by}
use Rattle.gate_types.specs.Rows.{edited_items}
use Rattle.gate_types.specs.Keys.{serial_of_item}
use Rattle.gate_laws.proofs.Rising.{Rising}
use Rattle.gate_admission.specs.Seen.{items_after, row_of_serial, grows, shrinks, one_if}
use Rattle.gate_admission.proofs.QueueItems.{none_from}

-- a row that is put adds one, unless its serial was there
length_put : (i : ItemRow) (rows : List ItemRow) → Rising serial_of_item rows →
    length (put_by serial_of_item i rows) ≡ length rows + one_if (not (is_some (row_of_serial i.serial rows)))
length_put i [] r = refl
length_put i (y ∷ ys) r = by_equal (i.serial == y.serial) refl (nat_lt i.serial y.serial) refl (length_put i ys r.1)
  where
    next : (b : Bool) → length (put_by serial_of_item i ys) ≡ length ys + one_if b →
        suc (length (put_by serial_of_item i ys)) ≡ suc (length ys) + one_if b
    next b h = omega (arith, h)

    by_equal : (b : Bool) → i.serial == y.serial ≡ b → (l : Bool) → nat_lt i.serial y.serial ≡ l →
        length (put_by serial_of_item i ys) ≡ length ys + one_if (not (is_some (row_of_serial i.serial ys))) →
        length (cond b (i ∷ ys) (cond l (i ∷ y ∷ ys) (y ∷ put_by serial_of_item i ys))) ≡
        suc (length ys) + one_if (not (is_some (row_of_serial i.serial (y ∷ ys))))
    by_equal true e l f h =
        let there : one_if (not (is_some (row_of_serial i.serial (y ∷ ys)))) ≡ 0 =
        ap (λ t. one_if (not (is_some (cond t (Some y) (row_of_serial i.serial ys)))))
        (eq-eqb y.serial i.serial (sym (eqb-true i.serial y.serial e))) in
        omega (arith, there)
    by_equal false e true f h =
        let low = ltb-true i.serial y.serial f in
        let gone : one_if (not (is_some (row_of_serial i.serial (y ∷ ys)))) ≡ 1 =
        ap (λ o. one_if (not (is_some o))) (none_from i.serial (y ∷ ys) (λ x m. elim m [
          | inl g ↦ subst (λ (z : ItemRow). i.serial < z.serial) g low
          | inr n ↦ (let up = r.0 x n in omega (arith, up, low))
        ])) in
        omega (arith, gone)
    by_equal false e false f h =
        let same : row_of_serial i.serial (y ∷ ys) ≡ row_of_serial i.serial ys =
        ap (λ t. cond t (Some y) (row_of_serial i.serial ys))
        (ne_eqb y.serial i.serial (λ g. eqb-false i.serial y.serial e (sym g))) in
        next (not (is_some (row_of_serial i.serial ys))) h ∙ ap (λ o. suc (length ys) + one_if (not (is_some o))) (sym same)

-- a row that is dropped takes one
length_drop : (k : ℕ) (rows : List ItemRow) → Rising serial_of_item rows →
    length (filter (λ j. not (j.serial == k)) rows) + one_if (is_some (row_of_serial k rows)) ≡ length rows
length_drop k [] r = refl
length_drop k (y ∷ ys) r = by_test (y.serial == k) refl (length_drop k ys r.1)
  where
    by_test : (b : Bool) → y.serial == k ≡ b →
        length (filter (λ j. not (j.serial == k)) ys) + one_if (is_some (row_of_serial k ys)) ≡ length ys →
        length (cond (not b) (y ∷ filter (λ j. not (j.serial == k)) ys) (filter (λ j. not (j.serial == k)) ys))
        + one_if (is_some (cond b (Some y) (row_of_serial k ys))) ≡ suc (length ys)
    by_test true e h =
        let none : one_if (is_some (row_of_serial k ys)) ≡ 0 =
        ap (λ o. one_if (is_some o)) (none_from k ys
        (λ x m. let up = r.0 x m in let same = eqb-true y.serial k e in omega (arith, up, same))) in
        omega (arith, none, h)
    by_test false e h = omega (arith, h)

-- how an edit changes the number
pub size_step : (name : List ℕ) (rows : List ItemRow) (e : Edit) → Rising serial_of_item rows →
    length (edited_items name rows e) + one_if (shrinks rows e) ≡ length rows + one_if (grows name rows e)
size_step name rows (edit.PutItem q i) r = by_name (same_name q name)
  where
    by_name : (b : Bool) → length (cond b (put_by serial_of_item i rows) rows) + 0 ≡
        length rows + one_if (b && not (is_some (row_of_serial i.serial rows)))
    by_name true = omega (arith, length_put i rows r)
    by_name false = refl
size_step name rows (edit.DropItem k) r = omega (arith, length_drop k rows r)
size_step name rows (edit.LandItem k) r = omega (arith, length_drop k rows r)
size_step name rows (edit.PutChange k a) r = refl
size_step name rows (edit.SetStage k g) r = refl
size_step name rows (edit.PutPlan k) r = refl
size_step name rows (edit.PutLanding q p l) r = refl
size_step name rows (edit.PutReport q p l) r = refl
size_step name rows (edit.PutBuild b) r = refl
size_step name rows (edit.SetOutcome b o) r = refl
size_step name rows (edit.StopBuild b) r = refl
size_step name rows (edit.SetWindow q w) r = refl
size_step name rows (edit.SetCounter k d) r = refl
size_step name rows (edit.Keep k) r = refl

-- one edit more
pub after_more : (name : List ℕ) (rows : List ItemRow) (edits : List Edit) (k : ℕ) (e : Edit) → k < length edits →
    e ≡ get_or edits k e → items_after name rows (take (k + 1) edits) ≡
    edited_items name (items_after name rows (take k edits)) e
after_more name rows [] k e l at = absurd (omega (arith, l))
after_more name rows (x ∷ xs) zero e l at = ap (λ y. edited_items name rows y) (sym at)
after_more name rows (x ∷ xs) (suc k) e l at =
    ap (λ n. items_after name rows (take n (x ∷ xs))) (add-one (suc k))
    ∙ sym (ap (λ n. items_after name (edited_items name rows x) (take n xs)) (add-one k))
    ∙ after_more name (edited_items name rows x) xs k e (omega (arith, l)) at

pub one_if_most : (b : Bool) → one_if b ≤ 1
one_if_most true = omega arith
one_if_most false = omega arith
