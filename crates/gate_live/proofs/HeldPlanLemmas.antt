-- The plans that are held: what edits make of them, and what is read of them.
use Rattle.std.proofs.Common.{◌≡◌, ◌≢◌, ℕ, Bool, true, false, not, cond, Option, Some, None, List, [], ◌∷◌, ◌++◌}
use Rattle.std.proofs.Common.{refl, sym, ap, subst, ◌∙◌, ⊎_elim, arith, true≢false}
use Rattle.std.specs.Prelude.{◌==◌, find, is_some, option_map, option_to_list, IfSome}
use Rattle.std.specs.List.{AllByRecursion}
use Rattle.std.proofs.lemmas.Bool.{eq-eqb, ne_eqb}
use Rattle.gate_types.specs.declared.edits.Edit.{Edit}
use Rattle.gate_types.specs.declared.edits.Edit.TheVariants as edit
use Rattle.gate_types.specs.declared.records.Item.{Item}
use Rattle.gate_types.specs.declared.records.Plan.{Plan}
use Rattle.gate_types.specs.State.{put_by}
use Rattle.gate_types.specs.Tables.{edited_plans, unmark, unmarked}
use Rattle.gate_types.specs.Keys.{serial_of_plan}
use Rattle.gate_types.specs.Rising.{RisesFrom}
use Rattle.gate_types.proofs.ChangedLemmas.{found_changed}
use Rattle.gate_book_trait.specs.RowReads.{plans_of_rows}
use Rattle.gate_book_trait.proofs.Finding.{all_found, all_in, found_has}
use Rattle.gate_memory.specs.Sorted.{without}
use Rattle.gate_memory.proofs.SortedLemmas.{rises-put, rises-without}
use Rattle.gate_memory.proofs.TableLemmas.{find_put}
use Rattle.gate_memory.proofs.BuildLemmas.{all_put}
use Rattle.gate_memory.proofs.NeedLemmas.{all_from, from_filter}
use Rattle.gate_memory.proofs.IndexLemmas.{put_in, other}
use Rattle.gate_live.specs.HeldPlans.{ArePlansOf, edited_held_plans}
use Rattle.gate_live.proofs.CommuteLemmas.{find_without}

-- the plan under a serial
abbrev plan_in : List Plan → ℕ → Option Plan
plan_in plans n = find (λ (q : Plan). q.serial == n) plans

-- a plan is the one under its serial
abbrev IsPlanOf : List Plan → Plan → Type 0
IsPlanOf all p = plan_in all p.serial ≡ Some p

-- ---- edits

-- a plan that was put, and another one
put_is : (all : List Plan) (p : Plan) → IsPlanOf (put_by serial_of_plan p all) p
put_is all p = find_put serial_of_plan p.serial p all ∙ ap (λ t. cond t (Some p) (plan_in all p.serial)) (eq-eqb p.serial p.serial refl)

put_other : (all : List Plan) (p z : Plan) → z.serial ≢ p.serial → IsPlanOf all z → IsPlanOf (put_by serial_of_plan p all) z
put_other all p z ne is = find_put serial_of_plan z.serial p all ∙ ap (λ t. cond t (Some p) (plan_in all z.serial)) (ne_eqb p.serial z.serial (λ e. ne (sym e))) ∙ is

-- one of another serial than that which goes
gone_other : (all : List Plan) (s : ℕ) (z : Plan) → z.serial ≢ s → IsPlanOf all z → IsPlanOf (without serial_of_plan s all) z
gone_other all s z ne is = find_without serial_of_plan s z.serial all ∙ ap (λ t. cond t None (plan_in all z.serial)) (ne_eqb s z.serial (λ e. ne (sym e))) ∙ is

-- one of another serial than that which lands
landed_other : (all : List Plan) (s : ℕ) (z : Plan) → z.serial ≢ s → IsPlanOf all z → IsPlanOf (unmark s all) z
landed_other all s z ne is =
    found_changed serial_of_plan s unmarked (λ p. refl) z.serial all ∙ ap (option_map (λ (p : Plan). cond (p.serial == s) (unmarked p) p)) is
    ∙ ap (λ t. Some (cond t (unmarked z) z)) (ne_eqb z.serial s ne)

-- what is left without a serial
left : (rows all after : List Plan) (s : ℕ) → ((z : Plan) → z.serial ≢ s → IsPlanOf all z → IsPlanOf after z) → ArePlansOf rows all → ArePlansOf (without serial_of_plan s rows) after
left rows all after s still held = all_from (IsPlanOf after) (without serial_of_plan s rows) (λ z there.
    let r = from_filter (λ (q : Plan). not (serial_of_plan q == s)) z rows there in
    still z (other serial_of_plan s z r.1) (all_in (IsPlanOf all) rows z held r.0))

put_both : (rows all : List Plan) (p : Plan) → RisesFrom serial_of_plan 0 rows → ArePlansOf rows all → ArePlansOf (put_by serial_of_plan p rows) (put_by serial_of_plan p all)
put_both rows all p rise held = all_from (IsPlanOf (put_by serial_of_plan p all)) (put_by serial_of_plan p rows) (λ z there. ⊎_elim
    (λ same. subst (IsPlanOf (put_by serial_of_plan p all)) same (put_is all p))
    (λ t. put_other all p z t.1 (all_in (IsPlanOf all) rows z held t.0))
    (put_in serial_of_plan p z 0 rows rise there))

-- each plan that is held after an edit is then the one under its serial
pub plans_edited : (is_item : ℕ → Bool) (rows all : List Plan) (e : Edit) → RisesFrom serial_of_plan 0 rows → ArePlansOf rows all →
    ArePlansOf (edited_held_plans is_item rows e) (edited_plans all e)
plans_edited is_item rows all (edit.PutPlan p) rise held = by_item (is_item p.serial)
  where
    by_item : (t : Bool) → ArePlansOf (cond t (put_by serial_of_plan p rows) (without serial_of_plan p.serial rows)) (put_by serial_of_plan p all)
    by_item true = put_both rows all p rise held
    by_item false = left rows all (put_by serial_of_plan p all) p.serial (put_other all p) held
plans_edited is_item rows all (edit.DropItem s) rise held = left rows all (without serial_of_plan s all) s (gone_other all s) held
plans_edited is_item rows all (edit.LandItem s) rise held = left rows all (unmark s all) s (landed_other all s) held
plans_edited is_item rows all _ rise held = held

-- and they still rise by serial
pub plans_still_rise : (is_item : ℕ → Bool) (rows : List Plan) (e : Edit) → RisesFrom serial_of_plan 0 rows → RisesFrom serial_of_plan 0 (edited_held_plans is_item rows e)
plans_still_rise is_item rows (edit.PutPlan p) rise = by_item (is_item p.serial)
  where
    by_item : (t : Bool) → RisesFrom serial_of_plan 0 (cond t (put_by serial_of_plan p rows) (without serial_of_plan p.serial rows))
    by_item true = rises-put serial_of_plan 0 p rows (omega arith) rise
    by_item false = rises-without serial_of_plan p.serial 0 rows rise
plans_still_rise is_item rows (edit.DropItem s) rise = rises-without serial_of_plan s 0 rows rise
plans_still_rise is_item rows (edit.LandItem s) rise = rises-without serial_of_plan s 0 rows rise
plans_still_rise is_item rows _ rise = rise

-- ---- what was read

-- a plan that was found is held
pub plans_more : (rows all : List Plan) (p : Plan) (n : ℕ) → Some p ≡ find (λ (q : Plan). q.serial == n) all → ArePlansOf rows all → ArePlansOf (put_by serial_of_plan p rows) all
plans_more rows all p n found held = all_put (IsPlanOf all) serial_of_plan p rows (ap (plan_in all) (found_has serial_of_plan n p all found) ∙ sym found) held

-- one that is held is found
pub plan_read : (rows all : List Plan) (p : Plan) (n : ℕ) → ArePlansOf rows all → Some p ≡ find (λ (q : Plan). q.serial == n) rows → Some p ≡ find (λ (q : Plan). q.serial == n) all
plan_read rows all p n held found =
    sym (all_found (IsPlanOf all) (λ (q : Plan). q.serial == n) rows p held found) ∙ ap (plan_in all) (found_has serial_of_plan n p rows found)

-- the same of one that may be held
pub plan_read_maybe : (rows : List Plan) (n : ℕ) (o : Option Plan) → o ≡ find (λ (q : Plan). q.serial == n) rows →
    IfSome o (λ p. (all : List Plan) → ArePlansOf rows all → Some p ≡ find (λ (q : Plan). q.serial == n) all)
plan_read_maybe rows n None found = tt
plan_read_maybe rows n (Some p) found = λ all held. plan_read rows all p n held found

-- and so are those of some items
pub plans_read_each : (rows all : List Plan) (items : List Item) → ArePlansOf rows all →
    AllByRecursion (λ (i : Item). is_some (find (λ (p : Plan). p.serial == i.serial) rows) ≡ true) items → plans_of_rows rows items ≡ plans_of_rows all items
plans_read_each rows all [] held there = refl
plans_read_each rows all (i ∷ items) held there = λ k. option_to_list (by_found (plan_in rows i.serial) refl there.0 k) ++ plans_read_each rows all items held there.1 k
  where
    by_found : (o : Option Plan) → plan_in rows i.serial ≡ o → is_some o ≡ true → plan_in rows i.serial ≡ plan_in all i.serial
    by_found None e some = absurd (true≢false (sym some))
    by_found (Some p) e some = e ∙ plan_read rows all p i.serial held (sym e)
