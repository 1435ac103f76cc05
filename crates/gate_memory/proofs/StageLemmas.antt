-- A change whose stage is set, and the indexes then.
use Rattle.std.proofs.Common.{◌≡◌, ℕ, ◌<◌, Bool, true, false, true≢false, cond, Option, Some, None, List, [], ◌∷◌}
use Rattle.std.proofs.Common.{get_or}
use Rattle.std.proofs.Common.{set, length, refl, sym, ap, subst, ◌∙◌}
use Rattle.std.specs.Prelude.{◌==◌, find, nat_eq}
use Rattle.std.specs.HashMap.{get}
use Rattle.std.specs.List.{AllByRecursion}
use Rattle.std.proofs.lemmas.Bool.{eq-eqb}
use Rattle.std.proofs.lemmas.Option.{none-some, slice_get-get_or}
use Rattle.gate_types.specs.declared.records.Stage.{Stage}
use Rattle.gate_types.specs.declared.rows.ChangeRow.{ChangeRow}
use Rattle.gate_types.specs.Keys.{number_of_change}
use Rattle.gate_types.specs.Rising.{In}
use Rattle.gate_types.specs.Tables.{at_stage, change_known, needs_in}
use Rattle.gate_types.proofs.ChangedLemmas.{changed_none, found_key, needs_at_stage, put_changes}
use Rattle.gate_book_trait.proofs.Finding.{in_weaker}
use Rattle.gate_memory.specs.declared.pairs.Pair.{Pair}
use Rattle.gate_memory.specs.Pairs.{IsFit}
use Rattle.gate_memory.specs.Changes.{AreApart, FindsNumbers, Numbers, TellsReady, indexed_ready, in_order, position_at}
use Rattle.gate_memory.specs.Needs.{AreNeeds, TellsNeeds, TellsNeedsOf}
use Rattle.gate_memory.proofs.TableLemmas.{in_order_set, numbers_set, position_bound, row_at, row_found}
use Rattle.gate_memory.proofs.MovedLemmas.{apart_set}
use Rattle.gate_memory.proofs.ChangeLemmas.{dropped, in_dropped, in_order_rises}

-- ---- the row of a position

module _ (n : ℕ) (g : Stage) (rows : List ChangeRow) (i : ℕ) (d y : ChangeRow) (at : position_at number_of_change n rows ≡ Some i) (here : y ≡ get_or rows i d) where
  row_is : find (λ (r : ChangeRow). number_of_change r == n) (in_order number_of_change rows) ≡ Some y
  row_is =
      let within : i < length rows = position_bound number_of_change n rows i at in
      sym (row_found number_of_change n rows) ∙ ap (row_at rows) at ∙ slice_get-get_or rows i d within ∙ ap (λ (r : ChangeRow). Some r) (sym here)

  pub number_is : number_of_change y ≡ n
  number_is = found_key number_of_change n (in_order number_of_change rows) y row_is

  place : position_at number_of_change (number_of_change y) rows ≡ Some i
  place = ap (λ m. position_at number_of_change m rows) number_is ∙ at

  pub rows_staged : in_order number_of_change (set rows i (at_stage g y)) ≡ change_known n (at_stage g) (in_order number_of_change rows)
  rows_staged =
      in_order_set number_of_change (at_stage g y) rows i place
      ∙ put_changes number_of_change n (at_stage g) (λ r. refl) 0 (in_order number_of_change rows) y (in_order_rises number_of_change rows) row_is

  pub finds_staged : (m : Numbers) → get nat_eq m n ≡ Some i → FindsNumbers m rows → FindsNumbers m (set rows i (at_stage g y))
  finds_staged m e finds = numbers_set m rows (at_stage g y) i (ap (get nat_eq m) number_is ∙ e) finds

  pub apart_staged : AreApart number_of_change rows → AreApart number_of_change (set rows i (at_stage g y))
  apart_staged apart = apart_set number_of_change (at_stage g y) rows i place apart

-- where the number has no position, no row is changed
pub none_staged : (n : ℕ) (g : Stage) (rows : List ChangeRow) → position_at number_of_change n rows ≡ None → in_order number_of_change rows ≡ change_known n (at_stage g) (in_order number_of_change rows)
none_staged n g rows e = sym (changed_none number_of_change n (at_stage g) (in_order number_of_change rows) (sym (row_found number_of_change n rows) ∙ ap (row_at rows) e))

-- ---- the indexes

-- a change that isn't ready is in no one's way
pub tells_stage : (was : Option ℕ) (n : ℕ) (g : Stage) (ready : List Pair) (rows : List ChangeRow) → n < 18446744073709551616 → AllByRecursion IsFit ready → TellsReady ready rows
    → TellsReady (dropped was n ready) (change_known n (at_stage g) rows)
tells_stage was n g ready [] small fit told = tt
tells_stage was n g ready (r ∷ rs) small fit told = (by_number (number_of_change r == n) refl, tells_stage was n g ready rs small fit told.1)
  where
    by_number : (t : Bool) → number_of_change r == n ≡ t → (a : ℕ) → (cond t (at_stage g r) r).approval ≡ Some a → In (indexed_ready (cond t (at_stage g r) r).change.number a) (dropped was n ready)
    by_number true same a e = absurd (none-some a e)
    by_number false other a e = in_dropped was n ready (indexed_ready r.change.number a) small fit (λ e2. true≢false (sym (eq-eqb r.change.number n e2) ∙ other)) (told.0 a e)

pub tells_needs_staged : (needs : List Pair) (n : ℕ) (g : Stage) (rows : List ChangeRow) → TellsNeeds needs rows → TellsNeeds needs (change_known n (at_stage g) rows)
tells_needs_staged needs n g [] told = tt
tells_needs_staged needs n g (r ∷ rs) told =
    (elim (number_of_change r == n) as (λ c. TellsNeedsOf needs (cond c (at_stage g r) r).change.number (cond c (at_stage g r) r).change.needs) [ true ↦ told.0 | false ↦ told.0 ], tells_needs_staged needs n g rs told.1)

pub are_needs_staged : (needs : List Pair) (n : ℕ) (g : Stage) (rows : List ChangeRow) → AreNeeds needs rows → AreNeeds needs (change_known n (at_stage g) rows)
are_needs_staged needs n g rows stand =
    in_weaker (λ (p : Pair). In p.first (needs_in rows p.second)) (λ (p : Pair). In p.first (needs_in (change_known n (at_stage g) rows) p.second))
    (λ p t. subst (λ ns. In p.first ns) (sym (needs_at_stage n g rows p.second)) t) needs stand
