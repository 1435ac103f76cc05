-- What the read of the ready changes that need another asks and finds.
use Rattle.std.proofs.Common.{◌≡◌, ◌<ℤ◌, ℕ, pos, List, [], ◌∷◌, map, filter, drop, Bool, true, false, ◌&&◌, eqb, ltb}
use Rattle.std.proofs.Common.{Option, Some, None, codes, refl, sym, ap, subst, ◌∙◌, arith, inl, inr}
use Rattle.std.specs.List.{AllPass, list_all}
use Rattle.std.specs.Option.{option_map_or}
use Rattle.std.proofs.lemmas.Bool.{and_from, and_parts, false≢true}
use Rattle.std.proofs.lemmas.Bool.Decides.{nat_tests}
use Rattle.std.proofs.lemmas.List.Elements.{All-filter, recursion_from_All}
use Rattle.std.proofs.lemmas.List.Sorted.{IsPermutation-sym}
use Rattle.sqlite.specs.Collation.TheVariants.{Binary}
use Rattle.sqlite.specs.Listing.{understood}
use Rattle.sqlite.specs.Ops.{binary, is_true}
use Rattle.sqlite.specs.Order.{Row}
use Rattle.sqlite.specs.Program.{overlay}
use Rattle.sqlite.specs.Query.{Output, Query, output}
use Rattle.sqlite.specs.State.{State}
use Rattle.sqlite.specs.Term.{Term, col, holds, lit, op2}
use Rattle.sqlite.specs.declared.types.Value.TheVariants.{Int}
use Rattle.sqlite_keyed.proofs.ListLemmas.{ascending-filter}
use Rattle.sqlite_rules.specs.Lists.{Has}
use Rattle.sqlite_rules.proofs.ListLemmas.{all_has, has_filtered, has_kept}
use Rattle.sqlite_sql.specs.declared.ops.BinaryOp.TheVariants.{Compare}
use Rattle.sqlite_sql.specs.declared.ops.CompareOp.TheVariants.{Eq, Gt}
use Rattle.sqlite_tied.specs.Compute.{everything}
use Rattle.sqlite_tied.proofs.RuleLemmas.{and_true}
use Rattle.sqlite_value.specs.Keys.{ascending}
use Rattle.gate_types.specs.Forms.{is_drawn_number, is_ready_in_form}
use Rattle.gate_types.specs.declared.records.Ready.{Ready}
use Rattle.gate_types.specs.declared.rows.ChangeRow.{ChangeRow}
use Rattle.gate_schema.specs.Rows.{NeedRow, Stored, change_key, change_table_row, need_columns, number_or_null}
use Rattle.gate_schema.specs.Shown.{needs_among}
use Rattle.gate_schema.proofs.Statements.{Asks}
use Rattle.gate_schema.proofs.ValueLemmas.{above_number, equal_numbers}
use Rattle.gate_found_rows.specs.Asked.{AreReadyNeeding, ready_row, ready_rows}
use Rattle.gate_found_rows.specs.Finds.{Finds}
use Rattle.gate_found_rows.specs.Reads.{IsStoredIn}
use Rattle.gate_found_rows.specs.Shown.{number_shown, ready_shown}
use Rattle.gate_found_rows.specs.Whole.{IsWhole, is_change_row_in_form}
use Rattle.gate_found_rows.proofs.DistinctLemmas.{has_in, has_of, has_permuted, shows_once}
use Rattle.gate_found_rows.proofs.JoinLemmas.{keyed_told, listed_told, over_tables}
use Rattle.gate_schema.proofs.RowLemmas.{told_behind}
use Rattle.gate_found_rows.proofs.NeedLemmas.{need_of, needs_by}
use Rattle.gate_found_rows.proofs.ReadLemmas.{answers}
use Rattle.gate_change_queries.proofs.ReadyReads.{approval_of, list_is_ready, null_is_not_above, ready_in_form}
use Rattle.gate_change_queries.proofs.ReadyReads.{ready_list, ready_names}
use Rattle.gate_found_rows.proofs.SortedLemmas.{in_order_rises, in_order_same}

-- ---- what is asked

abbrev pub needing_sql : List ℕ
needing_sql = codes "SELECT DISTINCT change.approval, change.num FROM need, change WHERE need.needed = ?1 AND change.num = need.change AND change.approval > 0 ORDER BY change.approval"

-- a need of the other, and a change that has it and is ready
abbrev needing_test : List Term
needing_test =
    op2 (Compare Eq Binary) (col 1 3) (col 0 0) ∷ op2 (Compare Eq Binary) (col 2 0) (col 1 1) ∷ op2 (Compare Gt Binary) (col 2 5) (lit (Int (pos 0))) ∷ []

abbrev needing_terms : List Term
needing_terms = col 2 5 ∷ col 2 0 ∷ []

abbrev needing_query : Query
needing_query = record (over_tables 9 7 needing_test needing_terms ((col 2 5, ascending Binary) ∷ [])) { distinct = true; collations = Binary ∷ Binary ∷ [] }

pub needing_is : Asks needing_sql needing_query ready_names
unfolding understood everything
needing_is = ((refl, (refl, refl)), refl)

-- the parameters
abbrev params_of : ℕ → Row
params_of needed = Int (pos needed) ∷ []

-- ---- what it makes of a need and a change

-- the change is ready
abbrev is_ready : ChangeRow → Bool
is_ready k = option_map_or (λ a. ltb 0 a) k.approval false

-- it is ready, and has this need, which is of the other
abbrev is_need_of : ℕ → NeedRow → ChangeRow → Bool
is_need_of needed n k = eqb n.needed needed && (eqb (change_key k) n.change && is_ready k)

-- what is made of a change with this approval
abbrev out : ℕ → Option ℕ → Output
out number approval = (number_or_null approval ∷ [], number_or_null approval ∷ Int (pos number) ∷ [])

-- NULL is above no number
above_or_null : (o : Option ℕ) → is_true (binary (Compare Gt Binary) (number_or_null o) (Int (pos 0))) ≡ option_map_or (λ a. ltb 0 a) o false
above_or_null None = null_is_not_above
above_or_null (Some a) = above_number a 0

-- ---- what is found

-- the ready changes that need the other, in order of approval
abbrev pub needing_list : Stored → ℕ → List Ready
needing_list b needed = filter (λ (r : Ready). needs_among b.needs needed r.change) (ready_list b)

module _ (b : Stored) (whole : IsWhole b) (needed : ℕ) where
  -- a need's row and a change's pass where the change is ready and has the need
  passes_both : (r v : Row) (n : NeedRow) (k : ChangeRow) → drop 1 r ≡ need_columns n → v ≡ change_table_row k
      → list_all (holds (params_of needed ∷ r ∷ v ∷ [])) needing_test ≡ is_need_of needed n k
  passes_both r v n k tells is =
      subst (λ w. list_all (holds (params_of needed ∷ r ∷ w ∷ [])) needing_test ≡ is_need_of needed n k) (sym is)
      (told_behind (λ w. list_all (holds (params_of needed ∷ w ∷ change_table_row k ∷ [])) needing_test) r _ _ (is_need_of needed n k)
      (λ w. rw (equal_numbers n.needed needed, equal_numbers (change_key k) n.change, above_or_null k.approval, and_true (is_ready k))) tells)

  -- the change is shown
  shows_change : (r v : Row) (n : NeedRow) (k : ChangeRow) → drop 1 r ≡ need_columns n → v ≡ change_table_row k
      → output (over_tables 9 7 needing_test needing_terms ((col 2 5, ascending Binary) ∷ [])) (params_of needed ∷ r ∷ v ∷ []) ≡ out (change_key k) k.approval
  shows_change r v n k tells is =
      subst (λ w. output (over_tables 9 7 needing_test needing_terms ((col 2 5, ascending Binary) ∷ [])) (params_of needed ∷ r ∷ w ∷ []) ≡ out (change_key k) k.approval) (sym is) refl

  -- a change that passes is one of those
  listed : (n : NeedRow) (k : ChangeRow) → Has b.needs n → Has b.changes k → is_need_of needed n k ≡ true
      → (r : Ready) × Has (needing_list b needed) r × (out (change_key k) k.approval ≡ out r.change (Some r.approval))
  listed n k h known passes =
      let first = and_parts _ _ passes in
      let second = and_parts _ _ first.1 in
      by_approval k.approval refl second.1 (needs_by b.needs n needed (change_key k) h first.0 second.0)
    where
      by_approval : (o : Option ℕ) → k.approval ≡ o → option_map_or (λ a. ltb 0 a) o false ≡ true → needs_among b.needs needed (change_key k) ≡ true
          → (r : Ready) × Has (needing_list b needed) r × (out (change_key k) k.approval ≡ out r.change (Some r.approval))
      by_approval None e is needs = absurd (false≢true is)
      by_approval (Some a) e is needs =
          let r : Ready = record { approval = a; change = change_key k } in
          let told : Has (ready_row k) r = subst (λ o. Has (option_map_or (λ a. (record { approval = a; change = change_key k }) ∷ []) o []) r) (sym e) (inl refl) in
          let ready = has_permuted (ready_rows b.changes) (ready_list b) r (in_order_same approval_of (ready_rows b.changes) whole.approvals_differ) (has_in ready_row b.changes k r known told) in
          (r, has_kept (λ (r : Ready). needs_among b.needs needed r.change) (ready_list b) r ready needs, ap (out (change_key k)) e)

  -- each of those is a change that passes
  passing_for : (r : Ready) → Has (needing_list b needed) r
      → (n : NeedRow) × (k : ChangeRow) × Has b.needs n × Has b.changes k × (is_need_of needed n k ≡ true) × (out (change_key k) k.approval ≡ out r.change (Some r.approval))
  passing_for r h =
      let passed = has_filtered (λ (r : Ready). needs_among b.needs needed r.change) (ready_list b) r h in
      let row = has_of ready_row b.changes r (has_permuted (ready_list b) (ready_rows b.changes) r (IsPermutation-sym _ _ (in_order_same approval_of (ready_rows b.changes) whole.approvals_differ)) passed.0) in
      let need = need_of b.needs needed r.change passed.1 in
      let form = and_parts _ _ (all_has (λ k. is_change_row_in_form k ≡ true) b.changes row.0 (recursion_from_All (λ k. is_change_row_in_form k ≡ true) b.changes whole.changes) row.1) in
      let same = by_approval row.0 row.0.approval refl form.1 row.2 in
      (need.0, row.0, need.1, row.1, and_from _ _ need.2 (and_from _ _ (subst (λ m. eqb m need.0.change ≡ true) same.0 need.3) same.1), same.2)
    where
      by_approval : (k : ChangeRow) (o : Option ℕ) → k.approval ≡ o → option_map_or is_drawn_number o true ≡ true
          → Has (option_map_or (λ a. (record { approval = a; change = change_key k }) ∷ []) o []) r
          → (r.change ≡ change_key k) × (is_ready k ≡ true) × (out (change_key k) k.approval ≡ out r.change (Some r.approval))
      by_approval k None e form has = absurd has
      by_approval k (Some a) e form has =
          let above : ltb 0 a ≡ true = grind (arith, nat_tests) in
          elim has [
            | inl same ↦ (
              ap (λ (r : Ready). r.change) same,
              ap (λ o. option_map_or (λ a. ltb 0 a) o false) e ∙ above,
              ap (out (change_key k)) e ∙ ap (λ (r : Ready). out r.change (Some r.approval)) (sym same),
            )
            | inr none ↦ absurd none
          ]

  -- so they are shown
  pub needing_found : (s : State) (rows : List Row) → IsStoredIn s b → Finds needing_sql (params_of needed) s.now rows → rows ≡ map ready_shown (needing_list b needed)
  needing_found s rows shown finds =
      shows_once (λ r n. drop 1 r ≡ need_columns n) (λ v k. v ≡ change_table_row k) 9 7 needing_test needing_terms (col 2 5) (Binary ∷ []) (params_of needed)
      (is_need_of needed) (λ n k. out (change_key k) k.approval) passes_both shows_change approval_of (λ (r : Ready). number_shown r.change)
      b.needs b.changes (needing_list b needed) listed passing_for
      (overlay s.now.trees []) rows (listed_told need_columns (s.now.trees 9) b.needs shown.stands.need.columns_are) (keyed_told change_key change_table_row (s.now.trees 7) b.changes shown.stands.change)
      (ascending-filter (λ (q r : Ready). pos q.approval <ℤ pos r.approval) (λ (r : Ready). needs_among b.needs needed r.change) (ready_list b) (in_order_rises approval_of (ready_rows b.changes)))
      (answers s needing_sql needing_query ready_names (params_of needed) rows needing_is shown.schema_is finds)

-- they are in form
pub needing_in_form : (b : Stored) (needed : ℕ) → IsWhole b → AllPass is_ready_in_form (needing_list b needed)
needing_in_form b needed whole = All-filter (λ (r : Ready). needs_among b.needs needed r.change) (λ r. is_ready_in_form r ≡ true) (ready_list b) (ready_in_form b whole)

-- and those are all
pub list_is_needing : (b : Stored) (needed : ℕ) → IsWhole b → AreReadyNeeding b needed (needing_list b needed)
list_is_needing b needed whole = record {
  ready = ready_list b;
  are_ready = list_is_ready b whole;
  need_it = refl;
}
