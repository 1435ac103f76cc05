-- What the read of the ready list asks and finds.
use Rattle.std.proofs.Common.{◌≡◌, ◌≢◌, ℕ, pos, List, [], ◌∷◌, ◌++◌, map, filter, true, false, Option, Some, None}
use Rattle.std.proofs.Common.{Result, Ok, Err, ltb, codes, refl, sym, ap, subst, ◌∙◌, arith, IsPermutation, Less}
use Rattle.std.specs.Prelude.{MatchResult}
use Rattle.std.specs.List.{AllByRecursion, AllPass}
use Rattle.std.specs.Option.{option_map_or}
use Rattle.std.proofs.lemmas.Bool.{and_parts}
use Rattle.std.proofs.lemmas.Bool.Decides.{nat_tests}
use Rattle.std.proofs.lemmas.List.Elements.{All-from_recursion, recursion_from_All}
use Rattle.std.proofs.lemmas.List.Sorted.{All-permutation, IsPermutation-map, IsPermutation-sym, IsPermutation-trans}
use Rattle.sqlite.specs.Collation.TheVariants.{Binary}
use Rattle.sqlite.specs.Listing.{understood}
use Rattle.sqlite.specs.Ops.{binary, is_true}
use Rattle.sqlite.specs.Order.{Row}
use Rattle.sqlite.specs.Program.{overlay}
use Rattle.sqlite.specs.Query.{Output, Query, output, output_cmp, page}
use Rattle.sqlite.specs.State.{State}
use Rattle.sqlite.specs.Term.{Term, col, lit, op2}
use Rattle.sqlite.specs.declared.types.Value.TheVariants.{Int, Null}
use Rattle.sqlite_keyed.proofs.ListLemmas.{ascending-map, ascending_weaker, map-map}
use Rattle.sqlite_keyed.proofs.SortLemmas.{sorted_unique}
use Rattle.sqlite_sql.proofs.QueryLemmas.{output_cmp_total}
use Rattle.sqlite_sql.specs.declared.ops.BinaryOp.TheVariants.{Compare}
use Rattle.sqlite_sql.specs.declared.ops.CompareOp.TheVariants.{Gt}
use Rattle.sqlite_tied.specs.Compute.{everything}
use Rattle.sqlite_trees.specs.Tree.{IsAscending}
use Rattle.sqlite_value.specs.Keys.{ascending}
use Rattle.gate_types.specs.Forms.{is_change_in_form, is_change_number, is_drawn_number, is_ready_in_form}
use Rattle.gate_types.specs.declared.records.Change.{Change}
use Rattle.gate_types.specs.declared.records.Ready.{Ready}
use Rattle.gate_types.specs.declared.rows.ChangeRow.{ChangeRow}
use Rattle.gate_book_trait.specs.Reads.{Answers}
use Rattle.gate_book_trait.specs.declared.fault.BookFault.{BookFault}
use Rattle.gate_book_trait.specs.declared.fault.BookFault.TheVariants as fault
use Rattle.gate_schema.specs.Rows.{Stored, change_table_row}
use Rattle.gate_schema.proofs.QueryLemmas.{kept_is, over_table, passes}
use Rattle.gate_schema.proofs.Statements.{Asks, no_limit}
use Rattle.gate_schema.proofs.ValueLemmas.{above_number}
use Rattle.gate_found_rows.specs.Asked.{AreReadyByApproval, ready_row, ready_rows}
use Rattle.gate_found_rows.specs.Finds.{Finds}
use Rattle.gate_found_rows.specs.Reads.{IsStoredIn}
use Rattle.gate_found_rows.specs.Shown.{ready_shown}
use Rattle.gate_found_rows.specs.Whole.{IsWhole, is_change_row_in_form}
use Rattle.gate_found_rows.proofs.KeyedReads.{rises}
use Rattle.gate_found_rows.proofs.ReadLemmas.{answers}
use Rattle.gate_found_rows.proofs.SortedLemmas.{in_order, in_order_rises, in_order_same, rises_pairwise}

abbrev pub ready_sql : List ℕ
ready_sql = codes "SELECT approval, num FROM change WHERE approval > 0 ORDER BY approval"

abbrev ready_test : List Term
ready_test = op2 (Compare Gt Binary) (col 1 5) (lit (Int (pos 0))) ∷ []

abbrev ready_terms : List Term
ready_terms = col 1 5 ∷ col 1 0 ∷ []

abbrev ready_query : Query
ready_query = over_table 7 ready_test ready_terms ((col 1 5, ascending Binary) ∷ []) no_limit

abbrev pub ready_names : List (List ℕ)
ready_names = codes "approval" ∷ codes "num" ∷ []

pub ready_is : Asks ready_sql ready_query ready_names
unfolding understood everything
ready_is = ((refl, (refl, refl)), refl)

-- ---- what the query makes of the changes

-- what they rise by
abbrev pub approval_of : Ready → ℕ
approval_of r = r.approval

-- what it makes of a ready change: what it sorts by, and what it shows
abbrev out : Ready → Output
out r = (Int (pos r.approval) ∷ [], ready_shown r)

-- NULL passes no test of a number
pub null_is_not_above : is_true (binary (Compare Gt Binary) Null (Int (pos 0))) ≡ false
unfolding binary
null_is_not_above = refl

-- what is made of rows of changes
abbrev kept_rows : List Row → List Output
kept_rows rows = map (λ (r : Row). output ready_query ([] ∷ r ∷ [])) (filter (passes ready_test []) rows)

-- a change is kept where it is ready
one_kept : (k : Change) (o : Option ℕ) (rows : List Row) (more : List Ready) → option_map_or is_drawn_number o true ≡ true → kept_rows rows ≡ map out more →
    kept_rows (change_table_row (record { change = k; approval = o }) ∷ rows) ≡ map out (ready_row (record { change = k; approval = o }) ++ more)
one_kept k None rows more form h = rw null_is_not_above h
one_kept k (Some a) rows more form h =
    let some : ltb 0 a ≡ true = grind (arith, nat_tests) in
    rw (above_number a 0, some) (ap (λ l. out (record { approval = a; change = k.number }) ∷ l) h)

-- so it is of all changes
all_kept : (rows : List ChangeRow) → AllByRecursion (λ r. is_change_row_in_form r ≡ true) rows → kept_rows (map change_table_row rows) ≡ map out (ready_rows rows)
all_kept [] all = refl
all_kept (r ∷ rows) all = one_kept r.change r.approval (map change_table_row rows) (ready_rows rows) (and_parts _ _ all.0).1 (all_kept rows all.1)

-- ---- they are in form

-- a change in form that is ready is in form as a ready one
one_in_form : (k : Change) (o : Option ℕ) (more : List Ready) → is_change_in_form k ≡ true → option_map_or is_drawn_number o true ≡ true →
    AllByRecursion (λ r. is_ready_in_form r ≡ true) more → AllByRecursion (λ r. is_ready_in_form r ≡ true) (ready_row (record { change = k; approval = o }) ++ more)
one_in_form k None more change approval all = all
one_in_form k (Some a) more change approval all =
    let number : is_change_number k.number ≡ true = (and_parts _ _ (and_parts _ _ (and_parts _ _ (and_parts _ _ change).0).0).0).0 in
    (rw (approval, number), all)

-- so are all
all_in_form : (rows : List ChangeRow) → AllByRecursion (λ r. is_change_row_in_form r ≡ true) rows → AllByRecursion (λ r. is_ready_in_form r ≡ true) (ready_rows rows)
all_in_form [] all = tt
all_in_form (r ∷ rows) all = let parts = and_parts _ _ all.0 in one_in_form r.change r.approval (ready_rows rows) parts.0 parts.1 (all_in_form rows all.1)

-- ---- what is found

-- the ready changes in order of approval
abbrev pub ready_list : Stored → List Ready
ready_list b = in_order approval_of (ready_rows b.changes)

-- the read shows the list
pub ready_found : (s : State) (b : Stored) (rows : List Row) → IsStoredIn s b → IsWhole b → Finds ready_sql [] s.now rows → rows ≡ map ready_shown (ready_list b)
ready_found s b rows shown whole finds =
    let q = ready_query in
    let a = answers s ready_sql ready_query ready_names [] rows ready_is shown.schema_is finds in
    let db = overlay s.now.trees [] in
    let kept : a.kept ≡ map out (ready_rows b.changes) =
    kept_is 7 ready_test ready_terms ((col 1 5, ascending Binary) ∷ []) no_limit db [] rows a
    ∙ ap kept_rows shown.stands.change.rows_are ∙ all_kept b.changes (recursion_from_All (λ r. is_change_row_in_form r ≡ true) b.changes whole.changes) in
    let up : IsAscending (λ x y. output_cmp q x y ≡ Less) (map out (ready_list b)) =
    ascending-map _ out _ (ascending_weaker _ (λ (r t : Ready). output_cmp q (out r) (out t) ≡ Less) (λ r t less. rises _ _ r.approval t.approval refl refl less) _ (in_order_rises approval_of (ready_rows b.changes))) in
    let same : IsPermutation (map out (ready_list b)) a.ordered =
    IsPermutation-trans _ _ _ (IsPermutation-map out _ _ (IsPermutation-sym _ _ (in_order_same approval_of (ready_rows b.changes) whole.approvals_differ))) (subst (λ k. IsPermutation k a.ordered) kept a.same) in
    let ordered : a.ordered ≡ map out (ready_list b) = sorted_unique (output_cmp q) (output_cmp_total q) _ _ up same a.sorted in
    a.shown ∙ ap (λ os. page q [] (map (λ (o : Output). o.1) os)) ordered ∙ map-map _ out _

-- the list is in form
pub ready_in_form : (b : Stored) → IsWhole b → AllPass is_ready_in_form (ready_list b)
ready_in_form b whole =
    All-permutation (λ r. is_ready_in_form r ≡ true) (ready_rows b.changes) (ready_list b) (in_order_same approval_of (ready_rows b.changes) whole.approvals_differ)
    (All-from_recursion (λ r. is_ready_in_form r ≡ true) (ready_rows b.changes) (all_in_form b.changes (recursion_from_All (λ r. is_change_row_in_form r ≡ true) b.changes whole.changes)))

-- it has all that are ready, by rising approval
pub list_is_ready : (b : Stored) → IsWhole b → AreReadyByApproval b (ready_list b)
list_is_ready b whole = record {
  are = IsPermutation-sym _ _ (in_order_same approval_of (ready_rows b.changes) whole.approvals_differ);
  rise = rises_pairwise approval_of (ready_list b) (in_order_rises approval_of (ready_rows b.changes));
}

-- what is true of the answer is true of the result
pub answers_so : {T : Type 0} (value : T) (P : T → Type 0) (r : Result T BookFault) → P value → Answers value r → MatchResult r P (λ f. f ≢ fault.Damaged)
answers_so value P (Ok x) so is = subst P (sym is) so
answers_so value P (Err f) so is = is
