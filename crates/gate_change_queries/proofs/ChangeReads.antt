-- What the reads of changes find.
use Rattle.std.proofs.Common.{◌≡◌, ◌<◌, ◌≤◌, ℕ, suc, pos, true, List, [], ◌∷◌, filter, find, map, codes, ap, refl}
use Rattle.std.proofs.Common.{subst, sym, ◌∙◌, arith, eqb, eqb-true, length, slice_get, zero, Option, Some, None}
use Rattle.std.proofs.lemmas.List.Elements.{filter_passes, recursion_from_All}
use Rattle.std.proofs.lemmas.List.Sums.{AllPass-from_list_all}
use Rattle.std.specs.List.{All, AllByRecursion, AllPass}
use Rattle.sqlite.specs.Order.{Row}
use Rattle.sqlite.specs.Program.{overlay}
use Rattle.sqlite.specs.State.{State}
use Rattle.sqlite.specs.Term.{col, eval, eval_all}
use Rattle.sqlite.specs.declared.types.Value.TheVariants.{Int}
use Rattle.sqlite_keyed.proofs.ListLemmas.{all-filter, all-slice_get, map-map, slice_get-filter}
use Rattle.sqlite_keyed.proofs.RuleLemmas.{first_of_both, second_of_both}
use Rattle.sqlite_tied.proofs.RuleLemmas.{and_true}
use Rattle.sqlite_trees.specs.Tree.{IsAscending}
use Rattle.gate_types.specs.Forms.{is_change_in_form, is_change_number}
use Rattle.gate_types.specs.declared.records.Change.{Change}
use Rattle.gate_types.specs.declared.rows.ChangeRow.{ChangeRow}
use Rattle.gate_types.specs.Tables.{needs_in}
use Rattle.gate_types.proofs.ChangedLemmas.{needs_of_row}
use Rattle.gate_schema.specs.Edits.{need_rows}
use Rattle.gate_schema.specs.Rows.{NeedRow, Stored, change_key, change_table_row, need_columns}
use Rattle.gate_schema.proofs.QueryLemmas.{passes}
use Rattle.gate_schema.proofs.Statements.{key_is, no_limit}
use Rattle.gate_schema.proofs.ValueLemmas.{equal_numbers}
use Rattle.gate_found_rows.specs.Finds.{Finds}
use Rattle.gate_found_rows.specs.Reads.{IsStoredIn}
use Rattle.gate_found_rows.specs.Shown.{approval_shown, change_shown, number_shown}
use Rattle.gate_found_rows.specs.Whole.{IsWhole, is_change_row_in_form}
use Rattle.gate_change_queries.proofs.ChangeTexts.{approval_asks, approval_query, approval_sql, change_asks}
use Rattle.gate_change_queries.proofs.ChangeTexts.{change_names, change_query, change_sql, change_terms, needs_asks}
use Rattle.gate_change_queries.proofs.ChangeTexts.{needs_query, needs_sql}
use Rattle.gate_found_rows.proofs.KeyedReads.{finds_few, one_at}
use Rattle.gate_schema.proofs.RowLemmas.{told_behind}
use Rattle.gate_found_rows.proofs.ListedReads.{listed_rising}
use Rattle.gate_found_rows.proofs.ReadLemmas.{answers}
use Rattle.gate_found_rows.proofs.ShownLemmas.{pass_filter}

-- ---- a change without its needs

-- the change of a number
pub change_found : (s : State) (b : Stored) (n : ℕ) (rows : List Row) → IsStoredIn s b → Finds change_sql (Int (pos n) ∷ []) s.now rows
    → rows ≡ map change_shown (map (λ (r : ChangeRow). r.change) (filter (λ r. eqb (change_key r) n) b.changes))
change_found s b n rows shows finds =
    let params = Int (pos n) ∷ [] in
    let is = shows.stands.change in
    finds_few change_key change_table_row (λ r. change_shown r.change) 7 (key_is 0 ∷ []) change_terms no_limit params (λ r. eqb (change_key r) n)
    (λ r. rw equal_numbers (and_true (eqb (change_key r) n))) (λ r. refl) (overlay s.now.trees []) b.changes rows is (one_at change_key n b.changes is.in_order)
    (answers s change_sql change_query change_names params rows change_asks shows.schema_is finds)
    ∙ sym (map-map change_shown (λ (r : ChangeRow). r.change) _)

-- ---- its needs

-- places from one on are above those before
places_above : (n from at : ℕ) (ns : List ℕ) → at < from → AllByRecursion (λ (x : NeedRow). at < x.place) (need_rows n from ns)
places_above n from at [] low = tt
places_above n from at (m ∷ ns) low = (low, places_above n (suc from) at ns (omega arith))

-- the places of a change's needs rise
places_rise : (n from : ℕ) (ns : List ℕ) → IsAscending (λ (x y : NeedRow). x.place < y.place) (need_rows n from ns)
places_rise n from [] = tt
places_rise n from (m ∷ ns) = (places_above n (suc from) from ns (omega arith), places_rise n (suc from) ns)

-- what the rows of needs show
needed_are : (n from : ℕ) (ns : List ℕ) → map (λ (x : NeedRow). number_shown x.needed) (need_rows n from ns) ≡ map number_shown ns
needed_are n from [] = refl
needed_are n from (m ∷ ns) = ap (λ l. number_shown m ∷ l) (needed_are n (suc from) ns)

-- the needs of a change
pub needs_found : (s : State) (b : Stored) (n : ℕ) (rows : List Row) → IsStoredIn s b → IsWhole b → Finds needs_sql (Int (pos n) ∷ []) s.now rows
    → rows ≡ map number_shown (needs_in b.changes n)
needs_found s b n rows shows whole finds =
    let params = Int (pos n) ∷ [] in
    let own = whole.needs n in
    listed_rising need_columns 9 (key_is 1 ∷ []) (col 1 2) params (λ (x : NeedRow). eqb x.change n)
    (λ v x is. told_behind (passes (key_is 1 ∷ []) (Int (pos n) ∷ [])) v _ _ (eqb x.change n) (λ w. rw equal_numbers (and_true (eqb x.change n))) is)
    (λ x. x.place) (λ v x is. told_behind (λ v. eval (col 1 2) ((Int (pos n) ∷ []) ∷ v ∷ [])) v _ _ (Int (pos x.place)) (λ w. refl) is)
    (overlay s.now.trees []) b.needs rows shows.stands.need (col 1 3 ∷ []) no_limit (λ x. number_shown x.needed)
    (λ v x is. told_behind (λ v. eval_all (col 1 3 ∷ []) ((Int (pos n) ∷ []) ∷ v ∷ [])) v _ _ (number_shown x.needed) (λ w. refl) is)
    (subst (λ xs. IsAscending (λ (x y : NeedRow). x.place < y.place) xs) (sym own) (places_rise n 0 (needs_in b.changes n)))
    (answers s needs_sql needs_query (codes "needed" ∷ []) params rows needs_asks shows.schema_is finds)
    ∙ ap (map (λ (x : NeedRow). number_shown x.needed)) own ∙ needed_are n 0 (needs_in b.changes n)

-- ---- in form

-- the needs of a change in form are in form
pub needs_in_form : (n : ℕ) (rows : List ChangeRow) → AllPass is_change_row_in_form rows → AllPass is_change_number (needs_in rows n)
needs_in_form n rows all = of_found (find (λ (r : ChangeRow). eqb r.change.number n) rows) (λ r e. passes_found r e)
  where
    of_found : (o : Option ChangeRow) → ((r : ChangeRow) → o ≡ Some r → is_change_row_in_form r ≡ true) → AllPass is_change_number (needs_of_row o)
    of_found None all k d low = absurd (omega arith)
    of_found (Some r) all k d low =
        let form = first_of_both (is_change_in_form r.change) _ (all r refl) in
        AllPass-from_list_all is_change_number r.change.needs (second_of_both _ _ form) k d low

    passes_found : (r : ChangeRow) → find (λ (r : ChangeRow). eqb r.change.number n) rows ≡ Some r → is_change_row_in_form r ≡ true
    passes_found r e =
        all-slice_get (λ (r : ChangeRow). is_change_row_in_form r ≡ true) (filter (λ (r : ChangeRow). eqb r.change.number n) rows) 0 r
        (slice_get-filter (λ (r : ChangeRow). eqb r.change.number n) rows ∙ e)
        (all-filter (λ (r : ChangeRow). is_change_row_in_form r ≡ true) (λ (r : ChangeRow). eqb r.change.number n) rows (recursion_from_All (λ (r : ChangeRow). is_change_row_in_form r ≡ true) rows all))

-- the change that is found has the number and the needs, and is in form
pub changes_as : (n : ℕ) (needs : List ℕ) (b : Stored) (s : State) → IsStoredIn s b → IsWhole b → needs ≡ needs_in b.changes n
    → All (λ (k : Change). (k.number ≡ n) × (k.needs ≡ needs) × (is_change_in_form k ≡ true)) (map (λ (r : ChangeRow). r.change) (filter (λ r. eqb (change_key r) n) b.changes))
changes_as n needs b s shows whole are =
    go (filter (λ (r : ChangeRow). eqb (change_key r) n) b.changes) (one_at change_key n b.changes shows.stands.change.in_order)
    (filter_passes (λ (r : ChangeRow). eqb (change_key r) n) b.changes) (pass_filter is_change_row_in_form (λ (r : ChangeRow). eqb (change_key r) n) b.changes whole.changes)
    (slice_get-filter (λ (r : ChangeRow). eqb (change_key r) n) b.changes)
  where
    go : (rs : List ChangeRow) → length rs ≤ 1 → AllPass (λ (r : ChangeRow). eqb (change_key r) n) rs → AllPass is_change_row_in_form rs → slice_get rs 0 ≡ find (λ (r : ChangeRow). eqb (change_key r) n) b.changes
        → All (λ (k : Change). (k.number ≡ n) × (k.needs ≡ needs) × (is_change_in_form k ≡ true)) (map (λ (r : ChangeRow). r.change) rs)
    go [] few has form first k d low = absurd (omega arith)
    go (r ∷ []) few has form first zero d low =
        (eqb-true _ _ (has 0 r (omega arith)), ap needs_of_row first ∙ sym are, first_of_both _ _ (form 0 r (omega arith)))
    go (r ∷ []) few has form first (suc k) d low = absurd (omega arith)
    go (r ∷ t ∷ rs) few has form first k d low = absurd (omega arith)

-- ---- its approval

-- the number of its approval
pub approval_found : (s : State) (b : Stored) (n : ℕ) (rows : List Row) → IsStoredIn s b → Finds approval_sql (Int (pos n) ∷ []) s.now rows
    → rows ≡ map approval_shown (filter (λ r. eqb (change_key r) n) b.changes)
approval_found s b n rows shows finds =
    let params = Int (pos n) ∷ [] in
    let is = shows.stands.change in
    finds_few change_key change_table_row approval_shown 7 (key_is 0 ∷ []) (col 1 5 ∷ []) no_limit params (λ r. eqb (change_key r) n)
    (λ r. rw equal_numbers (and_true (eqb (change_key r) n))) (λ r. refl) (overlay s.now.trees []) b.changes rows is (one_at change_key n b.changes is.in_order)
    (answers s approval_sql approval_query (codes "approval" ∷ []) params rows approval_asks shows.schema_is finds)
