-- What the read of the plans of a queue's items finds.
use Rattle.std.proofs.Common.{◌≡◌, ◌<◌, ℕ, pos, List, [], ◌∷◌, filter, map, drop, true, ◌&&◌, codes, eqb, refl, sym}
use Rattle.std.proofs.Common.{ap, subst, ◌∙◌, arith}
use Rattle.std.specs.List.{AllPass, list_all}
use Rattle.std.proofs.lemmas.Bool.{and_from, and_parts}
use Rattle.std.proofs.lemmas.Bool.Decides.{nat_tests}
use Rattle.std.proofs.lemmas.Int.{ints}
use Rattle.std.proofs.lemmas.List.Elements.{All-from_recursion, recursion_from_All}
use Rattle.sqlite.specs.Order.{Row}
use Rattle.sqlite.specs.Program.{overlay}
use Rattle.sqlite.specs.State.{State}
use Rattle.sqlite.specs.Term.{col, eval, eval_all, holds}
use Rattle.sqlite.specs.declared.types.Value.TheVariants.{Int}
use Rattle.sqlite_keyed.proofs.ListLemmas.{ascending-filter, ascending-map, ascending_weaker, map-flat_map}
use Rattle.sqlite_rules.specs.Lists.{Has}
use Rattle.sqlite_rules.proofs.ListLemmas.{all_from, all_has, has_filtered}
use Rattle.sqlite_tied.proofs.RuleLemmas.{and_true}
use Rattle.sqlite_trees.specs.Tree.{IsAscending}
use Rattle.gate_types.specs.Forms.{is_change_number, is_drawn_number, is_revision_number}
use Rattle.gate_types.specs.Names.{is_name, same_name}
use Rattle.gate_types.specs.declared.records.Item.{Item}
use Rattle.gate_book_trait.specs.Reads.{items_between}
use Rattle.gate_rows.specs.Matches.{items_of}
use Rattle.gate_schema.specs.Rows.{ItemRow, JobRow, Stored, fast_key, fast_table_row, item_key, item_table_row}
use Rattle.gate_schema.specs.Rows.{job_columns}
use Rattle.gate_schema.proofs.ValueLemmas.{equal_numbers}
use Rattle.gate_found_rows.specs.Asked.{stored_jobs_of, plan_with, plans_between}
use Rattle.gate_found_rows.specs.Finds.{Finds}
use Rattle.gate_build_queries.specs.Planned.{jobs_between, marked_between, plans_of}
use Rattle.gate_found_rows.specs.Reads.{IsStoredIn}
use Rattle.gate_found_rows.specs.Shown.{number_shown, planned_shown}
use Rattle.gate_found_rows.specs.Whole.{IsWhole, is_item_row_in_form, is_job_row_in_form, is_planned_in_form}
use Rattle.gate_build_queries.proofs.BetweenReads.{between_params, between_query, finds_between}
use Rattle.gate_found_rows.proofs.DistinctLemmas.{has_made, has_of}
use Rattle.gate_found_rows.proofs.JoinLemmas.{keyed_told, listed_told}
use Rattle.gate_schema.proofs.RowLemmas.{told_behind}
use Rattle.gate_item_queries.proofs.NextReads.{capped}
use Rattle.gate_build_queries.proofs.PlanReads.{places_rise}
use Rattle.gate_build_queries.proofs.PlanTexts.{marked_asks, marked_of, marked_sql, planned_asks, planned_names}
use Rattle.gate_build_queries.proofs.PlanTexts.{planned_of, planned_sql, planned_terms}
use Rattle.gate_build_queries.proofs.PlannedLemmas.{flat_alike, marked_alike, plans_are}
use Rattle.gate_found_rows.proofs.ReadLemmas.{answers}

-- ---- the rows

-- the rows of the jobs of the items of a queue between two serials
pub planned_found : (s : State) (b : Stored) (name : List ℕ) (above last : ℕ) (rows : List Row) → IsStoredIn s b → IsWhole b
    → Finds planned_sql (between_params name (capped above) last) s.now rows → rows ≡ map planned_shown (jobs_between b name above last)
planned_found s b name above last rows shows whole finds =
    let params = between_params name (capped above) last in
    finds_between (λ r x. drop 1 r ≡ job_columns x) 26 planned_of planned_terms (col 2 2) name above last (λ (x : JobRow) n. eqb x.serial n) (λ (x : JobRow). x.place) (λ i x. planned_shown x)
    (λ r i x is. told_behind (λ v. list_all (holds (params ∷ item_table_row i ∷ v ∷ [])) planned_of) r _ _ (eqb x.serial i.item.serial) (λ w. rw (equal_numbers x.serial i.item.serial, and_true (eqb x.serial i.item.serial))) is)
    (λ r i x is. told_behind (λ v. eval (col 2 2) (params ∷ item_table_row i ∷ v ∷ [])) r _ _ (Int (pos x.place)) (λ w. refl) is)
    (λ r i x is. told_behind (λ v. eval_all planned_terms (params ∷ item_table_row i ∷ v ∷ [])) r _ _ (planned_shown x) (λ w. refl) is)
    (overlay s.now.trees []) b b.jobs rows whole shows.stands.item (listed_told job_columns (s.now.trees 26) b.jobs shows.stands.job.columns_are)
    (λ n. subst (λ xs. IsAscending (λ (x y : JobRow). x.place < y.place) xs) (sym (whole.jobs_are_placed n)) (places_rise n 0 (stored_jobs_of b n)))
    (answers s planned_sql (between_query 26 planned_of planned_terms (col 2 2)) planned_names params rows planned_asks shows.schema_is finds)
    ∙ sym (map-flat_map planned_shown (λ (i : Item). filter (λ (x : JobRow). eqb x.serial i.serial) b.jobs) (items_between above last (items_of name b.items)))

-- the marks of those that fail fast
pub marked_found : (s : State) (b : Stored) (name : List ℕ) (above last : ℕ) (rows : List Row) → IsStoredIn s b → IsWhole b
    → Finds marked_sql (between_params name (capped above) last) s.now rows → rows ≡ map number_shown (marked_between b name above last)
marked_found s b name above last rows shows whole finds =
    let params = between_params name (capped above) last in
    finds_between (λ r m. r ≡ fast_table_row m) 28 marked_of (col 2 0 ∷ []) (col 2 0) name above last (λ m n. eqb m n) fast_key (λ i m. number_shown m)
    (λ r i m is. subst (λ v. list_all (holds (params ∷ item_table_row i ∷ v ∷ [])) marked_of ≡ eqb m i.item.serial) (sym is) (rw (equal_numbers m i.item.serial, and_true (eqb m i.item.serial))))
    (λ r i m is. subst (λ v. eval (col 2 0) (params ∷ item_table_row i ∷ v ∷ []) ≡ Int (pos m)) (sym is) refl)
    (λ r i m is. subst (λ v. eval_all (col 2 0 ∷ []) (params ∷ item_table_row i ∷ v ∷ []) ≡ number_shown m) (sym is) refl)
    (overlay s.now.trees []) b b.fast rows whole shows.stands.item (keyed_told fast_key fast_table_row (s.now.trees 28) b.fast shows.stands.fast)
    (λ n. ascending_weaker _ (λ x y. x < y) (λ x y less. omega (arith, ints)) _ (ascending-filter _ (λ m. eqb m n) b.fast shows.stands.fast.in_order))
    (answers s marked_sql (between_query 28 marked_of (col 2 0 ∷ []) (col 2 0)) (codes "serial" ∷ []) params rows marked_asks shows.schema_is finds)
    ∙ sym (map-flat_map number_shown (λ (i : Item). filter (λ m. eqb m i.serial) b.fast) (items_between above last (items_of name b.items)))

-- ---- their form

module _ (b : Stored) (name : List ℕ) (above last : ℕ) where
  -- the items between the serials
  abbrev items : List Item
  items = items_between above last (items_of name b.items)

  -- an item among them has a serial in form
  serial_in_form : IsWhole b → (i : Item) → Has items i → is_drawn_number i.serial ≡ true
  serial_in_form whole i h =
      let of_queue = has_filtered _ (items_of name b.items) i h in
      let made = has_made (λ (r : ItemRow). r.item) (filter (λ (r : ItemRow). same_name r.queue name) b.items) i of_queue.0 in
      let row = has_filtered (λ (r : ItemRow). same_name r.queue name) b.items made.0 made.1 in
      let form = all_has (λ r. is_item_row_in_form r ≡ true) b.items made.0 (recursion_from_All (λ r. is_item_row_in_form r ≡ true) b.items whole.items) row.0 in
      subst (λ (k : Item). is_drawn_number k.serial ≡ true) (sym made.2)
      (and_parts _ _ (and_parts (is_drawn_number made.0.item.serial && is_change_number made.0.item.change) (is_revision_number made.0.item.revision)
      (and_parts (is_name made.0.queue) _ (and_parts _ _ form).0).1).0).0

  -- the rows of their jobs are in form
  pub planned_in_form : IsWhole b → AllPass is_planned_in_form (jobs_between b name above last)
  planned_in_form whole =
      All-from_recursion (λ x. is_planned_in_form x ≡ true) _ (all_from (λ x. is_planned_in_form x ≡ true) (jobs_between b name above last) (λ x h.
      let at = has_of (λ (i : Item). filter (λ (y : JobRow). eqb y.serial i.serial) b.jobs) items x h in
      let row = has_filtered (λ (y : JobRow). eqb y.serial at.0.serial) b.jobs x at.2 in
      and_from _ _ (same_form at.0.serial x.serial (serial_in_form whole at.0 at.1) row.1)
      (all_has (λ y. is_job_row_in_form y ≡ true) b.jobs x (recursion_from_All (λ y. is_job_row_in_form y ≡ true) b.jobs whole.jobs) row.0)))
    where
      same_form : (n m : ℕ) → is_drawn_number n ≡ true → eqb m n ≡ true → is_drawn_number m ≡ true
      same_form n m form same = let is : n ≡ m = grind (arith, nat_tests) in subst (λ k. is_drawn_number k ≡ true) is form

  -- ---- what is made of them

  -- their serials rise
  items_rise : (s : State) → IsStoredIn s b → IsAscending (λ (i k : Item). i.serial < k.serial) items
  items_rise s shows =
      ascending-filter _ _ (items_of name b.items) (ascending-map (λ (i k : Item). i.serial < k.serial) (λ (r : ItemRow). r.item) _
      (ascending-filter _ (λ (r : ItemRow). same_name r.queue name) b.items
      (ascending_weaker _ (λ (r t : ItemRow). item_key r < item_key t) (λ r t less. omega (arith, ints)) b.items shows.stands.item.in_order)))

  -- so the plans that are put together are the items' plans
  pub put_together : (s : State) → IsStoredIn s b → plans_of (marked_between b name above last) (jobs_between b name above last) ≡ plans_between b name above last
  put_together s shows =
      plans_are (marked_between b name above last) b.jobs items (items_rise s shows)
      ∙ flat_alike _ _ items (λ i h. ap (λ fast. Rattle.std.specs.Prelude.option_to_list (plan_with i.serial fast (stored_jobs_of b i.serial))) (marked_alike b.fast items i h))

-- any number is in form
pub any_number : (ns : List ℕ) → AllPass (λ n. true) ns
any_number ns = All-from_recursion (λ n. true ≡ true) ns (all_from (λ n. true ≡ true) ns (λ n h. refl))
