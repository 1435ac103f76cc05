-- What the read of a plan finds.
use Rattle.std.proofs.Common.{◌≡◌, ◌<◌, ℕ, suc, pos, Bool, true, false, not, cond, List, [], ◌∷◌, filter, length, map}
use Rattle.std.proofs.Common.{codes, ap, refl, subst, sym, ◌∙◌, arith, eqb}
use Rattle.std.specs.List.{AllByRecursion, AllPass, list_any}
use Rattle.std.specs.Prelude.{◌||◌}
use Rattle.std.proofs.lemmas.Bool.Decides.{nat_tests}
use Rattle.std.proofs.lemmas.List.Elements.{All-from_recursion, recursion_from_All}
use Rattle.sqlite.specs.Order.{Row}
use Rattle.sqlite.specs.Program.{overlay}
use Rattle.sqlite.specs.State.{State}
use Rattle.sqlite.specs.Term.{col, eval, eval_all}
use Rattle.sqlite.specs.declared.types.Value.TheVariants.{Int}
use Rattle.sqlite_keyed.proofs.ListLemmas.{map-map}
use Rattle.sqlite_tied.proofs.RuleLemmas.{and_true}
use Rattle.sqlite_trees.specs.Tree.{IsAscending}
use Rattle.gate_types.specs.Names.{is_name}
use Rattle.gate_types.specs.declared.config.Job.{Job}
use Rattle.gate_schema.specs.Edits.{job_rows}
use Rattle.gate_schema.specs.Rows.{JobRow, Stored, fast_key, fast_table_row, job_columns}
use Rattle.gate_schema.proofs.QueryLemmas.{passes}
use Rattle.gate_schema.proofs.Statements.{key_is, no_limit}
use Rattle.gate_schema.proofs.ValueLemmas.{equal_numbers}
use Rattle.gate_found_rows.specs.Asked.{stored_jobs_of}
use Rattle.gate_found_rows.specs.Finds.{Finds}
use Rattle.gate_found_rows.specs.Reads.{IsStoredIn}
use Rattle.gate_found_rows.specs.Shown.{job_shown, number_shown}
use Rattle.gate_found_rows.specs.Whole.{IsWhole, is_job_row_in_form}
use Rattle.gate_found_rows.proofs.KeyedReads.{finds_few, one_at}
use Rattle.gate_schema.proofs.RowLemmas.{told_behind}
use Rattle.gate_found_rows.proofs.ListedReads.{listed_rising}
use Rattle.gate_build_queries.proofs.PlanTexts.{fast_asks, fast_query, fast_sql, jobs_asks, jobs_names, jobs_query}
use Rattle.gate_build_queries.proofs.PlanTexts.{jobs_sql, jobs_terms}
use Rattle.gate_found_rows.proofs.ReadLemmas.{answers}
use Rattle.gate_found_rows.proofs.ShownLemmas.{pass_filter}

-- ---- its jobs

-- places from one on are above those before
places_above : (n from at : ℕ) (js : List Job) → at < from → AllByRecursion (λ (x : JobRow). at < x.place) (job_rows n from js)
places_above n from at [] low = tt
places_above n from at (j ∷ js) low = (low, places_above n (suc from) at js (omega arith))

-- the places of a plan's jobs rise
pub places_rise : (n from : ℕ) (js : List Job) → IsAscending (λ (x y : JobRow). x.place < y.place) (job_rows n from js)
places_rise n from [] = tt
places_rise n from (j ∷ js) = (places_above n (suc from) from js (omega arith), places_rise n (suc from) js)

-- the jobs under a serial
pub jobs_found : (s : State) (b : Stored) (n : ℕ) (rows : List Row) → IsStoredIn s b → IsWhole b → Finds jobs_sql (Int (pos n) ∷ []) s.now rows
    → rows ≡ map job_shown (stored_jobs_of b n)
jobs_found s b n rows shows whole finds =
    let params = Int (pos n) ∷ [] in
    listed_rising job_columns 26 (key_is 1 ∷ []) (col 1 2) params (λ (x : JobRow). eqb x.serial n)
    (λ v x is. told_behind (passes (key_is 1 ∷ []) (Int (pos n) ∷ [])) v _ _ (eqb x.serial n) (λ w. rw equal_numbers (and_true (eqb x.serial n))) is)
    (λ x. x.place) (λ v x is. told_behind (λ v. eval (col 1 2) ((Int (pos n) ∷ []) ∷ v ∷ [])) v _ _ (Int (pos x.place)) (λ w. refl) is)
    (overlay s.now.trees []) b.jobs rows shows.stands.job jobs_terms no_limit (λ x. job_shown x.job)
    (λ v x is. told_behind (λ v. eval_all jobs_terms ((Int (pos n) ∷ []) ∷ v ∷ [])) v _ _ (job_shown x.job) (λ w. refl) is)
    (subst (λ xs. IsAscending (λ (x y : JobRow). x.place < y.place) xs) (sym (whole.jobs_are_placed n)) (places_rise n 0 (stored_jobs_of b n)))
    (answers s jobs_sql jobs_query jobs_names params rows jobs_asks shows.schema_is finds)
    ∙ sym (map-map job_shown (λ (x : JobRow). x.job) _)

-- ---- in form

mapped : (xs : List JobRow) → AllByRecursion (λ (x : JobRow). is_name x.job.name ≡ true) xs → AllByRecursion (λ (j : Job). is_name j.name ≡ true) (map (λ (x : JobRow). x.job) xs)
mapped [] all = tt
mapped (x ∷ xs) all = (all.0, mapped xs all.1)

-- the jobs under a serial are in form
pub jobs_in_form : (n : ℕ) (b : Stored) → IsWhole b → AllPass (λ (j : Job). is_name j.name) (stored_jobs_of b n)
jobs_in_form n b whole =
    let some = pass_filter is_job_row_in_form (λ (x : JobRow). eqb x.serial n) b.jobs whole.jobs in
    All-from_recursion (λ (j : Job). is_name j.name ≡ true) (stored_jobs_of b n)
    (mapped (filter (λ (x : JobRow). eqb x.serial n) b.jobs) (recursion_from_All (λ (x : JobRow). is_name x.job.name ≡ true) _ some))

-- ---- whether it fails fast

-- the mark of a serial
pub fast_found : (s : State) (b : Stored) (n : ℕ) (rows : List Row) → IsStoredIn s b → Finds fast_sql (Int (pos n) ∷ []) s.now rows
    → rows ≡ map number_shown (filter (λ m. eqb m n) b.fast)
fast_found s b n rows shows finds =
    let params = Int (pos n) ∷ [] in
    let is = shows.stands.fast in
    finds_few fast_key fast_table_row number_shown 28 (key_is 0 ∷ []) (col 1 0 ∷ []) no_limit params (λ m. eqb m n)
    (λ m. rw equal_numbers (and_true (eqb m n))) (λ m. refl) (overlay s.now.trees []) b.fast rows is (one_at fast_key n b.fast is.in_order)
    (answers s fast_sql fast_query (codes "serial" ∷ []) params rows fast_asks shows.schema_is finds)

-- a row is found just where there is a mark
pub found_is_any : (n : ℕ) (fast : List ℕ) → not (eqb (length (map number_shown (filter (λ m. eqb m n) fast))) 0) ≡ list_any (λ m. eqb m n) fast
found_is_any n [] = refl
found_is_any n (m ∷ ms) = go (eqb m n) (found_is_any n ms)
  where
    go : (c : Bool) → not (eqb (length (map number_shown (filter (λ m. eqb m n) ms))) 0) ≡ list_any (λ m. eqb m n) ms
        → not (eqb (length (map number_shown (cond c (m ∷ filter (λ m. eqb m n) ms) (filter (λ m. eqb m n) ms)))) 0) ≡ (c || list_any (λ m. eqb m n) ms)
    go true more =
        let some : eqb (suc (length (map number_shown (filter (λ m. eqb m n) ms)))) 0 ≡ false = grind (arith, nat_tests) in
        ap not some
    go false more = more
