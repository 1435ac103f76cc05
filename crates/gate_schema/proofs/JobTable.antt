-- The jobs of plans: what each statement on them means, and what it makes of what the tables hold.
use Rattle.std.proofs.Common.{◌≡◌, ℕ, pos, List, [], ◌∷◌, ◌++◌, drop, filter, not, Ok, codes, refl, sym, ap, subst}
use Rattle.std.proofs.Common.{◌∙◌, eqb}
use Rattle.sqlite.specs.Cast.{cast_row}
use Rattle.sqlite.specs.Command.TheVariants.{Insert, Delete}
use Rattle.sqlite.specs.Edit.{edit_of, edited, with_rowid, next_rowid}
use Rattle.sqlite.specs.Listing.{understood}
use Rattle.sqlite.specs.Order.{Row}
use Rattle.sqlite.specs.Program.{overlay}
use Rattle.sqlite.specs.Query.{Query}
use Rattle.sqlite.specs.Rowids.TheVariants.{Chosen}
use Rattle.sqlite.specs.Source.TheVariants.{Values}
use Rattle.sqlite.specs.State.{State, ExecutesInside}
use Rattle.sqlite.specs.Term.{Term, lit, col}
use Rattle.sqlite.specs.declared.types.Value.TheVariants.{Null, Int}
use Rattle.sqlite.proofs.Callers.{runs_as, statement_of}
use Rattle.sqlite_schema.specs.declared.program.Program.{Program}
use Rattle.sqlite_tied.proofs.RuleLemmas.{and_true}
use Rattle.sqlite_tied.specs.Compute.{everything}
use Rattle.sqlite_trees.specs.Tree.{put_row}
use Rattle.gate_schema.specs.Edits.{add_jobs, drop_jobs}
use Rattle.gate_schema.specs.Rows.{JobRow, IsReady, Changes, IsListed, job_columns}
use Rattle.gate_schema.specs.Schema.{gate_schema, item_job_table_at}
use Rattle.gate_schema.proofs.ChangeLemmas.{listed_without, numbered_filter}
use Rattle.gate_schema.proofs.DeleteLemmas.{deleted_ids, leaves_others}
use Rattle.gate_schema.proofs.QueryLemmas.{over_table, passes}
use Rattle.gate_schema.proofs.RowLemmas.{cast_int, cast_null, told_behind}
use Rattle.gate_schema.proofs.Statements.{Is, key_is, no_limit}
use Rattle.gate_schema.proofs.TableLemmas.{others_stay, with_jobs, listed_next}
use Rattle.gate_schema.proofs.ValueLemmas.{equal_numbers}
use Rattle.gate_schema.proofs.WriteLemmas.{inserts, deletes}

-- ---- a job added

abbrev pub add_job_sql : List ℕ
add_job_sql = codes "INSERT INTO item_job (serial, place, name, voting) VALUES (?1, ?2, ?3, ?4)"

abbrev pub add_job_terms : List Term
add_job_terms = lit Null ∷ col 0 0 ∷ col 0 1 ∷ col 0 2 ∷ col 0 3 ∷ []

pub add_job_is : Is add_job_sql (Insert 10 (Values add_job_terms 5))
unfolding understood everything
add_job_is = (refl, (refl, refl))

pub adds_job : (x : JobRow) (old new : State) (count : ℕ) → IsReady old → ExecutesInside 0 add_job_sql (job_columns x) old new (Ok count)
    → Changes old new (add_jobs (x ∷ []))
adds_job x old new count ready h =
    let params = job_columns x in
    let w = runs_as add_job_sql params old new gate_schema ready.schema_is (Insert 10 (Values add_job_terms 5)) add_job_is.0 add_job_is.1 count h.0 in
    let e = inserts gate_schema (λ _ _ _. refl) old new ready.schema_is 10 (item_job_table_at 26) refl (statement_of add_job_sql (understood gate_schema add_job_sql)) params count refl (Values add_job_terms 5) w in
    let rows : e.0 ≡ (Null ∷ job_columns x) ∷ [] = e.1.1 in
    let stored : cast_row (item_job_table_at 26) (Null ∷ job_columns x) ≡ Null ∷ job_columns x = rw (cast_null, cast_int, cast_int, cast_int) in
    let left : new.now.trees 26 ≡ put_row (Int (next_rowid (old.now.trees 26)) ∷ job_columns x) (old.now.trees 26) =
    e.2.applies.rows ∙ ap (λ rs. edited old.now.trees (edit_of old.now.trees (item_job_table_at 26) [] Chosen 0 rs)) rows
    ∙ ap (λ r. put_row (with_rowid Chosen (old.now.trees 26) r) (old.now.trees 26)) stored in
    record {
      ready = record { schema_is = e.2.schema_is; inside = h.1.mode };
      named = λ b named. named;
      stands = λ b named stands. with_jobs new.now.trees b (b.jobs ++ x ∷ []) (others_stay old new _ 26 b e.2 refl refl stands)
          (subst (λ rs. IsListed job_columns rs (b.jobs ++ x ∷ [])) (sym left) (listed_next job_columns (old.now.trees 26) b.jobs x stands.job));
    }

-- ---- the jobs under a serial taken out

abbrev pub drop_jobs_sql : List ℕ
drop_jobs_sql = codes "DELETE FROM item_job WHERE serial = ?1"

abbrev pub drop_jobs_query : Query
drop_jobs_query = over_table 26 (key_is 1 ∷ []) (col 1 0 ∷ []) [] no_limit

pub drop_jobs_is : Is drop_jobs_sql (Delete 10 (record { lets = []; body = drop_jobs_query }))
unfolding understood everything
drop_jobs_is = (refl, (refl, refl))

pub drops_jobs : (n : ℕ) (old new : State) (count : ℕ) → IsReady old → ExecutesInside 0 drop_jobs_sql (Int (pos n) ∷ []) old new (Ok count)
    → Changes old new (drop_jobs n)
drops_jobs n old new count ready h =
    let params = Int (pos n) ∷ [] in
    let program : Program = record { lets = []; body = drop_jobs_query } in
    let w = runs_as drop_jobs_sql params old new gate_schema ready.schema_is (Delete 10 program) drop_jobs_is.0 drop_jobs_is.1 count h.0 in
    let e = deletes gate_schema (λ _ _ _. refl) old new ready.schema_is 10 (item_job_table_at 26) refl (statement_of drop_jobs_sql (understood gate_schema drop_jobs_sql)) params count program w in
    let db = overlay old.now.trees [] in
    let test = passes (key_is 1 ∷ []) params in
    let same : (v : Row) (x : JobRow) → drop 1 v ≡ job_columns x → test v ≡ eqb x.serial n = λ v x is. told_behind test v _ _ _ (λ w. rw equal_numbers (and_true (eqb x.serial n))) is in
    record {
      ready = record { schema_is = e.2.schema_is; inside = h.1.mode };
      named = λ b named. named;
      stands = λ b named stands.
          let left : new.now.trees 26 ≡ filter (λ r. not (test r)) (old.now.trees 26) =
          e.2.applies.rows ∙ leaves_others test (old.now.trees 26) _ stands.job.numbered (deleted_ids 26 (key_is 1 ∷ []) db params e.0 (e.1.answer Null)) in
          with_jobs new.now.trees b _ (others_stay old new _ 26 b e.2 refl refl stands)
          (subst (λ rs. IsListed job_columns rs (filter (λ y. not (eqb y.serial n)) b.jobs)) (sym left) (record {
            columns_are = listed_without job_columns test (λ y. eqb y.serial n) same (old.now.trees 26) b.jobs stands.job.columns_are;
            numbered = numbered_filter (λ r. not (test r)) (old.now.trees 26) stands.job.numbered;
          }));
    }
