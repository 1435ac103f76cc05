-- The reports: what the statement that adds one means, and what it makes of what the tables hold.
use Rattle.std.proofs.Common.{◌≡◌, ℕ, List, [], ◌∷◌, ◌++◌, Ok, codes, refl, sym, ap, subst, ◌∙◌}
use Rattle.sqlite.specs.Cast.{cast_row}
use Rattle.sqlite.specs.Command.TheVariants.{Insert}
use Rattle.sqlite.specs.Edit.{edit_of, edited, with_rowid, next_rowid}
use Rattle.sqlite.specs.Listing.{understood}
use Rattle.sqlite.specs.Rowids.TheVariants.{Chosen}
use Rattle.sqlite.specs.Source.TheVariants.{Values}
use Rattle.sqlite.specs.State.{State, ExecutesInside}
use Rattle.sqlite.specs.Term.{Term, lit, col}
use Rattle.sqlite.specs.declared.types.Value.TheVariants.{Null, Int}
use Rattle.sqlite.proofs.Callers.{runs_as, statement_of}
use Rattle.sqlite_tied.specs.Compute.{everything}
use Rattle.sqlite_trees.specs.Tree.{put_row}
use Rattle.gate_schema.specs.Edits.{add_report}
use Rattle.gate_schema.specs.Rows.{QueueReport, IsReady, Changes, IsListed, report_columns}
use Rattle.gate_schema.specs.Schema.{gate_schema, report_table_at}
use Rattle.gate_schema.proofs.RowLemmas.{cast_int, cast_null, cast_or_null}
use Rattle.gate_schema.proofs.Statements.{Is}
use Rattle.gate_schema.proofs.TableLemmas.{others_stay, with_reports, listed_next}
use Rattle.gate_schema.proofs.WriteLemmas.{inserts}

-- ---- a report added

abbrev pub add_report_sql : List ℕ
add_report_sql = codes "INSERT INTO report (queue, place, serial, change, revision, verdict, n) VALUES (?1, ?2, ?3, ?4, ?5, ?6, ?7)"

abbrev pub add_report_terms : List Term
add_report_terms = lit Null ∷ col 0 0 ∷ col 0 1 ∷ col 0 2 ∷ col 0 3 ∷ col 0 4 ∷ col 0 5 ∷ col 0 6 ∷ []

pub add_report_is : Is add_report_sql (Insert 8 (Values add_report_terms 8))
unfolding understood everything
add_report_is = (refl, (refl, refl))

pub adds_report : (x : QueueReport) (old new : State) (count : ℕ) → IsReady old → ExecutesInside 0 add_report_sql (report_columns x) old new (Ok count)
    → Changes old new (add_report x)
adds_report x old new count ready h =
    let params = report_columns x in
    let w = runs_as add_report_sql params old new gate_schema ready.schema_is (Insert 8 (Values add_report_terms 8)) add_report_is.0 add_report_is.1 count h.0 in
    let e = inserts gate_schema (λ _ _ _. refl) old new ready.schema_is 8 (report_table_at 18) refl (statement_of add_report_sql (understood gate_schema add_report_sql)) params count refl (Values add_report_terms 8) w in
    let rows : e.0 ≡ (Null ∷ report_columns x) ∷ [] = e.1.1 in
    let stored : cast_row (report_table_at 18) (Null ∷ report_columns x) ≡ Null ∷ report_columns x = rw (cast_null, cast_int, cast_int, cast_int, cast_int, cast_or_null) in
    let left : new.now.trees 18 ≡ put_row (Int (next_rowid (old.now.trees 18)) ∷ report_columns x) (old.now.trees 18) =
    e.2.applies.rows ∙ ap (λ rs. edited old.now.trees (edit_of old.now.trees (report_table_at 18) [] Chosen 0 rs)) rows
    ∙ ap (λ r. put_row (with_rowid Chosen (old.now.trees 18) r) (old.now.trees 18)) stored in
    record {
      ready = record { schema_is = e.2.schema_is; inside = h.1.mode };
      named = λ b named. named;
      stands = λ b named stands. with_reports new.now.trees b (b.reports ++ x ∷ []) (others_stay old new _ 18 b e.2 refl refl stands)
          (subst (λ rs. IsListed report_columns rs (b.reports ++ x ∷ [])) (sym left) (listed_next report_columns (old.now.trees 18) b.reports x stands.report));
    }
