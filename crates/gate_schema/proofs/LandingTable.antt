-- The landings: what the statement that adds one means, and what it makes of what the tables hold.
use Rattle.std.proofs.Common.{◌≡◌, ℕ, List, [], ◌∷◌, ◌++◌, Ok, codes, refl, sym, ap, subst, ◌∙◌}
use Rattle.sqlite.specs.Cast.{cast_row}
use Rattle.sqlite.specs.Command.TheVariants.{Insert}
use Rattle.sqlite.specs.Edit.{edit_of, edited, with_rowid, next_rowid}
use Rattle.sqlite.specs.Listing.{understood}
use Rattle.sqlite.specs.Rowids.TheVariants.{Chosen}
use Rattle.sqlite.specs.Source.TheVariants.{Values}
use Rattle.sqlite.specs.State.{State, ExecutesInside}
use Rattle.sqlite.specs.Term.{Term, lit, col}
use Rattle.sqlite.specs.declared.types.Value.TheVariants.{Null, Int}
use Rattle.sqlite.proofs.Callers.{runs_as, statement_of}
use Rattle.sqlite_tied.specs.Compute.{everything}
use Rattle.sqlite_trees.specs.Tree.{put_row}
use Rattle.gate_schema.specs.Edits.{add_landing}
use Rattle.gate_schema.specs.Rows.{QueueLanding, IsReady, Changes, IsListed, landing_columns}
use Rattle.gate_schema.specs.Schema.{gate_schema, landing_table_at}
use Rattle.gate_schema.proofs.RowLemmas.{cast_int, cast_null}
use Rattle.gate_schema.proofs.Statements.{Is}
use Rattle.gate_schema.proofs.TableLemmas.{others_stay, with_landings, listed_next}
use Rattle.gate_schema.proofs.WriteLemmas.{inserts}

-- ---- a landing added

abbrev pub add_landing_sql : List ℕ
add_landing_sql = codes "INSERT INTO landing (queue, n, serial, change, revision) VALUES (?1, ?2, ?3, ?4, ?5)"

abbrev pub add_landing_terms : List Term
add_landing_terms = lit Null ∷ col 0 0 ∷ col 0 1 ∷ col 0 2 ∷ col 0 3 ∷ col 0 4 ∷ []

pub add_landing_is : Is add_landing_sql (Insert 7 (Values add_landing_terms 6))
unfolding understood everything
add_landing_is = (refl, (refl, refl))

pub adds_landing : (x : QueueLanding) (old new : State) (count : ℕ) → IsReady old → ExecutesInside 0 add_landing_sql (landing_columns x) old new (Ok count)
    → Changes old new (add_landing x)
adds_landing x old new count ready h =
    let params = landing_columns x in
    let w = runs_as add_landing_sql params old new gate_schema ready.schema_is (Insert 7 (Values add_landing_terms 6)) add_landing_is.0 add_landing_is.1 count h.0 in
    let e = inserts gate_schema (λ _ _ _. refl) old new ready.schema_is 7 (landing_table_at 14) refl (statement_of add_landing_sql (understood gate_schema add_landing_sql)) params count refl (Values add_landing_terms 6) w in
    let rows : e.0 ≡ (Null ∷ landing_columns x) ∷ [] = e.1.1 in
    let stored : cast_row (landing_table_at 14) (Null ∷ landing_columns x) ≡ Null ∷ landing_columns x = rw (cast_null, cast_int, cast_int, cast_int, cast_int) in
    let left : new.now.trees 14 ≡ put_row (Int (next_rowid (old.now.trees 14)) ∷ landing_columns x) (old.now.trees 14) =
    e.2.applies.rows ∙ ap (λ rs. edited old.now.trees (edit_of old.now.trees (landing_table_at 14) [] Chosen 0 rs)) rows
    ∙ ap (λ r. put_row (with_rowid Chosen (old.now.trees 14) r) (old.now.trees 14)) stored in
    record {
      ready = record { schema_is = e.2.schema_is; inside = h.1.mode };
      named = λ b named. named;
      stands = λ b named stands. with_landings new.now.trees b (b.landings ++ x ∷ []) (others_stay old new _ 14 b e.2 refl refl stands)
          (subst (λ rs. IsListed landing_columns rs (b.landings ++ x ∷ [])) (sym left) (listed_next landing_columns (old.now.trees 14) b.landings x stands.landing));
    }
