-- The marks of items that fail fast: what each statement on them means, and what it makes of what the tables hold.
use Rattle.std.proofs.Common.{◌≡◌, ℕ, pos, List, [], ◌∷◌, filter, not, Ok, codes, refl, sym, ap, subst, ◌∙◌, eqb}
use Rattle.sqlite.specs.Cast.{cast_row}
use Rattle.sqlite.specs.Command.TheVariants.{Insert, Delete}
use Rattle.sqlite.specs.Edit.{edit_of, edited, with_rowid}
use Rattle.sqlite.specs.Listing.{understood}
use Rattle.sqlite.specs.Program.{overlay}
use Rattle.sqlite.specs.Query.{Query}
use Rattle.sqlite.specs.Rowids.TheVariants.{Chosen}
use Rattle.sqlite.specs.Source.TheVariants.{Values}
use Rattle.sqlite.specs.State.{State, ExecutesInside}
use Rattle.sqlite.specs.Term.{Term, lit, col}
use Rattle.sqlite.specs.declared.types.Value.TheVariants.{Null, Int}
use Rattle.sqlite.proofs.Callers.{runs_as, statement_of}
use Rattle.sqlite_schema.specs.declared.program.Program.{Program}
use Rattle.sqlite_keyed.specs.Keyed.{insert_by}
use Rattle.sqlite_tied.proofs.RuleLemmas.{and_true}
use Rattle.sqlite_tied.specs.Compute.{everything}
use Rattle.sqlite_trees.specs.Tree.{put_row}
use Rattle.gate_schema.specs.Edits.{add_fast, drop_fast}
use Rattle.gate_schema.specs.Rows.{IsReady, Changes, IsKeyed, fast_table_row, fast_key}
use Rattle.gate_schema.specs.Schema.{gate_schema, item_fast_table_at}
use Rattle.gate_schema.proofs.ChangeLemmas.{keyed_put, keyed_without, keyed_numbered}
use Rattle.gate_schema.proofs.DeleteLemmas.{deleted_ids, leaves_others}
use Rattle.gate_schema.proofs.QueryLemmas.{over_table, passes}
use Rattle.gate_schema.proofs.RowLemmas.{cast_int, cast_null}
use Rattle.gate_schema.proofs.Statements.{Is, key_is, no_limit}
use Rattle.gate_schema.proofs.TableLemmas.{others_stay, with_fast}
use Rattle.gate_schema.proofs.ValueLemmas.{equal_numbers}
use Rattle.gate_schema.proofs.WriteLemmas.{inserts, deletes}

-- ---- a mark added

abbrev pub add_fast_sql : List ℕ
add_fast_sql = codes "INSERT INTO item_fast (serial) VALUES (?1)"

abbrev pub add_fast_terms : List Term
add_fast_terms = col 0 0 ∷ lit Null ∷ []

pub add_fast_is : Is add_fast_sql (Insert 11 (Values add_fast_terms 2))
unfolding understood everything
add_fast_is = (refl, (refl, refl))

pub adds_fast : (x : ℕ) (old new : State) (count : ℕ) → IsReady old → ExecutesInside 0 add_fast_sql (Int (pos x) ∷ []) old new (Ok count)
    → Changes old new (add_fast x)
adds_fast x old new count ready h =
    let params = Int (pos x) ∷ [] in
    let w = runs_as add_fast_sql params old new gate_schema ready.schema_is (Insert 11 (Values add_fast_terms 2)) add_fast_is.0 add_fast_is.1 count h.0 in
    let e = inserts gate_schema (λ _ _ _. refl) old new ready.schema_is 11 (item_fast_table_at 28) refl (statement_of add_fast_sql (understood gate_schema add_fast_sql)) params count refl (Values add_fast_terms 2) w in
    let rows : e.0 ≡ fast_table_row x ∷ [] = e.1.1 in
    let stored : cast_row (item_fast_table_at 28) (fast_table_row x) ≡ fast_table_row x = rw (cast_int, cast_null) in
    let left : new.now.trees 28 ≡ put_row (fast_table_row x) (old.now.trees 28) =
    e.2.applies.rows ∙ ap (λ rs. edited old.now.trees (edit_of old.now.trees (item_fast_table_at 28) [] Chosen 0 rs)) rows
    ∙ ap (λ r. put_row (with_rowid Chosen (old.now.trees 28) r) (old.now.trees 28)) stored in
    record {
      ready = record { schema_is = e.2.schema_is; inside = h.1.mode };
      named = λ b named. named;
      stands = λ b named stands. with_fast new.now.trees b _ (others_stay old new _ 28 b e.2 refl refl stands)
          (subst (λ rs. IsKeyed fast_key fast_table_row rs (insert_by (λ y. pos (fast_key y)) b.fast x)) (sym left) (keyed_put fast_key fast_table_row (λ x. refl) x (old.now.trees 28) b.fast stands.fast));
    }

-- ---- the mark under a serial taken out

abbrev pub drop_fast_sql : List ℕ
drop_fast_sql = codes "DELETE FROM item_fast WHERE serial = ?1"

abbrev pub drop_fast_query : Query
drop_fast_query = over_table 28 (key_is 0 ∷ []) (col 1 0 ∷ []) [] no_limit

pub drop_fast_is : Is drop_fast_sql (Delete 11 (record { lets = []; body = drop_fast_query }))
unfolding understood everything
drop_fast_is = (refl, (refl, refl))

pub drops_fast : (n : ℕ) (old new : State) (count : ℕ) → IsReady old → ExecutesInside 0 drop_fast_sql (Int (pos n) ∷ []) old new (Ok count)
    → Changes old new (drop_fast n)
drops_fast n old new count ready h =
    let params = Int (pos n) ∷ [] in
    let program : Program = record { lets = []; body = drop_fast_query } in
    let w = runs_as drop_fast_sql params old new gate_schema ready.schema_is (Delete 11 program) drop_fast_is.0 drop_fast_is.1 count h.0 in
    let e = deletes gate_schema (λ _ _ _. refl) old new ready.schema_is 11 (item_fast_table_at 28) refl (statement_of drop_fast_sql (understood gate_schema drop_fast_sql)) params count program w in
    let db = overlay old.now.trees [] in
    let test = passes (key_is 0 ∷ []) params in
    record {
      ready = record { schema_is = e.2.schema_is; inside = h.1.mode };
      named = λ b named. named;
      stands = λ b named stands.
          let left : new.now.trees 28 ≡ filter (λ r. not (test r)) (old.now.trees 28) =
          e.2.applies.rows ∙ leaves_others test (old.now.trees 28) _ (keyed_numbered fast_key fast_table_row (λ x. refl) (old.now.trees 28) b.fast stands.fast) (deleted_ids 28 (key_is 0 ∷ []) db params e.0 (e.1.answer Null)) in
          with_fast new.now.trees b _ (others_stay old new _ 28 b e.2 refl refl stands)
          (subst (λ rs. IsKeyed fast_key fast_table_row rs (filter (λ y. not (eqb (fast_key y) n)) b.fast)) (sym left)
          (keyed_without fast_key fast_table_row (λ x. refl) test (λ y. eqb (fast_key y) n) (λ y. rw equal_numbers (and_true (eqb (fast_key y) n))) (old.now.trees 28) b.fast stands.fast));
    }
