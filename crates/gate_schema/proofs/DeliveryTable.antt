-- The kept deliveries: what the statement that adds one means, and what it makes of what the tables hold.
use Rattle.std.proofs.Common.{◌≡◌, ℕ, List, [], ◌∷◌, ◌++◌, Ok, codes, refl, sym, ap, subst, ◌∙◌}
use Rattle.sqlite.specs.Cast.{cast_row}
use Rattle.sqlite.specs.Command.TheVariants.{Insert}
use Rattle.sqlite.specs.Edit.{edit_of, edited, with_rowid, next_rowid}
use Rattle.sqlite.specs.Listing.{understood}
use Rattle.sqlite.specs.Rowids.TheVariants.{Chosen}
use Rattle.sqlite.specs.Source.TheVariants.{Values}
use Rattle.sqlite.specs.State.{State, ExecutesInside}
use Rattle.sqlite.specs.Term.{Term, lit, col}
use Rattle.sqlite.specs.declared.types.Value.TheVariants.{Null, Int}
use Rattle.sqlite.proofs.Callers.{runs_as, statement_of}
use Rattle.sqlite_tied.specs.Compute.{everything}
use Rattle.sqlite_trees.specs.Tree.{put_row}
use Rattle.gate_schema.specs.Edits.{add_kept}
use Rattle.gate_schema.specs.Rows.{IsReady, Changes, IsListed, kept_columns}
use Rattle.gate_schema.specs.Schema.{gate_schema, delivery_table_at}
use Rattle.gate_schema.proofs.RowLemmas.{cast_null}
use Rattle.gate_schema.proofs.Statements.{Is}
use Rattle.gate_schema.proofs.TableLemmas.{others_stay, with_kept, listed_next}
use Rattle.gate_schema.proofs.WriteLemmas.{inserts}
use Rattle.gate_types.specs.declared.records.Kept.{Kept}

-- ---- a delivery added

abbrev pub add_kept_sql : List ℕ
add_kept_sql = codes "INSERT INTO delivery (id, said, reply) VALUES (?1, ?2, ?3)"

abbrev pub add_kept_terms : List Term
add_kept_terms = lit Null ∷ col 0 0 ∷ col 0 1 ∷ col 0 2 ∷ []

pub add_kept_is : Is add_kept_sql (Insert 9 (Values add_kept_terms 4))
unfolding understood everything
add_kept_is = (refl, (refl, refl))

pub adds_kept : (x : Kept) (old new : State) (count : ℕ) → IsReady old → ExecutesInside 0 add_kept_sql (kept_columns x) old new (Ok count)
    → Changes old new (add_kept x)
adds_kept x old new count ready h =
    let params = kept_columns x in
    let w = runs_as add_kept_sql params old new gate_schema ready.schema_is (Insert 9 (Values add_kept_terms 4)) add_kept_is.0 add_kept_is.1 count h.0 in
    let e = inserts gate_schema (λ _ _ _. refl) old new ready.schema_is 9 (delivery_table_at 21) refl (statement_of add_kept_sql (understood gate_schema add_kept_sql)) params count refl (Values add_kept_terms 4) w in
    let rows : e.0 ≡ (Null ∷ kept_columns x) ∷ [] = e.1.1 in
    let stored : cast_row (delivery_table_at 21) (Null ∷ kept_columns x) ≡ Null ∷ kept_columns x = rw (cast_null) in
    let left : new.now.trees 21 ≡ put_row (Int (next_rowid (old.now.trees 21)) ∷ kept_columns x) (old.now.trees 21) =
    e.2.applies.rows ∙ ap (λ rs. edited old.now.trees (edit_of old.now.trees (delivery_table_at 21) [] Chosen 0 rs)) rows
    ∙ ap (λ r. put_row (with_rowid Chosen (old.now.trees 21) r) (old.now.trees 21)) stored in
    record {
      ready = record { schema_is = e.2.schema_is; inside = h.1.mode };
      named = λ b named. named;
      stands = λ b named stands. with_kept new.now.trees b (b.kept ++ x ∷ []) (others_stay old new _ 21 b e.2 refl refl stands)
          (subst (λ rs. IsListed kept_columns rs (b.kept ++ x ∷ [])) (sym left) (listed_next kept_columns (old.now.trees 21) b.kept x stands.delivery));
    }
