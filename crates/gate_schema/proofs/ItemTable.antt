-- The items: what each statement on them means, and what it makes of what the tables hold.
use Rattle.std.proofs.Common.{◌≡◌, ◌≤◌, ℕ, pos, List, [], ◌∷◌, map, filter, length, Bool, true, not, ◌&&◌, Ok, codes}
use Rattle.std.proofs.Common.{refl, sym, ap, subst, ◌∙◌, arith, eqb, ltb}
use Rattle.std.proofs.lemmas.Bool.{and_parts}
use Rattle.std.proofs.lemmas.Bool.Decides.{nat_tests}
use Rattle.std.proofs.lemmas.List.{length-map}
use Rattle.std.proofs.lemmas.Slice.Eq.{bytes_eq-Decides}
use Rattle.std.specs.Prelude.{bytes_eq}
use Rattle.sqlite.specs.Cast.{cast_row}
use Rattle.sqlite.specs.Command.TheVariants.{Insert, Delete, Update}
use Rattle.sqlite.specs.Edit.{edit_of, edited, with_rowid}
use Rattle.sqlite.specs.Listing.{understood}
use Rattle.sqlite.specs.Order.{Row}
use Rattle.sqlite.specs.Program.{overlay}
use Rattle.sqlite.specs.Query.{Query}
use Rattle.sqlite.specs.Rowids.TheVariants.{Chosen}
use Rattle.sqlite.specs.Source.TheVariants.{Values}
use Rattle.sqlite.specs.State.{State, ExecutesInside}
use Rattle.sqlite.specs.Term.{Term, lit, col}
use Rattle.sqlite.specs.Tree.{Trees}
use Rattle.sqlite.specs.declared.types.Value.TheVariants.{Null, Int, Text as Words}
use Rattle.sqlite.proofs.Callers.{runs_as, statement_of}
use Rattle.sqlite_schema.specs.declared.program.Program.{Program}
use Rattle.sqlite_keyed.specs.Keyed.{IsKeyedBy, insert_by}
use Rattle.sqlite_tied.proofs.RuleLemmas.{and_true}
use Rattle.sqlite_tied.specs.Compute.{everything}
use Rattle.sqlite_trees.specs.Tree.{put_row}
use Rattle.gate_schema.specs.Edits.{add_item, drop_item, insert_if, set_item}
use Rattle.gate_schema.specs.Rows.{ItemRow, IsReady, Changes, IsKeyed, Stands, Stored, bit, number_or_null}
use Rattle.gate_schema.specs.Rows.{item_table_row}
use Rattle.gate_schema.specs.Rows.{item_key}
use Rattle.gate_schema.specs.Schema.{gate_schema, item_table_at}
use Rattle.gate_schema.proofs.ChangeLemmas.{keyed_found, keyed_put, keyed_set, keyed_without, keyed_numbered, one_keyed}
use Rattle.gate_schema.proofs.DeleteLemmas.{deleted_ids, leaves_others}
use Rattle.gate_schema.proofs.QueryLemmas.{over_table, passes, shows_few}
use Rattle.gate_schema.proofs.RowLemmas.{cast_int, cast_null, cast_or_null, out, renewed, written_update}
use Rattle.gate_schema.proofs.Statements.{Is, key_is, second_is, no_limit}
use Rattle.gate_schema.proofs.TableLemmas.{others_stay, with_items}
use Rattle.gate_schema.proofs.ValueLemmas.{equal_numbers, equal_texts}
use Rattle.gate_schema.proofs.WriteLemmas.{inserts, deletes, updates}

-- ---- an item added

abbrev pub add_item_sql : List ℕ
add_item_sql = codes "INSERT INTO item (serial, queue, change, revision, ahead, failing) VALUES (?1, ?2, ?3, ?4, ?5, ?6)"

abbrev pub add_item_terms : List Term
add_item_terms = col 0 0 ∷ lit Null ∷ col 0 1 ∷ col 0 2 ∷ col 0 3 ∷ col 0 4 ∷ col 0 5 ∷ []

pub add_item_is : Is add_item_sql (Insert 5 (Values add_item_terms 7))
unfolding understood everything
add_item_is = (refl, (refl, refl))

abbrev pub item_params : ItemRow → Row
item_params x = Int (pos x.item.serial) ∷ Words x.queue ∷ Int (pos x.item.change) ∷ Int (pos x.item.revision) ∷ number_or_null x.item.ahead ∷ Int (pos (bit x.item.failing)) ∷ []

pub adds_item : (x : ItemRow) (old new : State) (count : ℕ) → IsReady old → ExecutesInside 0 add_item_sql (item_params x) old new (Ok count)
    → Changes old new (add_item x)
adds_item x old new count ready h =
    let params = item_params x in
    let w = runs_as add_item_sql params old new gate_schema ready.schema_is (Insert 5 (Values add_item_terms 7)) add_item_is.0 add_item_is.1 count h.0 in
    let e = inserts gate_schema (λ _ _ _. refl) old new ready.schema_is 5 (item_table_at 11) refl (statement_of add_item_sql (understood gate_schema add_item_sql)) params count refl (Values add_item_terms 7) w in
    let rows : e.0 ≡ item_table_row x ∷ [] = e.1.1 in
    let stored : cast_row (item_table_at 11) (item_table_row x) ≡ item_table_row x = rw (cast_int, cast_null, cast_int, cast_int, cast_or_null, cast_int) in
    let left : new.now.trees 11 ≡ put_row (item_table_row x) (old.now.trees 11) =
    e.2.applies.rows ∙ ap (λ rs. edited old.now.trees (edit_of old.now.trees (item_table_at 11) [] Chosen 0 rs)) rows
    ∙ ap (λ r. put_row (with_rowid Chosen (old.now.trees 11) r) (old.now.trees 11)) stored in
    record {
      ready = record { schema_is = e.2.schema_is; inside = h.1.mode };
      named = λ b named. named;
      stands = λ b named stands. with_items new.now.trees b _ (others_stay old new _ 11 b e.2 refl refl stands)
          (subst (λ rs. IsKeyed item_key item_table_row rs (insert_by (λ y. pos (item_key y)) b.items x)) (sym left) (keyed_put item_key item_table_row (λ x. refl) x (old.now.trees 11) b.items stands.item));
    }

-- ---- the item of a serial taken out

abbrev pub drop_item_sql : List ℕ
drop_item_sql = codes "DELETE FROM item WHERE serial = ?1"

abbrev pub drop_item_query : Query
drop_item_query = over_table 11 (key_is 0 ∷ []) (col 1 0 ∷ []) [] no_limit

pub drop_item_is : Is drop_item_sql (Delete 5 (record { lets = []; body = drop_item_query }))
unfolding understood everything
drop_item_is = (refl, (refl, refl))

pub drops_item : (n : ℕ) (old new : State) (count : ℕ) → IsReady old → ExecutesInside 0 drop_item_sql (Int (pos n) ∷ []) old new (Ok count)
    → Changes old new (drop_item n)
drops_item n old new count ready h =
    let params = Int (pos n) ∷ [] in
    let program : Program = record { lets = []; body = drop_item_query } in
    let w = runs_as drop_item_sql params old new gate_schema ready.schema_is (Delete 5 program) drop_item_is.0 drop_item_is.1 count h.0 in
    let e = deletes gate_schema (λ _ _ _. refl) old new ready.schema_is 5 (item_table_at 11) refl (statement_of drop_item_sql (understood gate_schema drop_item_sql)) params count program w in
    let db = overlay old.now.trees [] in
    let test = passes (key_is 0 ∷ []) params in
    record {
      ready = record { schema_is = e.2.schema_is; inside = h.1.mode };
      named = λ b named. named;
      stands = λ b named stands.
          let left : new.now.trees 11 ≡ filter (λ r. not (test r)) (old.now.trees 11) =
          e.2.applies.rows ∙ leaves_others test (old.now.trees 11) _ (keyed_numbered item_key item_table_row (λ x. refl) (old.now.trees 11) b.items stands.item) (deleted_ids 11 (key_is 0 ∷ []) db params e.0 (e.1.answer Null)) in
          with_items new.now.trees b _ (others_stay old new _ 11 b e.2 refl refl stands)
          (subst (λ rs. IsKeyed item_key item_table_row rs (filter (λ y. not (eqb (item_key y) n)) b.items)) (sym left)
          (keyed_without item_key item_table_row (λ x. refl) test (λ y. eqb (item_key y) n) (λ y. rw equal_numbers (and_true (eqb (item_key y) n))) (old.now.trees 11) b.items stands.item));
    }

-- ---- an item set in place of the one of its serial in its queue

abbrev pub set_item_sql : List ℕ
set_item_sql = codes "UPDATE item SET change = ?3, revision = ?4, ahead = ?5, failing = ?6 WHERE serial = ?1 AND queue = ?2"

abbrev pub set_item_terms : List Term
set_item_terms = col 1 0 ∷ lit Null ∷ col 1 2 ∷ col 0 2 ∷ col 0 3 ∷ col 0 4 ∷ col 0 5 ∷ []

abbrev pub set_item_query : Query
set_item_query = over_table 11 (key_is 0 ∷ second_is 2 ∷ []) (col 1 0 ∷ set_item_terms) [] no_limit

pub set_item_is : Is set_item_sql (Update 5 (record { lets = []; body = set_item_query }))
unfolding understood everything
set_item_is = (refl, (refl, refl))

-- the items that it finds
abbrev pub is_of : ItemRow → ItemRow → Bool
is_of x y = eqb (item_key y) (item_key x) && bytes_eq y.queue x.queue

is_of_row : (x y : ItemRow) → passes (key_is 0 ∷ second_is 2 ∷ []) (item_params x) (item_table_row y) ≡ is_of x y
is_of_row x y = rw (equal_numbers, equal_texts, and_true (bytes_eq y.queue x.queue))

one_of : (x : ItemRow) (items : List ItemRow) → IsKeyedBy (λ y. pos (item_key y)) items → length (filter (is_of x) items) ≤ 1
one_of x = one_keyed item_key item_table_row (λ y. refl) (item_key x) (is_of x) (λ y here. (and_parts _ _ here).0)

set_row : (x y : ItemRow) (trees : Trees) → is_of x y ≡ true → renewed (item_table_at 11) set_item_terms (item_params x) trees (item_table_row y) ≡ item_table_row x
set_row x y trees here =
    let parts : (eqb (item_key y) (item_key x) ≡ true) × (bytes_eq y.queue x.queue ≡ true) = and_parts _ _ here in
    let first : eqb (item_key y) (item_key x) ≡ true = parts.0 in
    let key : item_key y ≡ item_key x = grind (arith, nat_tests) in
    let queue : y.queue ≡ x.queue = (bytes_eq-Decides y.queue x.queue).0 parts.1 in
    rw (cast_int, cast_null, cast_int, cast_int, cast_or_null, cast_int, key, queue)

-- It counts the item, if there is one.
pub sets_item : (x : ItemRow) (old new : State) (count : ℕ) → IsReady old → ExecutesInside 0 set_item_sql (item_params x) old new (Ok count)
    → Changes old new (set_item (ltb 0 count) x) × ((b : Stored) → Stands old.now.trees b → count ≡ length (filter (is_of x) b.items))
sets_item x old new count ready h =
    let params = item_params x in
    let program : Program = record { lets = []; body = set_item_query } in
    let w = runs_as set_item_sql params old new gate_schema ready.schema_is (Update 5 program) set_item_is.0 set_item_is.1 count h.0 in
    let e = updates gate_schema (λ _ _ _. refl) old new ready.schema_is 5 (item_table_at 11) refl (statement_of set_item_sql (understood gate_schema set_item_sql)) params count program w in
    let db = overlay old.now.trees [] in
    let test = passes (key_is 0 ∷ second_is 2 ∷ []) params in
    let found : (b : Stored) → Stands old.now.trees b → filter test (old.now.trees 11) ≡ map item_table_row (filter (is_of x) b.items) =
    λ b stands. keyed_found item_key item_table_row (λ y. refl) test (is_of x) (is_of_row x) (old.now.trees 11) b.items stands.item in
    let short : (b : Stored) → Stands old.now.trees b → length (filter test (old.now.trees 11)) ≤ 1 =
    λ b stands. rw (found b stands) (simp length-map (one_of x b.items stands.item.in_order)) in
    let rows : (b : Stored) → Stands old.now.trees b → e.0 ≡ map (out (item_table_at 11) set_item_terms params old.now.trees) (filter test (old.now.trees 11)) =
    λ b stands. shows_few 11 (key_is 0 ∷ second_is 2 ∷ []) (col 1 0 ∷ set_item_terms) [] no_limit db params e.0 (short b stands) (e.1.answer Null) in
    let counted : (b : Stored) → Stands old.now.trees b → count ≡ length (filter (is_of x) b.items) =
    λ b stands. e.3 ∙ ap length (rows b stands) ∙ length-map _ _ ∙ ap length (found b stands) ∙ length-map _ _ in (
      record {
        ready = record { schema_is = e.2.schema_is; inside = h.1.mode };
        named = λ b named. named;
        stands = λ b named stands.
            let left = e.2.applies.rows ∙ written_update (item_table_at 11) set_item_terms params old.now.trees e.0 _ (rows b stands) (short b stands) in
            with_items new.now.trees b _ (others_stay old new _ 11 b e.2 refl refl stands)
            (subst (λ rs. IsKeyed item_key item_table_row rs (insert_if (ltb 0 count) item_key (filter (λ y. not (is_of x y)) b.items) x)) (sym left)
            (rw (counted b stands) (keyed_set item_key item_table_row (λ y. refl) test (renewed (item_table_at 11) set_item_terms params old.now.trees) (is_of x) x (is_of_row x) (λ y. set_row x y old.now.trees) (old.now.trees 11) b.items stands.item (one_of x b.items stands.item.in_order))));
      },
      counted,
    )
