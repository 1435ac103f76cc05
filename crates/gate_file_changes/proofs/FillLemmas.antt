-- The first rows: what the statements that write them mean, and what they make of what the tables hold.
use Rattle.std.proofs.Common.{◌≡◌, ◌≢◌, eqb, ℕ, pos, List, [], ◌∷◌, ◌++◌, false, Ok, refl, sym, ap, subst, ◌∙◌, codes}
use Rattle.sqlite.specs.Order.{Row, value_cmp}
use Rattle.sqlite_tied.specs.Compute.{everything}
use Rattle.sqlite.specs.declared.types.Value.TheVariants.{Null, Int, Text as Words}
use Rattle.sqlite.specs.Schema.{Schema}
use Rattle.sqlite.specs.Cast.{cast_row}
use Rattle.sqlite.specs.Source.TheVariants.{Values}
use Rattle.sqlite.specs.Command.TheVariants.{Insert}
use Rattle.sqlite.specs.Edit.{edit_of, edited, numbered, put_all, with_rowid, next_rowid}
use Rattle.sqlite.specs.Rowids.TheVariants.{Chosen}
use Rattle.sqlite.specs.Listing.{understood}
use Rattle.sqlite.specs.State.{State, ExecutesInside}
use Rattle.sqlite.specs.Effect.{IsDatabase}
use Rattle.sqlite.specs.Term.{Term, lit, col}
use Rattle.sqlite_catalog.specs.Listing.{Lists}
use Rattle.sqlite_trees.specs.Objects.{catalog_tree}
use Rattle.sqlite_trees.specs.Tree.{put_row}
use Rattle.sqlite.proofs.Callers.{runs_as, statement_of}
use Rattle.gate_schema.specs.Rows.{IsReady, IsFixed, IsListed, IsKeyed, meta_columns, counter_columns, pair_of_words}
use Rattle.gate_schema.specs.Rows.{schema_version}
use Rattle.gate_schema.specs.Rows.{queue_columns, word_and_number, QueueRow, Stored, Stands}
use Rattle.gate_schema.specs.Schema.{gate_schema, meta_table_at, counter_table_at, queue_table_at}
use Rattle.gate_schema.proofs.RowLemmas.{cast_int, cast_null}
use Rattle.gate_schema.proofs.Statements.{Is}
use Rattle.gate_schema.proofs.TableLemmas.{apart, others_stay, with_queues, listed_next}
use Rattle.gate_schema.proofs.WriteLemmas.{inserts}
use Rattle.gate_file_changes.specs.Making.{IsBare, HasMeta, IsFilled, first_stored, with_queue}

-- ---- the statements

-- what writes the rows of `meta`
abbrev pub fill_meta_sql : List ℕ
fill_meta_sql = codes "INSERT INTO meta (k, v) VALUES ('format', 'gate'), ('schema', '2'), ('settings', ?1)"

-- its terms, row by row
abbrev pub fill_meta_terms : List Term
fill_meta_terms =
    lit Null ∷ lit (Words (codes "format")) ∷ lit (Words (codes "gate")) ∷ lit Null ∷ lit (Words (codes "schema")) ∷
    lit (Words (codes "2")) ∷ lit Null ∷ lit (Words (codes "settings")) ∷ col 0 0 ∷ []

-- it inserts three rows of them
pub fill_meta_is : Is fill_meta_sql (Insert 0 (Values fill_meta_terms 3))
unfolding understood everything
fill_meta_is = (refl, (refl, refl))

-- what writes the counters
abbrev pub fill_counter_sql : List ℕ
fill_counter_sql = codes "INSERT INTO counter (name, drawn) VALUES ('approval', 0), ('build', 0), ('order', 0)"

-- its terms, row by row
abbrev pub fill_counter_terms : List Term
fill_counter_terms =
    lit Null ∷ lit (Words (codes "approval")) ∷ lit (Int (pos 0)) ∷ lit Null ∷ lit (Words (codes "build")) ∷
    lit (Int (pos 0)) ∷ lit Null ∷ lit (Words (codes "order")) ∷ lit (Int (pos 0)) ∷ []

-- it inserts three rows of them
pub fill_counter_is : Is fill_counter_sql (Insert 1 (Values fill_counter_terms 3))
unfolding understood everything
fill_counter_is = (refl, (refl, refl))

-- what writes a queue's row
abbrev pub add_queue_sql : List ℕ
add_queue_sql = codes "INSERT INTO queue (name, place, win) VALUES (?1, ?2, ?3)"

-- its terms
abbrev pub add_queue_terms : List Term
add_queue_terms = lit Null ∷ col 0 0 ∷ col 0 1 ∷ col 0 2 ∷ []

-- it inserts one row of them
pub add_queue_is : Is add_queue_sql (Insert 2 (Values add_queue_terms 4))
unfolding understood everything
add_queue_is = (refl, (refl, refl))

-- ---- what they make

-- three rows in an empty table
three : (a b c : Row) → put_all [] (numbered Chosen [] ((Null ∷ a) ∷ (Null ∷ b) ∷ (Null ∷ c) ∷ [])) ≡ (Int (pos 1) ∷ a) ∷ (Int (pos 2) ∷ b) ∷ (Int (pos 3) ∷ c) ∷ []
unfolding value_cmp everything lib.Ieee.is_nan lib.Ieee.lt
three a b c = refl

-- and they are numbered
three_fixed : (a b c : Row) → IsFixed (a ∷ b ∷ c ∷ []) ((Int (pos 1) ∷ a) ∷ (Int (pos 2) ∷ b) ∷ (Int (pos 3) ∷ c) ∷ [])
unfolding value_cmp everything lib.Ieee.is_nan lib.Ieee.lt
three_fixed a b c = record { columns_are = refl; numbered = (((refl, (refl, tt)), ((refl, tt), (tt, tt))), (refl, (refl, (refl, tt)))) }

-- a sound database lists its schema
pub sound_lists : (schema : Schema) (s : State) → s.now.schema ≡ schema → IsDatabase s.now → Lists (s.now.trees catalog_tree) schema
sound_lists schema s is sound = subst (λ x. Lists (s.now.trees catalog_tree) x) is sound.lists

-- The rows of `meta` are written.
pub fills_meta : (settings : List ℕ) (old new : State) (count : ℕ) → IsBare gate_schema old → ExecutesInside 0 fill_meta_sql (Words settings ∷ []) old new (Ok count) → HasMeta settings new
fills_meta settings old new count bare h =
    let params = Words settings ∷ [] in
    let w = runs_as fill_meta_sql params old new gate_schema bare.schema_is (Insert 0 (Values fill_meta_terms 3)) fill_meta_is.0 fill_meta_is.1 count h.0 in
    let e = inserts gate_schema (λ _ _ _. refl) old new bare.schema_is 0 (meta_table_at 0) refl (statement_of fill_meta_sql (understood gate_schema fill_meta_sql)) params count refl (Values fill_meta_terms 3) w in
    let a = pair_of_words (codes "format") (codes "gate") in
    let b = pair_of_words (codes "schema") schema_version in
    let c = pair_of_words (codes "settings") settings in
    let rows : e.0 ≡ (Null ∷ a) ∷ (Null ∷ b) ∷ (Null ∷ c) ∷ [] = e.1.1 in
    let stored : (k v : List ℕ) → cast_row (meta_table_at 0) (Null ∷ Words k ∷ Words v ∷ []) ≡ Null ∷ Words k ∷ Words v ∷ [] = λ k v. rw cast_null in
    let left : new.now.trees 0 ≡ (Int (pos 1) ∷ a) ∷ (Int (pos 2) ∷ b) ∷ (Int (pos 3) ∷ c) ∷ [] =
    e.2.applies.rows ∙ ap (λ rs. edited old.now.trees (edit_of old.now.trees (meta_table_at 0) [] Chosen 0 rs)) rows
    ∙ ap (λ db. put_all db (numbered Chosen db (cast_row (meta_table_at 0) (Null ∷ a) ∷ cast_row (meta_table_at 0) (Null ∷ b) ∷ cast_row (meta_table_at 0) (Null ∷ c) ∷ []))) bare.empty.0
    ∙ ap (λ r. put_all [] (numbered Chosen [] (r ∷ cast_row (meta_table_at 0) (Null ∷ b) ∷ cast_row (meta_table_at 0) (Null ∷ c) ∷ []))) (stored (codes "format") (codes "gate"))
    ∙ ap (λ r. put_all [] (numbered Chosen [] ((Null ∷ a) ∷ r ∷ cast_row (meta_table_at 0) (Null ∷ c) ∷ []))) (stored (codes "schema") schema_version)
    ∙ ap (λ r. put_all [] (numbered Chosen [] ((Null ∷ a) ∷ (Null ∷ b) ∷ r ∷ []))) (stored (codes "settings") settings)
    ∙ three a b c in
    let t = e.2.applies.tables in
    let still : (n : ℕ) → (n ≢ 0 → new.now.trees n ≡ old.now.trees n) → eqb n 0 ≡ false → old.now.trees n ≡ [] → new.now.trees n ≡ [] = λ n same far was. same (apart n 0 far) ∙ was in
    record {
      ready = record { schema_is = e.2.schema_is; inside = h.1.mode };
      listed = sound_lists gate_schema new e.2.schema_is w.sound;
      meta = subst (IsFixed (meta_columns settings)) (sym left) (three_fixed a b c);
      empty = (
        still 2 t.1.0 refl bare.empty.1.0,
        (
          still 4 t.1.1.0 refl bare.empty.1.1.0,
          (
            still 7 t.1.1.1.0 refl bare.empty.1.1.1.0,
            (
              still 9 t.1.1.1.1.0 refl bare.empty.1.1.1.1.0,
              (
                still 11 t.1.1.1.1.1.0 refl bare.empty.1.1.1.1.1.0,
                (still 13 t.1.1.1.1.1.1.0 refl bare.empty.1.1.1.1.1.1.0, (still 14 t.1.1.1.1.1.1.1.0 refl bare.empty.1.1.1.1.1.1.1.0, (still 18 t.1.1.1.1.1.1.1.1.0 refl bare.empty.1.1.1.1.1.1.1.1.0, (still 21 t.1.1.1.1.1.1.1.1.1.0 refl bare.empty.1.1.1.1.1.1.1.1.1.0, (still 26 t.1.1.1.1.1.1.1.1.1.1.0 refl bare.empty.1.1.1.1.1.1.1.1.1.1.0, (still 28 t.1.1.1.1.1.1.1.1.1.1.1.0 refl bare.empty.1.1.1.1.1.1.1.1.1.1.1.0, tt)))))),
              ),
            ),
          ),
        ),
      );
    }

-- a table with no row
pub none_listed : {X : Type 0} (columns : X → Row) (rs : List Row) → rs ≡ [] → IsListed columns rs []
none_listed columns rs none = subst (λ l. IsListed columns l []) (sym none) (record { columns_are = refl; numbered = (tt, tt) })

-- the same, by a key
pub none_keyed : {X : Type 0} (key : X → ℕ) (row : X → Row) (rs : List Row) → rs ≡ [] → IsKeyed key row rs []
none_keyed key row rs none = record { rows_are = none; in_order = tt }

-- The counters are written: the file of a gate with no queue.
pub fills_counter : (settings : List ℕ) (old new : State) (count : ℕ) → HasMeta settings old → ExecutesInside 0 fill_counter_sql [] old new (Ok count) → IsFilled (first_stored settings []) new
fills_counter settings old new count had h =
    let w = runs_as fill_counter_sql [] old new gate_schema had.ready.schema_is (Insert 1 (Values fill_counter_terms 3)) fill_counter_is.0 fill_counter_is.1 count h.0 in
    let e = inserts gate_schema (λ _ _ _. refl) old new had.ready.schema_is 1 (counter_table_at 2) refl (statement_of fill_counter_sql (understood gate_schema fill_counter_sql)) [] count refl (Values fill_counter_terms 3) w in
    let row = λ (k : List ℕ). word_and_number k 0 in
    let a : Row = row (codes "approval") in
    let b : Row = row (codes "build") in
    let c : Row = row (codes "order") in
    let rows : e.0 ≡ (Null ∷ a) ∷ (Null ∷ b) ∷ (Null ∷ c) ∷ [] = e.1.1 in
    let stored : (k : List ℕ) → cast_row (counter_table_at 2) (Null ∷ row k) ≡ Null ∷ row k = λ k. rw (cast_null, cast_int) in
    let left : new.now.trees 2 ≡ (Int (pos 1) ∷ a) ∷ (Int (pos 2) ∷ b) ∷ (Int (pos 3) ∷ c) ∷ [] =
    e.2.applies.rows ∙ ap (λ rs. edited old.now.trees (edit_of old.now.trees (counter_table_at 2) [] Chosen 0 rs)) rows
    ∙ ap (λ db. put_all db (numbered Chosen db (cast_row (counter_table_at 2) (Null ∷ a) ∷ cast_row (counter_table_at 2) (Null ∷ b) ∷ cast_row (counter_table_at 2) (Null ∷ c) ∷ []))) had.empty.0
    ∙ ap (λ r. put_all [] (numbered Chosen [] (r ∷ cast_row (counter_table_at 2) (Null ∷ b) ∷ cast_row (counter_table_at 2) (Null ∷ c) ∷ []))) (stored (codes "approval"))
    ∙ ap (λ r. put_all [] (numbered Chosen [] ((Null ∷ a) ∷ r ∷ cast_row (counter_table_at 2) (Null ∷ c) ∷ []))) (stored (codes "build"))
    ∙ ap (λ r. put_all [] (numbered Chosen [] ((Null ∷ a) ∷ (Null ∷ b) ∷ r ∷ []))) (stored (codes "order"))
    ∙ three a b c in
    let t = e.2.applies.tables in
    let still : (n : ℕ) → (n ≢ 2 → new.now.trees n ≡ old.now.trees n) → eqb n 2 ≡ false → old.now.trees n ≡ [] → new.now.trees n ≡ [] = λ n same far was. same (apart n 2 far) ∙ was in
    let x = had.empty in
    record {
      ready = record { schema_is = e.2.schema_is; inside = h.1.mode };
      stands = record {
        listed = sound_lists gate_schema new e.2.schema_is w.sound;
        meta = subst (IsFixed (meta_columns settings)) (sym (t.0 (apart 0 2 refl))) had.meta;
        counter = subst (IsFixed (counter_columns (record { approval = 0; build = 0; order = 0 }))) (sym left) (three_fixed a b c);
        queue = none_listed _ _ (still 4 t.1.1.0 refl x.1.0);
        change = none_keyed _ _ _ (still 7 t.1.1.1.0 refl x.1.1.0);
        need = none_listed _ _ (still 9 t.1.1.1.1.0 refl x.1.1.1.0);
        item = none_keyed _ _ _ (still 11 t.1.1.1.1.1.0 refl x.1.1.1.1.0);
        build = none_keyed _ _ _ (still 13 t.1.1.1.1.1.1.0 refl x.1.1.1.1.1.0);
        landing = none_listed _ _ (still 14 t.1.1.1.1.1.1.1.0 refl x.1.1.1.1.1.1.0);
        report = none_listed _ _ (still 18 t.1.1.1.1.1.1.1.1.0 refl x.1.1.1.1.1.1.1.0);
        delivery = none_listed _ _ (still 21 t.1.1.1.1.1.1.1.1.1.0 refl x.1.1.1.1.1.1.1.1.0);
        job = none_listed _ _ (still 26 t.1.1.1.1.1.1.1.1.1.1.0 refl x.1.1.1.1.1.1.1.1.1.0);
        fast = none_keyed _ _ _ (still 28 t.1.1.1.1.1.1.1.1.1.1.1.0 refl x.1.1.1.1.1.1.1.1.1.1.0);
      };
    }

-- The row of a queue is added at the end.
pub adds_queue : (q : QueueRow) (old new : State) (count : ℕ) → IsReady old → ExecutesInside 0 add_queue_sql (queue_columns q) old new (Ok count) → IsReady new × ((b : Stored) → Stands old.now.trees b → Stands new.now.trees (with_queue q b))
adds_queue q old new count ready h =
    let params = queue_columns q in
    let w = runs_as add_queue_sql params old new gate_schema ready.schema_is (Insert 2 (Values add_queue_terms 4)) add_queue_is.0 add_queue_is.1 count h.0 in
    let e = inserts gate_schema (λ _ _ _. refl) old new ready.schema_is 2 (queue_table_at 4) refl (statement_of add_queue_sql (understood gate_schema add_queue_sql)) params count refl (Values add_queue_terms 4) w in
    let rows : e.0 ≡ (Null ∷ queue_columns q) ∷ [] = e.1.1 in
    let stored : cast_row (queue_table_at 4) (Null ∷ queue_columns q) ≡ Null ∷ queue_columns q = rw (cast_null, cast_int, cast_int) in
    let left : new.now.trees 4 ≡ put_row (Int (next_rowid (old.now.trees 4)) ∷ queue_columns q) (old.now.trees 4) =
    e.2.applies.rows ∙ ap (λ rs. edited old.now.trees (edit_of old.now.trees (queue_table_at 4) [] Chosen 0 rs)) rows
    ∙ ap (λ r. put_row (with_rowid Chosen (old.now.trees 4) r) (old.now.trees 4)) stored in (
      record { schema_is = e.2.schema_is; inside = h.1.mode },
      λ b stands. with_queues new.now.trees b (b.queues ++ q ∷ []) (others_stay old new _ 4 b e.2 refl refl stands)
          (subst (λ rs. IsListed queue_columns rs (b.queues ++ q ∷ [])) (sym left) (listed_next queue_columns (old.now.trees 4) b.queues q stands.queue)),
    )
