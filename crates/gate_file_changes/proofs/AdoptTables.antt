-- Other settings: what the statements that write them mean, and what they make of what the tables hold.
use Rattle.std.proofs.Common.{◌≡◌, ◌≤◌, ℕ, List, [], ◌∷◌, map, drop, filter, length, Ok, not, codes, refl, sym, ap}
use Rattle.std.proofs.Common.{subst, ◌∙◌, arith}
use Rattle.std.specs.Prelude.{bytes_eq}
use Rattle.sqlite.specs.Command.TheVariants.{Delete, Update}
use Rattle.sqlite.specs.Listing.{understood}
use Rattle.sqlite.specs.Order.{Row}
use Rattle.sqlite.specs.Program.{overlay}
use Rattle.sqlite.specs.Query.{Query}
use Rattle.sqlite.specs.State.{State, ExecutesInside}
use Rattle.sqlite.specs.Term.{Term, col}
use Rattle.sqlite.specs.Tree.{Trees}
use Rattle.sqlite.specs.declared.types.Value.TheVariants.{Null, Text as Words}
use Rattle.sqlite.proofs.Callers.{runs_as, statement_of}
use Rattle.sqlite_schema.specs.declared.program.Program.{Program}
use Rattle.sqlite_tied.proofs.RuleLemmas.{and_true}
use Rattle.sqlite_tied.specs.Compute.{everything}
use Rattle.sqlite_trees.specs.Tree.{rowid}
use Rattle.gate_schema.specs.Rows.{IsFixed, IsReady, Stands, Stored, meta_columns, pair_of_words, queue_columns}
use Rattle.gate_schema.specs.Rows.{schema_version}
use Rattle.gate_schema.specs.Schema.{gate_schema, meta_table_at, queue_table_at}
use Rattle.gate_schema.proofs.ChangeLemmas.{changed, listed_changed, numbered_changed, updated_rows}
use Rattle.gate_schema.proofs.DeleteLemmas.{deleted_ids, leaves_others}
use Rattle.gate_schema.proofs.QueryLemmas.{over_table, passes, shows_few}
use Rattle.gate_schema.proofs.RowLemmas.{int_cast, told_behind, few_found, out, renewed, written_update}
use Rattle.gate_schema.proofs.Statements.{Is, key_is, no_limit}
use Rattle.gate_schema.proofs.TableLemmas.{Others, others_stay, with_queues}
use Rattle.gate_schema.proofs.ValueLemmas.{equal_texts}
use Rattle.gate_schema.proofs.WriteLemmas.{deletes, updates}
use Rattle.gate_file_changes.specs.Adopts.{with_settings}
use Rattle.gate_file_changes.specs.Making.{with_rows}
use Rattle.gate_file_changes.proofs.FillLemmas.{none_listed}

-- ---- the queues taken out

abbrev pub drop_queues_sql : List ℕ
drop_queues_sql = codes "DELETE FROM queue"

abbrev pub drop_queues_query : Query
drop_queues_query = over_table 4 [] (col 1 0 ∷ []) [] no_limit

pub drop_queues_is : Is drop_queues_sql (Delete 2 (record { lets = []; body = drop_queues_query }))
unfolding understood everything
drop_queues_is = (refl, (refl, refl))

-- each row is taken out
none_left : (rows : List Row) → filter (λ r. not (passes [] [] r)) rows ≡ []
none_left [] = refl
none_left (r ∷ rows) = none_left rows

pub drops_queues : (old new : State) (count : ℕ) → IsReady old → ExecutesInside 0 drop_queues_sql [] old new (Ok count) → IsReady new × ((b : Stored) → Stands old.now.trees b → Stands new.now.trees (with_rows [] b))
drops_queues old new count ready h =
    let program : Program = record { lets = []; body = drop_queues_query } in
    let w = runs_as drop_queues_sql [] old new gate_schema ready.schema_is (Delete 2 program) drop_queues_is.0 drop_queues_is.1 count h.0 in
    let e = deletes gate_schema (λ _ _ _. refl) old new ready.schema_is 2 (queue_table_at 4) refl (statement_of drop_queues_sql (understood gate_schema drop_queues_sql)) [] count program w in
    let db = overlay old.now.trees [] in
    let test = passes [] [] in (
      record { schema_is = e.2.schema_is; inside = h.1.mode },
      λ b stands.
          let left : new.now.trees 4 ≡ filter (λ r. not (test r)) (old.now.trees 4) =
          e.2.applies.rows ∙ leaves_others test (old.now.trees 4) _ stands.queue.numbered (deleted_ids 4 [] db [] e.0 (e.1.answer Null)) in
          with_queues new.now.trees b [] (others_stay old new _ 4 b e.2 refl refl stands) (none_listed queue_columns _ (left ∙ none_left (old.now.trees 4))),
    )

-- ---- the settings' text

abbrev pub set_settings_sql : List ℕ
set_settings_sql = codes "UPDATE meta SET v = ?2 WHERE k = ?1"

abbrev pub set_settings_terms : List Term
set_settings_terms = col 1 0 ∷ col 1 1 ∷ col 0 1 ∷ []

abbrev pub set_settings_query : Query
set_settings_query = over_table 0 (key_is 1 ∷ []) (col 1 0 ∷ set_settings_terms) [] no_limit

pub set_settings_is : Is set_settings_sql (Update 0 (record { lets = []; body = set_settings_query }))
unfolding understood everything
set_settings_is = (refl, (refl, refl))

-- the table of another text, beside the others
with_text : (db : Trees) (b : Stored) (text : List ℕ) → Others 0 db b → IsFixed (meta_columns text) (db 0) → Stands db (with_settings text b)
with_text db b text o h = record { listed = o.listed; meta = h; counter = o.counter refl; queue = o.queue refl; change = o.change refl; need = o.need refl; item = o.item refl; build = o.build refl; landing = o.landing refl; report = o.report refl; delivery = o.delivery refl; job = o.job refl; fast = o.fast refl }

-- a key and its value, as a row of `meta`
abbrev pub pair_columns : List ℕ × List ℕ → Row
pair_columns p = pair_of_words p.0 p.1

-- each key of `meta` and its value, of this version of the tables
abbrev pub meta_pairs : List ℕ → List ℕ → List (List ℕ × List ℕ)
meta_pairs version text = (codes "format", codes "gate") ∷ (codes "schema", version) ∷ (codes "settings", text) ∷ []

abbrev key : List ℕ
key = codes "settings"

made_text : (text : List ℕ) (x : List ℕ × List ℕ) (db : Trees) (v : Row) → drop 1 v ≡ pair_columns x
    → drop 1 (renewed (meta_table_at 0) set_settings_terms (Words key ∷ Words text ∷ []) db v) ≡ pair_columns (x.0, text)
made_text text x db [] is = absurd cc
made_text text x db (y ∷ rest) is = ap (λ l. drop 1 (renewed (meta_table_at 0) set_settings_terms (Words key ∷ Words text ∷ []) db (y ∷ l))) is

one_of : (text : List ℕ) → length (filter (λ x. bytes_eq x.0 key) (meta_pairs schema_version text)) ≤ 1
one_of text = omega arith

text_is : (old text : List ℕ) → map pair_columns (changed (λ x. bytes_eq x.0 key) (λ x. (x.0, text)) (meta_pairs schema_version old)) ≡ meta_columns text
text_is old text = refl

pub sets_settings : (text : List ℕ) (old new : State) (count : ℕ) → IsReady old → ExecutesInside 0 set_settings_sql (Words key ∷ Words text ∷ []) old new (Ok count)
    → IsReady new × ((b : Stored) → Stands old.now.trees b → Stands new.now.trees (with_settings text b))
sets_settings text old new count ready h =
    let params = Words key ∷ Words text ∷ [] in
    let program : Program = record { lets = []; body = set_settings_query } in
    let w = runs_as set_settings_sql params old new gate_schema ready.schema_is (Update 0 program) set_settings_is.0 set_settings_is.1 count h.0 in
    let e = updates gate_schema (λ _ _ _. refl) old new ready.schema_is 0 (meta_table_at 0) refl (statement_of set_settings_sql (understood gate_schema set_settings_sql)) params count program w in
    let db = overlay old.now.trees [] in
    let test = passes (key_is 1 ∷ []) params in
    let new_row = renewed (meta_table_at 0) set_settings_terms params old.now.trees in
    let same : (v : Row) (x : List ℕ × List ℕ) → drop 1 v ≡ pair_columns x → test v ≡ bytes_eq x.0 key = λ v x is. told_behind test v _ _ _ (λ y. rw equal_texts (and_true (bytes_eq x.0 key))) is in
    let made : (v : Row) (x : List ℕ × List ℕ) → drop 1 v ≡ pair_columns x → drop 1 (new_row v) ≡ pair_columns (x.0, text) = λ v x is. made_text text x old.now.trees v is in (
      record { schema_is = e.2.schema_is; inside = h.1.mode },
      λ b stands.
          let few : length (filter (λ x. bytes_eq x.0 key) (meta_pairs schema_version b.settings)) ≤ 1 = one_of b.settings in
          let short : length (filter test (old.now.trees 0)) ≤ 1 = subst (λ n. n ≤ 1) (sym (few_found pair_columns test (λ x. bytes_eq x.0 key) same (old.now.trees 0) (meta_pairs schema_version b.settings) stands.meta.columns_are)) few in
          let rows : e.0 ≡ map (out (meta_table_at 0) set_settings_terms params old.now.trees) (filter test (old.now.trees 0)) =
          shows_few 0 (key_is 1 ∷ []) (col 1 0 ∷ set_settings_terms) [] no_limit db params e.0 short (e.1.answer Null) in
          let left : new.now.trees 0 ≡ changed test new_row (old.now.trees 0) =
          e.2.applies.rows ∙ written_update (meta_table_at 0) set_settings_terms params old.now.trees e.0 _ rows short
          ∙ updated_rows test new_row (old.now.trees 0) stands.meta.numbered (λ r its. int_cast (rowid r) its) short in
          with_text new.now.trees b text (others_stay old new _ 0 b e.2 refl refl stands)
          (subst (IsFixed (meta_columns text)) (sym left) (record {
            columns_are = listed_changed pair_columns test new_row (λ x. bytes_eq x.0 key) (λ x. (x.0, text)) same made (old.now.trees 0) (meta_pairs schema_version b.settings) stands.meta.columns_are ∙ text_is b.settings text;
            numbered = numbered_changed test new_row (λ r its. int_cast (rowid r) its) (old.now.trees 0) stands.meta.numbered;
          })),
    )
