-- What CREATE TABLE and CREATE INDEX make of a database.
use Rattle.std.proofs.Common.{◌≡◌, ℕ, List, [], false, Ok, None, Some, slice_get, sym, ap, subst, ◌∙◌}
use Rattle.std.specs.Prelude.{MatchBool}
use Rattle.sqlite.specs.Table.{Table}
use Rattle.sqlite.specs.Schema.{Schema}
use Rattle.sqlite_schema.specs.declared.schema.Index.{Index}
use Rattle.sqlite.specs.Command.TheVariants.{CreateTable, CreateIndex}
use Rattle.sqlite.specs.Compile.{table_defined_by, index_defined_by}
use Rattle.sqlite.specs.Change.{created, indexed, next_tree, KeepsRows}
use Rattle.sqlite.specs.Does.{Tally, Does, MakesTable, MakesSequence, MakesIndex, Defines, AtPlace, lacks_sequence}
use Rattle.sqlite.specs.Does.{no_rows, sequence_text}
use Rattle.sqlite.specs.Rows.{Gives, Then}
use Rattle.sqlite.specs.Effect.{Database}
use Rattle.sqlite.specs.Listing.{understood}
use Rattle.sqlite.specs.State.{State, mode_of, Executes, Writes}
use Rattle.sqlite.proofs.Callers.{IsPlain, command_of, statement_of, runs_as, through}
use Rattle.gate_schema.proofs.WriteLemmas.{same_value}

-- a table was added, with no row
pub record Makes (schema : Schema) (table : Table) (old new : State) : Type 0 where
  pub schema_is : new.now.schema ≡ created schema table
  pub empty : new.now.trees (next_tree schema) ≡ []
  pub others : KeepsRows schema.tables old.now.trees new.now.trees

-- A text that is one CREATE TABLE does so.
pub makes_table : (sql : List ℕ) (schema : Schema) (table : Table) → command_of (understood schema sql) ≡ CreateTable → IsPlain (understood schema sql) → statement_of sql (understood schema sql) ≡ sql
    → table_defined_by sql ≡ Ok table → lacks_sequence (created schema table) ≡ false
    → (old new : State) (count : ℕ) → old.now.schema ≡ schema → Executes sql [] old new (Ok count) → Makes schema table old new
makes_table sql schema table is plain text defined counted old new count has h =
    let w = subst (λ t. Writes old new None CreateTable t [] count) text (runs_as sql [] old new schema has CreateTable is plain count h) in
    let db : Database = record { schema = schema; trees = old.now.trees } in
    let all : Then (Then (MakesTable sql db) MakesSequence) (λ after. Gives (no_rows (mode_of old).in_doubt, after)) (Ok (w.tally, new.now)) =
    subst (λ s. Does old.step_limit (mode_of old) [] (record old.now { schema = s }) sql None CreateTable (Ok (w.tally, new.now))) has w.changed in
    let last = through (Then (MakesTable sql db) MakesSequence) (λ after. Gives (no_rows (mode_of old).in_doubt, after)) (w.tally, new.now) all in
    let first = through (MakesTable sql db) MakesSequence last.0 last.1 in
    let made = first.1 in
    let same : made.table ≡ table = same_value (sym made.defined ∙ defined) in
    let schema_now : first.0.schema ≡ created schema table = made.is ∙ ap (created schema) same in
    let kept : last.0 ≡ first.0 = same_value (subst (λ b. MatchBool b (MakesTable sequence_text first.0 (Ok last.0)) (Gives first.0 (Ok last.0))) (ap lacks_sequence schema_now ∙ counted) first.2) in
    let now : new.now ≡ first.0 = ap (λ (p : Tally × Database). p.1) (same_value last.2) ∙ kept in
    record {
      schema_is = ap (λ (d : Database). d.schema) now ∙ schema_now;
      empty = ap (λ (d : Database). d.trees (next_tree schema)) now ∙ made.empty;
      others = subst (λ (d : Database). KeepsRows schema.tables old.now.trees d.trees) (sym now) made.others;
    }

-- an index was added
pub record MakesIndexOn (schema : Schema) (table : Table) (index : Index) (old new : State) : Type 0 where
  pub schema_is : new.now.schema ≡ indexed schema table index
  pub rows : KeepsRows schema.tables old.now.trees new.now.trees

-- A text that is one CREATE INDEX does so.
pub makes_index : (sql : List ℕ) (schema : Schema) (at : ℕ) (table : Table) (index : Index) → command_of (understood schema sql) ≡ CreateIndex at → IsPlain (understood schema sql) → statement_of sql (understood schema sql) ≡ sql
    → slice_get schema.tables at ≡ Some table → index_defined_by table sql ≡ Ok index
    → (old new : State) (count : ℕ) → old.now.schema ≡ schema → Executes sql [] old new (Ok count) → MakesIndexOn schema table index old new
makes_index sql schema at table index is plain text found defined old new count has h =
    let w = subst (λ t. Writes old new None (CreateIndex at) t [] count) text (runs_as sql [] old new schema has (CreateIndex at) is plain count h) in
    let db : Database = record { schema = schema; trees = old.now.trees } in
    let all : AtPlace (λ t. Defines (mode_of old) (MakesIndex sql db t)) (slice_get schema.tables at) (Ok (w.tally, new.now)) =
    subst (λ s. Does old.step_limit (mode_of old) [] (record old.now { schema = s }) sql None (CreateIndex at) (Ok (w.tally, new.now))) has w.changed in
    let here : Defines (mode_of old) (MakesIndex sql db table) (Ok (w.tally, new.now)) = subst (λ o. AtPlace (λ t. Defines (mode_of old) (MakesIndex sql db t)) o (Ok (w.tally, new.now))) found all in
    let last = through (MakesIndex sql db table) (λ after. Gives (no_rows (mode_of old).in_doubt, after)) (w.tally, new.now) here in
    let made = last.1 in
    let now : new.now ≡ last.0 = ap (λ (p : Tally × Database). p.1) (same_value last.2) in
    let same : made.index ≡ index = same_value (sym made.defined ∙ defined) in
    record {
      schema_is = ap (λ (d : Database). d.schema) now ∙ made.is ∙ ap (indexed schema table) same;
      rows = subst (λ (d : Database). KeepsRows schema.tables old.now.trees d.trees) (sym now) made.rows;
    }
