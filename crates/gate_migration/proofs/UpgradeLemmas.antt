-- A file of schema 1 becomes one of schema 2: what each statement makes of it.
use Rattle.std.proofs.Common.{◌≡◌, ◌≢◌, ◌≤◌, ℕ, List, [], ◌∷◌, map, drop, filter, length, Bool, false, Ok, codes}
use Rattle.std.proofs.Common.{refl, sym, ap, subst, ◌∙◌, arith, eqb}
use Rattle.std.specs.Prelude.{IfErr, IsTrue, OnErr, Result, Err, bytes_eq}
use Rattle.std.proofs.Common.{inl, inr, true≢false}
use Rattle.sqlite.specs.Steps.{FailsToCommit}
use Rattle.sqlite.specs.declared.error.Error.{Error}
use Rattle.gate_found_rows.specs.Finds.{Stays}
use Rattle.std.specs.List.{AllByRecursion}
use Rattle.sqlite.specs.Collation.TheVariants.{Binary}
use Rattle.sqlite.specs.Command.TheVariants.{CreateTable, Update}
use Rattle.sqlite.specs.Does.{lacks_sequence}
use Rattle.sqlite.specs.Listing.{understood}
use Rattle.sqlite.specs.Order.{Row}
use Rattle.sqlite.specs.Program.{overlay}
use Rattle.sqlite.specs.Query.{Query}
use Rattle.sqlite.specs.State.{State, ExecutesInside, HasCleanDisk, Survives}
use Rattle.sqlite.specs.Term.{Term, lit, col, op2}
use Rattle.sqlite.specs.Tree.{Trees}
use Rattle.sqlite.specs.declared.types.Value.TheVariants.{Null, Text as Words}
use Rattle.sqlite.proofs.Callers.{runs_as, statement_of}
use Rattle.sqlite_schema.specs.declared.program.Program.{Program}
use Rattle.sqlite_sql.specs.declared.ops.BinaryOp.TheVariants.{Compare}
use Rattle.sqlite_sql.specs.declared.ops.CompareOp.TheVariants.{Eq}
use Rattle.sqlite_tied.proofs.RuleLemmas.{and_true}
use Rattle.sqlite_tied.specs.Compute.{everything}
use Rattle.sqlite_trees.specs.Tree.{rowid}
use Rattle.std.specs.Prelude.{◌⊎◌}
use Rattle.gate_types.specs.Tables.{Tables}
use Rattle.gate_types.specs.declared.edits.Edit.{Edit}
use Rattle.gate_schema.specs.Rows as rows
use Rattle.gate_schema.specs.Rows.{IsFixed, IsKeyed, IsListed, Stored, first_version, schema_version}
use Rattle.gate_schema.specs.Schema.{gate_schema, item_fast_table_text, item_job_table_text, meta_table_at, schema_with}
use Rattle.gate_schema.proofs.ChangeLemmas.{changed, listed_changed, numbered_changed, updated_rows}
use Rattle.gate_schema.proofs.QueryLemmas.{over_table, passes, shows_few}
use Rattle.gate_schema.proofs.RowLemmas.{told_behind, few_found, int_cast, out, renewed, written_update}
use Rattle.gate_schema.proofs.Statements.{Is, no_limit}
use Rattle.gate_schema.proofs.TableLemmas.{apart}
use Rattle.gate_schema.proofs.TextLemmas.{item_fast_makes, item_job_makes}
use Rattle.gate_schema.proofs.ValueLemmas.{equal_texts}
use Rattle.gate_schema.proofs.WriteLemmas.{updates}
use Rattle.gate_queue_queries.specs.First.{first_schema}
use Rattle.gate_file_changes.specs.Making.{IsFilled}
use Rattle.gate_file_meta.specs.Reading.{meta_rows}
use Rattle.gate_migration.specs.Upgrade.{CanUpgrade, HasJobTable, HoldsRows, IsFirst, IsWidened, stored_without_plans}
use Rattle.gate_file_changes.proofs.AdoptTables.{meta_pairs, pair_columns}
use Rattle.gate_file_changes.proofs.BareLemmas.{plain_parts}
use Rattle.gate_file_changes.proofs.FillLemmas.{none_keyed, none_listed, sound_lists}
use Rattle.gate_file_changes.proofs.MakeLemmas.{makes_table}

-- ---- the tables that are added

-- rows of the same trees are held still
rows_stay : (version : List ℕ) (old new : Trees) (b : Stored) → AllByRecursion (λ (n : ℕ). new n ≡ old n) (0 ∷ 2 ∷ 4 ∷ 7 ∷ 9 ∷ 11 ∷ 13 ∷ 14 ∷ 18 ∷ 21 ∷ [])
    → HoldsRows version old b → HoldsRows version new b
rows_stay version old new b same h = record {
  meta = subst (IsFixed (meta_rows version b.settings)) (sym same.0) h.meta;
  counter = subst (IsFixed (rows.counter_columns b.counters)) (sym same.1.0) h.counter;
  queue = subst (λ rs. IsListed rows.queue_columns rs b.queues) (sym same.1.1.0) h.queue;
  change = subst (λ rs. IsKeyed rows.change_key rows.change_table_row rs b.changes) (sym same.1.1.1.0) h.change;
  need = subst (λ rs. IsListed rows.need_columns rs b.needs) (sym same.1.1.1.1.0) h.need;
  item = subst (λ rs. IsKeyed rows.item_key rows.item_table_row rs b.items) (sym same.1.1.1.1.1.0) h.item;
  build = subst (λ rs. IsKeyed rows.build_key rows.build_table_row rs b.builds) (sym same.1.1.1.1.1.1.0) h.build;
  landing = subst (λ rs. IsListed rows.landing_columns rs b.landings) (sym same.1.1.1.1.1.1.1.0) h.landing;
  report = subst (λ rs. IsListed rows.report_columns rs b.reports) (sym same.1.1.1.1.1.1.1.1.0) h.report;
  delivery = subst (λ rs. IsListed rows.kept_columns rs b.kept) (sym same.1.1.1.1.1.1.1.1.1.0) h.delivery;
}

-- the table of jobs is made
pub makes_job_table : (b : Stored) (old new : State) (count : ℕ) → IsFirst b old → ExecutesInside 0 item_job_table_text [] old new (Ok count) → HasJobTable b new
makes_job_table b old new count first h =
    let m = item_job_makes in
    let p = plain_parts (understood first_schema item_job_table_text) CreateTable item_job_table_text m.plain in
    let made = makes_table item_job_table_text first_schema m.table p.0 p.1 p.2 m.defined (ap lacks_sequence m.is ∙ m.uncounted) old new count first.schema_is h.0 in
    record {
      schema_is = made.schema_is ∙ m.is;
      rows = rows_stay first_version old.now.trees new.now.trees b made.others first.rows;
      jobs = made.empty;
      inside = h.1.mode;
    }

-- the table of the items that fail fast is made
pub makes_fast_table : (b : Stored) (old new : State) (count : ℕ) → HasJobTable b old → ExecutesInside 0 item_fast_table_text [] old new (Ok count) → IsWidened b new
makes_fast_table b old new count had h =
    let m = item_fast_makes in
    let p = plain_parts (understood (schema_with 11 17) item_fast_table_text) CreateTable item_fast_table_text m.plain in
    let made = makes_table item_fast_table_text (schema_with 11 17) m.table p.0 p.1 p.2 m.defined (ap lacks_sequence m.is ∙ m.uncounted) old new count had.schema_is h.0 in
    let o = made.others in
    record {
      schema_is = made.schema_is ∙ m.is;
      rows = rows_stay first_version old.now.trees new.now.trees b
          (o.0, (o.1.0, (o.1.1.0, (o.1.1.1.0, (o.1.1.1.1.0, (o.1.1.1.1.1.0, (o.1.1.1.1.1.1.0, (o.1.1.1.1.1.1.1.0, (o.1.1.1.1.1.1.1.1.0, (o.1.1.1.1.1.1.1.1.1.0, tt)))))))))) had.rows;
      jobs = o.1.1.1.1.1.1.1.1.1.1.0 ∙ had.jobs;
      fast = made.empty;
      inside = h.1.mode;
    }

-- ---- the version

abbrev pub set_version_sql : List ℕ
set_version_sql = codes "UPDATE meta SET v = '2' WHERE k = 'schema'"

abbrev set_version_terms : List Term
set_version_terms = col 1 0 ∷ col 1 1 ∷ lit (Words (codes "2")) ∷ []

-- the row of the version
abbrev of_version : List Term
of_version = op2 (Compare Eq Binary) (col 1 1) (lit (Words (codes "schema"))) ∷ []

abbrev set_version_query : Query
set_version_query = over_table 0 of_version (col 1 0 ∷ set_version_terms) [] no_limit

set_version_is : Is set_version_sql (Update 0 (record { lets = []; body = set_version_query }))
unfolding understood everything
set_version_is = (refl, (refl, refl))

-- the version is set: a file of schema 2, with no plan
pub sets_version : (b : Stored) (old new : State) (count : ℕ) → IsWidened b old → ExecutesInside 0 set_version_sql [] old new (Ok count) → IsFilled (stored_without_plans b) new
sets_version b old new count had h =
    let program : Program = record { lets = []; body = set_version_query } in
    let w = runs_as set_version_sql [] old new gate_schema had.schema_is (Update 0 program) set_version_is.0 set_version_is.1 count h.0 in
    let e = updates gate_schema (λ _ _ _. refl) old new had.schema_is 0 (meta_table_at 0) refl (statement_of set_version_sql (understood gate_schema set_version_sql)) [] count program w in
    let db = overlay old.now.trees [] in
    let test = passes of_version [] in
    let new_row = renewed (meta_table_at 0) set_version_terms [] old.now.trees in
    let p : (List ℕ × List ℕ) → Bool = λ x. bytes_eq x.0 (codes "schema") in
    let same : (v : Row) (x : List ℕ × List ℕ) → drop 1 v ≡ pair_columns x → test v ≡ bytes_eq x.0 (codes "schema") = λ v x is. told_behind test v _ _ _ (λ y. rw equal_texts (and_true (bytes_eq x.0 (codes "schema")))) is in
    let made : (v : Row) (x : List ℕ × List ℕ) → drop 1 v ≡ pair_columns x → drop 1 (new_row v) ≡ pair_columns (x.0, schema_version) = λ v x is. made_version x old.now.trees v is in
    let few : length (filter (λ (x : List ℕ × List ℕ). bytes_eq x.0 (codes "schema")) (meta_pairs first_version b.settings)) ≤ 1 = omega arith in
    let short : length (filter test (old.now.trees 0)) ≤ 1 =
    subst (λ n. n ≤ 1) (sym (few_found pair_columns test (λ x. bytes_eq x.0 (codes "schema")) same (old.now.trees 0) (meta_pairs first_version b.settings) had.rows.meta.columns_are)) few in
    let rs : e.0 ≡ map (out (meta_table_at 0) set_version_terms [] old.now.trees) (filter test (old.now.trees 0)) =
    shows_few 0 of_version (col 1 0 ∷ set_version_terms) [] no_limit db [] e.0 short (e.1.answer Null) in
    let left : new.now.trees 0 ≡ changed test new_row (old.now.trees 0) =
    e.2.applies.rows ∙ written_update (meta_table_at 0) set_version_terms [] old.now.trees e.0 _ rs short
    ∙ updated_rows test new_row (old.now.trees 0) had.rows.meta.numbered (λ r its. int_cast (rowid r) its) short in
    let t = e.2.applies.tables in
    let no : (n : ℕ) → eqb n 0 ≡ false → n ≢ 0 = λ n far. apart n 0 far in
    record {
      ready = record { schema_is = e.2.schema_is; inside = h.1.mode };
      stands = record {
        listed = sound_lists gate_schema new e.2.schema_is w.sound;
        meta = subst (IsFixed (meta_rows schema_version b.settings)) (sym left) (record {
          columns_are = listed_changed pair_columns test new_row (λ x. bytes_eq x.0 (codes "schema")) (λ x. (x.0, schema_version)) same made (old.now.trees 0) (meta_pairs first_version b.settings) had.rows.meta.columns_are;
          numbered = numbered_changed test new_row (λ r its. int_cast (rowid r) its) (old.now.trees 0) had.rows.meta.numbered;
        });
        counter = subst (IsFixed (rows.counter_columns b.counters)) (sym (t.1.0 (no 2 refl))) had.rows.counter;
        queue = subst (λ rs. IsListed rows.queue_columns rs b.queues) (sym (t.1.1.0 (no 4 refl))) had.rows.queue;
        change = subst (λ rs. IsKeyed rows.change_key rows.change_table_row rs b.changes) (sym (t.1.1.1.0 (no 7 refl))) had.rows.change;
        need = subst (λ rs. IsListed rows.need_columns rs b.needs) (sym (t.1.1.1.1.0 (no 9 refl))) had.rows.need;
        item = subst (λ rs. IsKeyed rows.item_key rows.item_table_row rs b.items) (sym (t.1.1.1.1.1.0 (no 11 refl))) had.rows.item;
        build = subst (λ rs. IsKeyed rows.build_key rows.build_table_row rs b.builds) (sym (t.1.1.1.1.1.1.0 (no 13 refl))) had.rows.build;
        landing = subst (λ rs. IsListed rows.landing_columns rs b.landings) (sym (t.1.1.1.1.1.1.1.0 (no 14 refl))) had.rows.landing;
        report = subst (λ rs. IsListed rows.report_columns rs b.reports) (sym (t.1.1.1.1.1.1.1.1.0 (no 18 refl))) had.rows.report;
        delivery = subst (λ rs. IsListed rows.kept_columns rs b.kept) (sym (t.1.1.1.1.1.1.1.1.1.0 (no 21 refl))) had.rows.delivery;
        job = none_listed _ _ (t.1.1.1.1.1.1.1.1.1.1.0 (no 26 refl) ∙ had.jobs);
        fast = none_keyed _ _ _ (t.1.1.1.1.1.1.1.1.1.1.1.0 (no 28 refl) ∙ had.fast);
      };
    }
  where
    made_version : (x : List ℕ × List ℕ) (db : Trees) (v : Row) → drop 1 v ≡ pair_columns x
        → drop 1 (renewed (meta_table_at 0) set_version_terms [] db v) ≡ pair_columns (x.0, schema_version)
    made_version x db [] is = absurd cc
    made_version x db (y ∷ rest) is = ap (λ l. drop 1 (renewed (meta_table_at 0) set_version_terms [] db (y ∷ l))) is

-- ---- a transaction that isn't committed

-- what was shown before it began is shown still
pub failed_commit : (old mid new : State) (r : Result (Unit {0}) Error) → (IsTrue mid.is_open → IsTrue old.is_open) → (IsTrue mid.is_open → mid.committed ≡ old.committed)
    → (IsTrue old.is_open → old.now ≡ old.committed) → IsTrue mid.in_transaction → IfErr r (FailsToCommit mid new) → OnErr r (Stays old new)
failed_commit old mid new (Ok x) opened kept settled inside fails = tt
failed_commit old mid new (Err e) opened kept settled inside (inl h) =
    let back = h.3 in
    record {
      was_open = λ up. opened (back.was_open up);
      now_is = λ up. let was = back.was_open up in (back.undone up).0 ∙ kept was ∙ sym (settled (opened was));
    }
failed_commit old mid new (Err e) opened kept settled inside (inr h) = absurd (true≢false (sym inside ∙ h.1))

-- what can be upgraded still can where nothing changed
pub can_still : (old new : State) (b : Stored) (edits : List Edit) (t : Tables) → new.now ≡ old.now → CanUpgrade old b edits t → CanUpgrade new b edits t
can_still old new b edits t is can = record {
  schema_is = ap (λ d. d.schema) is ∙ can.schema_is;
  rows = subst (λ d. HoldsRows first_version d.trees b) (sym is) can.rows;
  plans = can.plans;
}

-- of two calls the first of which leaves nothing new
pub leaves_then : {P : Trees → Type 0} (old mid new : State) → HasCleanDisk mid → HasCleanDisk new → Survives old mid (λ _. ⊥) → ((db : Trees) → new.may_leave db → mid.may_leave db ⊎ P db)
    → (db : Trees) → new.may_leave db → old.may_leave db ⊎ P db
leaves_then old mid new early clean one two db may = elim (two db may) [
  | inl m ↦ elim (one.crash early db m) [ inl o ↦ inl o | inr none ↦ absurd none ]
  | inr p ↦ inr p
]
