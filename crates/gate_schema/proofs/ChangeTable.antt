-- The changes, without their needs: what each statement on them means, and what it makes of what the tables hold.
use Rattle.std.proofs.Common.{◌≡◌, ◌≤◌, ℕ, ℤ, pos, List, [], ◌∷◌, map, filter, length, Bool, true, false, not, ◌&&◌}
use Rattle.std.proofs.Common.{◌||◌, None, Ok, codes, refl, sym, ap, subst, ◌∙◌, arith, eqb, is_eq}
use Rattle.std.proofs.lemmas.Bool.Decides.{nat_tests}
use Rattle.std.proofs.lemmas.List.{length-map}
use Rattle.std.specs.List.{AllByRecursion}
use Rattle.sqlite.specs.Cast.{cast_row}
use Rattle.sqlite.specs.Command.TheVariants.{InsertOr, Update}
use Rattle.sqlite.specs.Edit.{edit_of, with_rowid, id_in}
use Rattle.sqlite.specs.Listing.{understood}
use Rattle.sqlite.specs.Order.{Row}
use Rattle.sqlite.specs.Program.{overlay}
use Rattle.sqlite.specs.Query.{Query}
use Rattle.sqlite.specs.Rowids.TheVariants.{Chosen, Given}
use Rattle.sqlite.specs.Source.TheVariants.{Values}
use Rattle.sqlite.specs.State.{State, ExecutesInside}
use Rattle.sqlite.specs.Term.{Term, lit, col}
use Rattle.sqlite.specs.declared.types.Value.TheVariants.{Null, Int, Text as Words}
use Rattle.sqlite.proofs.Callers.{runs_as, statement_of}
use Rattle.sqlite_schema.specs.declared.command.Conflict.TheVariants.{Replace}
use Rattle.sqlite_schema.specs.declared.program.Program.{Program}
use Rattle.sqlite_keyed.specs.Keyed.{insert_by}
use Rattle.sqlite_keyed.proofs.ListLemmas.{all_map, filter_all}
use Rattle.sqlite_rules.specs.Calls.{ids_of}
use Rattle.sqlite_rules.specs.Keys.{AreConflicts, conflicts}
use Rattle.sqlite_rules.proofs.ListLemmas.{all_from}
use Rattle.sqlite_rules.proofs.ProbeLemmas.{has_mapped, mapped_has}
use Rattle.sqlite_tied.proofs.RuleLemmas.{and_true}
use Rattle.sqlite_tied.specs.Compute.{everything}
use Rattle.sqlite_trees.specs.Tree.{rowid, has_rowid, put_row}
use Rattle.sqlite_trees.proofs.TreeLemmas.{not_true}
use Rattle.sqlite_value.specs.Keys.{first_key}
use Rattle.gate_schema.specs.Edits.{add_change, drop_change, set_stage}
use Rattle.gate_schema.specs.Rows.{Stored, Stands, IsReady, Changes, IsKeyed, number_or_null, change_table_row}
use Rattle.gate_schema.specs.Rows.{change_key}
use Rattle.gate_schema.specs.Schema.{gate_schema, change_table_at}
use Rattle.gate_types.specs.Tables.{at_stage}
use Rattle.gate_types.specs.Words.{stage_word}
use Rattle.gate_types.specs.declared.records.Stage.{Stage}
use Rattle.gate_schema.proofs.ChangeLemmas.{changed, keyed_changed, keyed_found, keyed_numbered, keyed_put}
use Rattle.gate_schema.proofs.ChangeLemmas.{keyed_without}
use Rattle.gate_schema.proofs.ChangeLemmas.{one_keyed, updated_rows}
use Rattle.gate_schema.proofs.DeleteLemmas.{without_one}
use Rattle.gate_schema.proofs.QueryLemmas.{over_table, passes, shows_few}
use Rattle.gate_schema.proofs.RowLemmas.{cast_int, cast_null, cast_or_null, int_cast, out, renewed, written_update}
use Rattle.gate_schema.proofs.Statements.{Is, key_is, no_limit}
use Rattle.gate_schema.proofs.TableLemmas.{others_stay, with_changes}
use Rattle.gate_schema.proofs.ValueLemmas.{equal_numbers, value_cmp-pos}
use Rattle.gate_schema.proofs.WriteLemmas.{Edits, Replaces, replaces, updates}
use Rattle.gate_types.specs.declared.rows.ChangeRow.{ChangeRow}

-- ---- a change put in place of the one of its number

abbrev pub renew_change_sql : List ℕ
renew_change_sql = codes "INSERT OR REPLACE INTO change (num, project, revision, state, approval) VALUES (?1, ?2, ?3, ?4, ?5)"

abbrev pub renew_change_terms : List Term
renew_change_terms = col 0 0 ∷ lit Null ∷ col 0 1 ∷ col 0 2 ∷ col 0 3 ∷ col 0 4 ∷ []

pub renew_change_is : Is renew_change_sql (InsertOr 3 Replace (Values renew_change_terms 6) [])
unfolding understood everything
renew_change_is = (refl, (refl, refl))

abbrev pub change_params : ChangeRow → Row
change_params x = Int (pos x.change.number) ∷ Words x.change.project ∷ Int (pos x.change.revision) ∷ Words (stage_word x.change.stage) ∷ number_or_null x.approval ∷ []

stored : (x : ChangeRow) → cast_row (change_table_at 7) (change_table_row x) ≡ change_table_row x
stored x = rw (cast_int, cast_null, cast_int, cast_or_null)

-- the key is the one thing by which a change can be in the way
meets : (x y : ChangeRow) → conflicts None gate_schema.indexes (change_table_at 7) (change_table_row x) (change_table_row y) ≡ eqb (change_key y) (change_key x)
unfolding first_key
meets x y = rw equal_numbers (in_key (eqb (change_key y) (change_key x)))
  where
    in_key : (a : Bool) → ((a && true) || false) ≡ a
    in_key true = refl
    in_key false = refl

has_key : (x y : ChangeRow) → has_rowid (pos (change_key x)) (change_table_row y) ≡ eqb (change_key y) (change_key x)
has_key x y = ap is_eq (value_cmp-pos (change_key y) (change_key x)) ∙ grind (arith, nat_tests)

-- what was found in the way has the change's number
same_key : (x : ChangeRow) (xs : List ChangeRow) (found : List Row) → AreConflicts None gate_schema.indexes (change_table_at 7) (map change_table_row xs) (change_table_row x) found → AllByRecursion (λ id. id ≡ pos (change_key x)) (ids_of found)
same_key x xs found h = all_map (λ id. id ≡ pos (change_key x)) (λ r. id_in (rowid r)) found (all_from _ found (λ r has.
    let row = h.sound r has in
    let y = has_mapped change_table_row xs row.0 row.1 in
    let same : eqb (change_key y.0) (change_key x) ≡ true = sym (meets x y.0) ∙ subst (λ s. conflicts None gate_schema.indexes (change_table_at 7) (change_table_row x) s ≡ true) y.2 row.2 in
    let key : change_key y.0 ≡ change_key x = grind (arith, nat_tests) in
    ap (λ s. id_in (rowid s)) row.3 ∙ ap (λ s. id_in (rowid s)) y.2 ∙ ap pos key))

-- where nothing was found, no change has the number
none_there : (x : ChangeRow) (xs : List ChangeRow) → AreConflicts None gate_schema.indexes (change_table_at 7) (map change_table_row xs) (change_table_row x) [] → filter (λ y. not (eqb (change_key y) (change_key x))) xs ≡ xs
none_there x xs h = filter_all _ xs (all_from _ xs (λ y has.
    ap not (not_true (eqb (change_key y) (change_key x)) (λ e. h.complete (change_table_row y) (mapped_has change_table_row xs y has) (meets x y ∙ e)))))

module _ (x : ChangeRow) (old new : State) (b : Stored) (stands : Stands old.now.trees b) where
  added : Edits gate_schema old new (edit_of old.now.trees (change_table_at 7) [] Given 0 (change_table_row x ∷ [])) → Stands new.now.trees (add_change x b)
  added e =
      let left : new.now.trees 7 ≡ put_row (change_table_row x) (old.now.trees 7) = e.applies.rows ∙ ap (λ r. put_row r (old.now.trees 7)) (stored x) in
      with_changes new.now.trees b _ (others_stay old new _ 7 b e refl refl stands)
      (subst (λ rs. IsKeyed change_key change_table_row rs (insert_by (λ y. pos (change_key y)) b.changes x)) (sym left) (keyed_put change_key change_table_row (λ y. refl) x (old.now.trees 7) b.changes stands.change))

  dropped : (i : ℤ) (ids : List ℤ) → AllByRecursion (λ j. j ≡ pos (change_key x)) (i ∷ ids) → Edits gate_schema old new (record { table = change_table_at 7; gone = i ∷ ids; news = [] }) → Stands new.now.trees (drop_change (change_key x) b)
  dropped i ids same e =
      let left = e.applies.rows ∙ without_one (pos (change_key x)) i ids (old.now.trees 7) same in
      with_changes new.now.trees b _ (others_stay old new _ 7 b e refl refl stands)
      (subst (λ rs. IsKeyed change_key change_table_row rs (filter (λ y. not (eqb (change_key y) (change_key x))) b.changes)) (sym left)
      (keyed_without change_key change_table_row (λ y. refl) (has_rowid (pos (change_key x))) (λ y. eqb (change_key y) (change_key x)) (has_key x) (old.now.trees 7) b.changes stands.change))

pub renews_change : (x : ChangeRow) (old new : State) (count : ℕ) → IsReady old → ExecutesInside 0 renew_change_sql (change_params x) old new (Ok count)
    → Changes old new (λ b. add_change x (drop_change x.change.number b))
renews_change x old new count ready h =
    let params = change_params x in
    let w = runs_as renew_change_sql params old new gate_schema ready.schema_is (InsertOr 3 Replace (Values renew_change_terms 6) []) renew_change_is.0 renew_change_is.1 count h.0 in
    let e = replaces gate_schema (λ _ _ _. refl) old new ready.schema_is 3 (change_table_at 7) refl (statement_of renew_change_sql (understood gate_schema renew_change_sql)) params count refl (Values renew_change_terms 6) (change_table_row x) (λ rows is. is.1) w in
    let there = subst (λ r. AreConflicts None gate_schema.indexes (change_table_at 7) (old.now.trees 7) (with_rowid Chosen (old.now.trees 7) r) e.0) (stored x) e.1 in
    let put = subst (λ r. Replaces gate_schema old new (change_table_at 7) (with_rowid Chosen (old.now.trees 7) r) e.0) (stored x) e.2 in
    record {
      ready = record { schema_is = schema_stays e.0 put; inside = h.1.mode };
      named = λ b named. named;
      stands = λ b named stands. go b stands e.0 (subst (λ rs. AreConflicts None gate_schema.indexes (change_table_at 7) rs (change_table_row x) e.0) stands.change.rows_are there) put;
    }
  where
    schema_stays : (found : List Row) → Replaces gate_schema old new (change_table_at 7) (change_table_row x) found → new.now.schema ≡ gate_schema
    schema_stays [] e = e.schema_is
    schema_stays (r ∷ found) e = e.2.schema_is

    go : (b : Stored) → Stands old.now.trees b → (found : List Row) → AreConflicts None gate_schema.indexes (change_table_at 7) (map change_table_row b.changes) (change_table_row x) found
        → Replaces gate_schema old new (change_table_at 7) (change_table_row x) found → Stands new.now.trees (add_change x (drop_change (change_key x) b))
    go b stands [] there e = subst (λ (xs : List ChangeRow). Stands new.now.trees (add_change x (record b { changes = xs }))) (sym (none_there x b.changes there)) (added x old new b stands e)
    go b stands (r ∷ found) there e =
        let mid = record old { now = record { schema = gate_schema; trees = e.0 } } in
        added x mid new (drop_change (change_key x) b) (dropped x old mid b stands _ _ (same_key x b.changes (r ∷ found) there) e.1) e.2

-- ---- the stage of a change told, which is ready no longer

abbrev pub set_stage_sql : List ℕ
set_stage_sql = codes "UPDATE change SET state = ?2, approval = NULL WHERE num = ?1"

abbrev pub set_stage_terms : List Term
set_stage_terms = col 1 0 ∷ lit Null ∷ col 1 2 ∷ col 1 3 ∷ col 0 1 ∷ lit Null ∷ []

abbrev pub set_stage_query : Query
set_stage_query = over_table 7 (key_is 0 ∷ []) (col 1 0 ∷ set_stage_terms) [] no_limit

pub set_stage_is : Is set_stage_sql (Update 3 (record { lets = []; body = set_stage_query }))
unfolding understood everything
set_stage_is = (refl, (refl, refl))

pub sets_stage : (n : ℕ) (g : Stage) (old new : State) (count : ℕ) → IsReady old → ExecutesInside 0 set_stage_sql (Int (pos n) ∷ Words (stage_word g) ∷ []) old new (Ok count)
    → Changes old new (set_stage n g)
sets_stage n g old new count ready h =
    let params = Int (pos n) ∷ Words (stage_word g) ∷ [] in
    let program : Program = record { lets = []; body = set_stage_query } in
    let w = runs_as set_stage_sql params old new gate_schema ready.schema_is (Update 3 program) set_stage_is.0 set_stage_is.1 count h.0 in
    let e = updates gate_schema (λ _ _ _. refl) old new ready.schema_is 3 (change_table_at 7) refl (statement_of set_stage_sql (understood gate_schema set_stage_sql)) params count program w in
    let db = overlay old.now.trees [] in
    let test = passes (key_is 0 ∷ []) params in
    let new_row = renewed (change_table_at 7) set_stage_terms params old.now.trees in
    let is = λ (y : ChangeRow). eqb (change_key y) n in
    let same : (y : ChangeRow) → test (change_table_row y) ≡ is y = λ y. rw equal_numbers (and_true (eqb (change_key y) n)) in
    record {
      ready = record { schema_is = e.2.schema_is; inside = h.1.mode };
      named = λ b named. named;
      stands = λ b named stands.
          let numbered = keyed_numbered change_key change_table_row (λ x. refl) (old.now.trees 7) b.changes stands.change in
          let found : filter test (old.now.trees 7) ≡ map change_table_row (filter is b.changes) =
          keyed_found change_key change_table_row (λ y. refl) test is same (old.now.trees 7) b.changes stands.change in
          let few : length (filter is b.changes) ≤ 1 = one_keyed change_key change_table_row (λ x. refl) n is (λ y e. e) b.changes stands.change.in_order in
          let short : length (filter test (old.now.trees 7)) ≤ 1 = rw found (simp length-map few) in
          let rows : e.0 ≡ map (out (change_table_at 7) set_stage_terms params old.now.trees) (filter test (old.now.trees 7)) =
          shows_few 7 (key_is 0 ∷ []) (col 1 0 ∷ set_stage_terms) [] no_limit db params e.0 short (e.1.answer Null) in
          let left : new.now.trees 7 ≡ changed test new_row (old.now.trees 7) =
          e.2.applies.rows ∙ written_update (change_table_at 7) set_stage_terms params old.now.trees e.0 _ rows short
          ∙ updated_rows test new_row (old.now.trees 7) numbered (λ r its. int_cast (rowid r) its) short in
          with_changes new.now.trees b _ (others_stay old new _ 7 b e.2 refl refl stands)
          (subst (λ rs. IsKeyed change_key change_table_row rs (changed is (at_stage g) b.changes)) (sym left)
          (keyed_changed change_key change_table_row (λ x. refl) test new_row is (at_stage g) same (λ y. rw (cast_int, cast_null, cast_int)) (λ y. refl) (old.now.trees 7) b.changes stands.change));
    }
