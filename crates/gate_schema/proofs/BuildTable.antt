-- The builds: what each statement on them means, and what it makes of what the tables hold.
use Rattle.std.proofs.Common.{◌≡◌, ◌≤◌, ℕ, pos, List, [], ◌∷◌, map, filter, length, true, false, not, Ok, codes, refl}
use Rattle.std.proofs.Common.{sym, ap, subst, ◌∙◌, eqb, is_eq}
use Rattle.std.specs.List.{list_any}
use Rattle.std.proofs.lemmas.Bool.{and_parts, not-true}
use Rattle.std.proofs.lemmas.List.{length-map}
use Rattle.sqlite.specs.Cast.{cast_row}
use Rattle.sqlite.specs.Command.TheVariants.{Insert, Update}
use Rattle.sqlite.specs.Edit.{are_fresh, edit_of, edited, with_rowid}
use Rattle.sqlite.specs.Listing.{understood}
use Rattle.sqlite.specs.Order.{Row, value_cmp}
use Rattle.sqlite.specs.Program.{overlay}
use Rattle.sqlite.specs.Query.{Query}
use Rattle.sqlite.specs.Rowids.TheVariants.{Chosen}
use Rattle.sqlite.specs.Source.TheVariants.{Values}
use Rattle.sqlite.specs.State.{State, ExecutesInside}
use Rattle.sqlite.specs.Term.{Term, lit, col}
use Rattle.sqlite.specs.declared.types.Value.TheVariants.{Null, Int, Text as Words}
use Rattle.sqlite.proofs.Callers.{runs_as, statement_of}
use Rattle.sqlite_schema.specs.declared.program.Program.{Program}
use Rattle.sqlite_keyed.specs.Keyed.{insert_by}
use Rattle.sqlite_keyed.proofs.ListLemmas.{all_weaker, filter-map, filter_all, filter_same}
use Rattle.sqlite_tied.proofs.RuleLemmas.{and_true}
use Rattle.sqlite_tied.specs.Compute.{everything}
use Rattle.sqlite_trees.specs.Tree.{rowid, put_row}
use Rattle.gate_types.specs.Rebase.{with_live}
use Rattle.gate_types.specs.Rows.{with_outcome}
use Rattle.gate_types.specs.declared.records.Build.{Build}
use Rattle.gate_types.specs.declared.records.Outcome.{Outcome}
use Rattle.gate_schema.specs.Edits.{add_build, drop_build, set_outcome, stop_build}
use Rattle.gate_schema.specs.Rows.{IsReady, Changes, IsKeyed, bit, build_table_row, build_key}
use Rattle.gate_schema.specs.Schema.{gate_schema, build_table_at}
use Rattle.gate_schema.specs.AheadText.{ahead_text}
use Rattle.gate_types.specs.BuildText.{outcome_word}
use Rattle.gate_schema.proofs.ChangeLemmas.{changed, keyed_put, keyed_numbered, keyed_changed, none_has}
use Rattle.gate_schema.proofs.ChangeLemmas.{one_keyed, updated_rows}
use Rattle.gate_schema.proofs.QueryLemmas.{over_table, passes, shows_few}
use Rattle.gate_schema.proofs.RowLemmas.{cast_int, cast_null, int_cast, out, renewed, written_update}
use Rattle.gate_schema.proofs.Statements.{Is, key_is, no_limit}
use Rattle.gate_schema.proofs.TableLemmas.{others_stay, with_builds}
use Rattle.gate_schema.proofs.ValueLemmas.{equal_numbers}
use Rattle.gate_schema.proofs.WriteLemmas.{inserts, updates}

-- ---- a build added

abbrev pub add_build_sql : List ℕ
add_build_sql = codes "INSERT INTO build (num, queue, serial, change, revision, job, base, ahead, outcome, live) VALUES (?1, ?2, ?3, ?4, ?5, ?6, ?7, ?8, ?9, ?10)"

abbrev pub add_build_terms : List Term
add_build_terms = col 0 0 ∷ lit Null ∷ col 0 1 ∷ col 0 2 ∷ col 0 3 ∷ col 0 4 ∷ col 0 5 ∷ col 0 6 ∷ col 0 7 ∷ col 0 8 ∷ col 0 9 ∷ []

pub add_build_is : Is add_build_sql (Insert 6 (Values add_build_terms 11))
unfolding understood everything
add_build_is = (refl, (refl, refl))

abbrev pub build_params : Build → Row
build_params x = Int (pos x.number) ∷ Words x.queue ∷ Int (pos x.serial) ∷ Int (pos x.change) ∷ Int (pos x.revision) ∷ Words x.job ∷ Int (pos x.after) ∷ Words (ahead_text x.ahead) ∷ Words (outcome_word x.outcome) ∷ Int (pos (bit x.live)) ∷ []

-- no build had its number, so none is taken out
pub adds_build : (x : Build) (old new : State) (count : ℕ) → IsReady old → ExecutesInside 0 add_build_sql (build_params x) old new (Ok count)
    → Changes old new (λ b. add_build x (drop_build x.number b))
adds_build x old new count ready h =
    let params = build_params x in
    let w = runs_as add_build_sql params old new gate_schema ready.schema_is (Insert 6 (Values add_build_terms 11)) add_build_is.0 add_build_is.1 count h.0 in
    let e = inserts gate_schema (λ _ _ _. refl) old new ready.schema_is 6 (build_table_at 13) refl (statement_of add_build_sql (understood gate_schema add_build_sql)) params count refl (Values add_build_terms 11) w in
    let rows : e.0 ≡ build_table_row x ∷ [] = e.1.1 in
    let stored : cast_row (build_table_at 13) (build_table_row x) ≡ build_table_row x = rw (cast_int, cast_null, cast_int, cast_int, cast_int, cast_int, cast_int) in
    let left : new.now.trees 13 ≡ put_row (build_table_row x) (old.now.trees 13) =
    e.2.applies.rows ∙ ap (λ rs. edited old.now.trees (edit_of old.now.trees (build_table_at 13) [] Chosen 0 rs)) rows
    ∙ ap (λ r. put_row (with_rowid Chosen (old.now.trees 13) r) (old.now.trees 13)) stored in
    let one : are_fresh (old.now.trees 13) (with_rowid Chosen (old.now.trees 13) (cast_row (build_table_at 13) (build_table_row x)) ∷ []) ≡ true = rw rows at e.2.applies.fresh in
    let fresh : are_fresh (old.now.trees 13) (build_table_row x ∷ []) ≡ true =
    subst (λ r. are_fresh (old.now.trees 13) (with_rowid Chosen (old.now.trees 13) r ∷ []) ≡ true) stored one in
    record {
      ready = record { schema_is = e.2.schema_is; inside = h.1.mode };
      named = λ b named. named;
      stands = λ b named stands.
          let free = subst (λ rs. list_any (λ (r : Row). is_eq (value_cmp (rowid r) (Int (pos x.number)))) rs ≡ false) stands.build.rows_are (not-true _ (and_parts _ _ fresh).0) in
          let others : filter (λ y. not (eqb (build_key y) x.number)) b.builds ≡ b.builds =
          filter_all _ b.builds (all_weaker _ _ (λ y none. ap not none) b.builds (none_has build_key build_table_row (λ y. refl) x.number b.builds free)) in
          with_builds new.now.trees b _ (others_stay old new _ 13 b e.2 refl refl stands)
          (subst (λ (ys : List Build). IsKeyed build_key build_table_row (new.now.trees 13) (insert_by (λ y. pos (build_key y)) ys x)) (sym others)
          (subst (λ rs. IsKeyed build_key build_table_row rs (insert_by (λ y. pos (build_key y)) b.builds x)) (sym left) (keyed_put build_key build_table_row (λ x. refl) x (old.now.trees 13) b.builds stands.build)));
    }

-- ---- the outcome of a build told

abbrev pub set_outcome_sql : List ℕ
set_outcome_sql = codes "UPDATE build SET outcome = ?2 WHERE num = ?1"

abbrev pub set_outcome_terms : List Term
set_outcome_terms = col 1 0 ∷ lit Null ∷ col 1 2 ∷ col 1 3 ∷ col 1 4 ∷ col 1 5 ∷ col 1 6 ∷ col 1 7 ∷ col 1 8 ∷ col 0 1 ∷ col 1 10 ∷ []

abbrev pub set_outcome_query : Query
set_outcome_query = over_table 13 (key_is 0 ∷ []) (col 1 0 ∷ set_outcome_terms) [] no_limit

pub set_outcome_is : Is set_outcome_sql (Update 6 (record { lets = []; body = set_outcome_query }))
unfolding understood everything
set_outcome_is = (refl, (refl, refl))

pub sets_outcome : (n : ℕ) (o : Outcome) (old new : State) (count : ℕ) → IsReady old → ExecutesInside 0 set_outcome_sql (Int (pos n) ∷ Words (outcome_word o) ∷ []) old new (Ok count)
    → Changes old new (set_outcome n o)
sets_outcome n o old new count ready h =
    let params = Int (pos n) ∷ Words (outcome_word o) ∷ [] in
    let program : Program = record { lets = []; body = set_outcome_query } in
    let w = runs_as set_outcome_sql params old new gate_schema ready.schema_is (Update 6 program) set_outcome_is.0 set_outcome_is.1 count h.0 in
    let e = updates gate_schema (λ _ _ _. refl) old new ready.schema_is 6 (build_table_at 13) refl (statement_of set_outcome_sql (understood gate_schema set_outcome_sql)) params count program w in
    let db = overlay old.now.trees [] in
    let test = passes (key_is 0 ∷ []) params in
    let new_row = renewed (build_table_at 13) set_outcome_terms params old.now.trees in
    let same : (y : Build) → test (build_table_row y) ≡ eqb (build_key y) n = λ y. rw equal_numbers (and_true (eqb (build_key y) n)) in
    record {
      ready = record { schema_is = e.2.schema_is; inside = h.1.mode };
      named = λ b named. named;
      stands = λ b named stands.
          let numbered = keyed_numbered build_key build_table_row (λ x. refl) (old.now.trees 13) b.builds stands.build in
          let found : filter test (old.now.trees 13) ≡ map build_table_row (filter (λ y. eqb (build_key y) n) b.builds) =
          ap (filter test) stands.build.rows_are ∙ filter-map test build_table_row b.builds ∙ ap (map build_table_row) (filter_same _ _ same b.builds) in
          let few : length (filter (λ y. eqb (build_key y) n) b.builds) ≤ 1 = one_keyed build_key build_table_row (λ x. refl) n (λ y. eqb (build_key y) n) (λ y e. e) b.builds stands.build.in_order in
          let short : length (filter test (old.now.trees 13)) ≤ 1 = rw found (simp length-map few) in
          let rows : e.0 ≡ map (out (build_table_at 13) set_outcome_terms params old.now.trees) (filter test (old.now.trees 13)) =
          shows_few 13 (key_is 0 ∷ []) (col 1 0 ∷ set_outcome_terms) [] no_limit db params e.0 short (e.1.answer Null) in
          let left : new.now.trees 13 ≡ changed test new_row (old.now.trees 13) =
          e.2.applies.rows ∙ written_update (build_table_at 13) set_outcome_terms params old.now.trees e.0 _ rows short
          ∙ updated_rows test new_row (old.now.trees 13) numbered (λ r its. int_cast (rowid r) its) short in
          with_builds new.now.trees b _ (others_stay old new _ 13 b e.2 refl refl stands)
          (subst (λ rs. IsKeyed build_key build_table_row rs (changed (λ y. eqb (build_key y) n) (with_outcome o) b.builds)) (sym left)
          (keyed_changed build_key build_table_row (λ x. refl) test new_row (λ y. eqb (build_key y) n) (with_outcome o) same (λ y. rw (cast_int, cast_null, cast_int, cast_int, cast_int, cast_int, cast_int)) (λ y. refl) (old.now.trees 13) b.builds stands.build));
    }

-- ---- a build that stops being live

abbrev pub stop_build_sql : List ℕ
stop_build_sql = codes "UPDATE build SET live = 0 WHERE num = ?1"

abbrev pub stop_build_terms : List Term
stop_build_terms = col 1 0 ∷ lit Null ∷ col 1 2 ∷ col 1 3 ∷ col 1 4 ∷ col 1 5 ∷ col 1 6 ∷ col 1 7 ∷ col 1 8 ∷ col 1 9 ∷ lit (Int (pos 0)) ∷ []

abbrev pub stop_build_query : Query
stop_build_query = over_table 13 (key_is 0 ∷ []) (col 1 0 ∷ stop_build_terms) [] no_limit

pub stop_build_is : Is stop_build_sql (Update 6 (record { lets = []; body = stop_build_query }))
unfolding understood everything
stop_build_is = (refl, (refl, refl))

pub stops_build : (n : ℕ) (old new : State) (count : ℕ) → IsReady old → ExecutesInside 0 stop_build_sql (Int (pos n) ∷ []) old new (Ok count)
    → Changes old new (stop_build n)
stops_build n old new count ready h =
    let params = Int (pos n) ∷ [] in
    let program : Program = record { lets = []; body = stop_build_query } in
    let w = runs_as stop_build_sql params old new gate_schema ready.schema_is (Update 6 program) stop_build_is.0 stop_build_is.1 count h.0 in
    let e = updates gate_schema (λ _ _ _. refl) old new ready.schema_is 6 (build_table_at 13) refl (statement_of stop_build_sql (understood gate_schema stop_build_sql)) params count program w in
    let db = overlay old.now.trees [] in
    let test = passes (key_is 0 ∷ []) params in
    let new_row = renewed (build_table_at 13) stop_build_terms params old.now.trees in
    let same : (y : Build) → test (build_table_row y) ≡ eqb (build_key y) n = λ y. rw equal_numbers (and_true (eqb (build_key y) n)) in
    record {
      ready = record { schema_is = e.2.schema_is; inside = h.1.mode };
      named = λ b named. named;
      stands = λ b named stands.
          let numbered = keyed_numbered build_key build_table_row (λ x. refl) (old.now.trees 13) b.builds stands.build in
          let found : filter test (old.now.trees 13) ≡ map build_table_row (filter (λ y. eqb (build_key y) n) b.builds) =
          ap (filter test) stands.build.rows_are ∙ filter-map test build_table_row b.builds ∙ ap (map build_table_row) (filter_same _ _ same b.builds) in
          let few : length (filter (λ y. eqb (build_key y) n) b.builds) ≤ 1 = one_keyed build_key build_table_row (λ x. refl) n (λ y. eqb (build_key y) n) (λ y e. e) b.builds stands.build.in_order in
          let short : length (filter test (old.now.trees 13)) ≤ 1 = rw found (simp length-map few) in
          let rows : e.0 ≡ map (out (build_table_at 13) stop_build_terms params old.now.trees) (filter test (old.now.trees 13)) =
          shows_few 13 (key_is 0 ∷ []) (col 1 0 ∷ stop_build_terms) [] no_limit db params e.0 short (e.1.answer Null) in
          let left : new.now.trees 13 ≡ changed test new_row (old.now.trees 13) =
          e.2.applies.rows ∙ written_update (build_table_at 13) stop_build_terms params old.now.trees e.0 _ rows short
          ∙ updated_rows test new_row (old.now.trees 13) numbered (λ r its. int_cast (rowid r) its) short in
          with_builds new.now.trees b _ (others_stay old new _ 13 b e.2 refl refl stands)
          (subst (λ rs. IsKeyed build_key build_table_row rs (changed (λ y. eqb (build_key y) n) (with_live false) b.builds)) (sym left)
          (keyed_changed build_key build_table_row (λ x. refl) test new_row (λ y. eqb (build_key y) n) (with_live false) same (λ y. rw (cast_int, cast_null, cast_int, cast_int, cast_int, cast_int, cast_int)) (λ y. refl) (old.now.trees 13) b.builds stands.build));
    }
