-- The needs: what each statement on them means, and what it makes of what the tables hold.
use Rattle.std.proofs.Common.{◌≡◌, ℕ, pos, List, [], ◌∷◌, ◌++◌, drop, filter, map, not, Ok, codes, refl, sym, ap}
use Rattle.std.proofs.Common.{subst, ◌∙◌, eqb}
use Rattle.sqlite.specs.Cast.{cast_row}
use Rattle.sqlite.specs.Command.TheVariants.{Insert, Delete, Select}
use Rattle.sqlite.specs.Edit.{edit_of, edited, with_rowid, next_rowid}
use Rattle.sqlite.specs.Listing.{understood}
use Rattle.sqlite.specs.Order.{Row}
use Rattle.sqlite.specs.Program.{overlay}
use Rattle.sqlite.specs.Query.{Query}
use Rattle.sqlite.specs.Rowids.TheVariants.{Chosen}
use Rattle.sqlite.specs.Source.TheVariants.{Values}
use Rattle.sqlite.specs.State.{State, ExecutesInside, Shown}
use Rattle.sqlite.specs.Term.{Term, lit, col, eval_all}
use Rattle.sqlite.specs.declared.types.Value.TheVariants.{Null, Int}
use Rattle.sqlite.proofs.Callers.{reads_as, runs_as, statement_of}
use Rattle.sqlite_schema.specs.declared.program.Program.{Program}
use Rattle.sqlite_tied.proofs.RuleLemmas.{and_true}
use Rattle.sqlite_tied.specs.Compute.{everything}
use Rattle.sqlite_trees.specs.Tree.{put_row}
use Rattle.gate_schema.specs.Edits.{add_needs, drop_needs}
use Rattle.gate_schema.specs.Rows.{NeedRow, IsReady, Changes, IsListed, Stands, Stored, need_columns}
use Rattle.gate_schema.specs.Schema.{gate_schema, need_table_at}
use Rattle.gate_schema.specs.Shown.{need_shown}
use Rattle.gate_schema.proofs.ChangeLemmas.{listed_without, numbered_filter}
use Rattle.gate_schema.proofs.DeleteLemmas.{deleted_ids, leaves_others}
use Rattle.gate_schema.proofs.ListedQueries.{listed_in_turn}
use Rattle.gate_schema.proofs.QueryLemmas.{over_table, passes}
use Rattle.gate_schema.proofs.RowLemmas.{cast_int, cast_null, told_behind}
use Rattle.gate_schema.proofs.Statements.{Asks, Is, key_is, no_limit, rising}
use Rattle.gate_schema.proofs.TableLemmas.{others_stay, with_needs, listed_next}
use Rattle.gate_schema.proofs.ValueLemmas.{equal_numbers}
use Rattle.gate_schema.proofs.WriteLemmas.{inserts, deletes}

-- ---- a need added

abbrev pub add_need_sql : List ℕ
add_need_sql = codes "INSERT INTO need (change, place, needed) VALUES (?1, ?2, ?3)"

abbrev pub add_need_terms : List Term
add_need_terms = lit Null ∷ col 0 0 ∷ col 0 1 ∷ col 0 2 ∷ []

pub add_need_is : Is add_need_sql (Insert 4 (Values add_need_terms 4))
unfolding understood everything
add_need_is = (refl, (refl, refl))

pub adds_need : (x : NeedRow) (old new : State) (count : ℕ) → IsReady old → ExecutesInside 0 add_need_sql (need_columns x) old new (Ok count)
    → Changes old new (add_needs (x ∷ []))
adds_need x old new count ready h =
    let params = need_columns x in
    let w = runs_as add_need_sql params old new gate_schema ready.schema_is (Insert 4 (Values add_need_terms 4)) add_need_is.0 add_need_is.1 count h.0 in
    let e = inserts gate_schema (λ _ _ _. refl) old new ready.schema_is 4 (need_table_at 9) refl (statement_of add_need_sql (understood gate_schema add_need_sql)) params count refl (Values add_need_terms 4) w in
    let rows : e.0 ≡ (Null ∷ need_columns x) ∷ [] = e.1.1 in
    let stored : cast_row (need_table_at 9) (Null ∷ need_columns x) ≡ Null ∷ need_columns x = rw (cast_null, cast_int, cast_int, cast_int) in
    let left : new.now.trees 9 ≡ put_row (Int (next_rowid (old.now.trees 9)) ∷ need_columns x) (old.now.trees 9) =
    e.2.applies.rows ∙ ap (λ rs. edited old.now.trees (edit_of old.now.trees (need_table_at 9) [] Chosen 0 rs)) rows
    ∙ ap (λ r. put_row (with_rowid Chosen (old.now.trees 9) r) (old.now.trees 9)) stored in
    record {
      ready = record { schema_is = e.2.schema_is; inside = h.1.mode };
      named = λ b named. named;
      stands = λ b named stands. with_needs new.now.trees b (b.needs ++ x ∷ []) (others_stay old new _ 9 b e.2 refl refl stands)
          (subst (λ rs. IsListed need_columns rs (b.needs ++ x ∷ [])) (sym left) (listed_next need_columns (old.now.trees 9) b.needs x stands.need));
    }

-- ---- the needs of a change taken out

abbrev pub drop_needs_sql : List ℕ
drop_needs_sql = codes "DELETE FROM need WHERE change = ?1"

abbrev pub drop_needs_query : Query
drop_needs_query = over_table 9 (key_is 1 ∷ []) (col 1 0 ∷ []) [] no_limit

pub drop_needs_is : Is drop_needs_sql (Delete 4 (record { lets = []; body = drop_needs_query }))
unfolding understood everything
drop_needs_is = (refl, (refl, refl))

pub drops_needs : (n : ℕ) (old new : State) (count : ℕ) → IsReady old → ExecutesInside 0 drop_needs_sql (Int (pos n) ∷ []) old new (Ok count)
    → Changes old new (drop_needs n)
drops_needs n old new count ready h =
    let params = Int (pos n) ∷ [] in
    let program : Program = record { lets = []; body = drop_needs_query } in
    let w = runs_as drop_needs_sql params old new gate_schema ready.schema_is (Delete 4 program) drop_needs_is.0 drop_needs_is.1 count h.0 in
    let e = deletes gate_schema (λ _ _ _. refl) old new ready.schema_is 4 (need_table_at 9) refl (statement_of drop_needs_sql (understood gate_schema drop_needs_sql)) params count program w in
    let db = overlay old.now.trees [] in
    let test = passes (key_is 1 ∷ []) params in
    let same : (v : Row) (x : NeedRow) → drop 1 v ≡ need_columns x → test v ≡ eqb x.change n = λ v x is. told_behind test v _ _ _ (λ w. rw equal_numbers (and_true (eqb x.change n))) is in
    record {
      ready = record { schema_is = e.2.schema_is; inside = h.1.mode };
      named = λ b named. named;
      stands = λ b named stands.
          let left : new.now.trees 9 ≡ filter (λ r. not (test r)) (old.now.trees 9) =
          e.2.applies.rows ∙ leaves_others test (old.now.trees 9) _ stands.need.numbered (deleted_ids 9 (key_is 1 ∷ []) db params e.0 (e.1.answer Null)) in
          with_needs new.now.trees b _ (others_stay old new _ 9 b e.2 refl refl stands)
          (subst (λ rs. IsListed need_columns rs (filter (λ y. not (eqb y.change n)) b.needs)) (sym left) (record {
            columns_are = listed_without need_columns test (λ y. eqb y.change n) same (old.now.trees 9) b.needs stands.need.columns_are;
            numbered = numbered_filter (λ r. not (test r)) (old.now.trees 9) stands.need.numbered;
          }));
    }

-- ---- the needs that stand of a change

abbrev pub standing_needs_sql : List ℕ
standing_needs_sql = codes "SELECT needed FROM need WHERE change = ?1 ORDER BY rowid"

abbrev pub standing_needs_query : Query
standing_needs_query = over_table 9 (key_is 1 ∷ []) (col 1 3 ∷ []) rising no_limit

pub standing_needs_asks : Asks standing_needs_sql standing_needs_query (codes "needed" ∷ [])
unfolding understood everything
standing_needs_asks = ((refl, (refl, refl)), refl)

pub finds_needs : (n : ℕ) (old new : State) (b : Stored) (rows : List Row) → IsReady old → Shown standing_needs_sql (Int (pos n) ∷ []) old new rows → Stands old.now.trees b
    → rows ≡ map need_shown (filter (λ (y : NeedRow). eqb y.change n) b.needs)
finds_needs n old new b rows ready shown stands =
    let params = Int (pos n) ∷ [] in
    let asks = standing_needs_asks in
    let read = reads_as standing_needs_sql params old new gate_schema ready.schema_is (Select (record { lets = []; body = standing_needs_query }) (codes "needed" ∷ [])) asks.0.0 asks.0.1 asks.1 rows shown in
    listed_in_turn need_columns need_shown 9 (key_is 1 ∷ []) (col 1 3 ∷ []) no_limit params (λ (y : NeedRow). eqb y.change n)
    (λ v x is. told_behind (passes (key_is 1 ∷ []) (Int (pos n) ∷ [])) v _ _ (eqb x.change n) (λ w. rw equal_numbers (and_true (eqb x.change n))) is)
    (λ v x is. told_behind (λ v. eval_all (col 1 3 ∷ []) ((Int (pos n) ∷ []) ∷ v ∷ [])) v _ _ (need_shown x) (λ w. refl) is)
    (overlay old.now.trees []) b.needs rows stands.need (read.answer Null)
