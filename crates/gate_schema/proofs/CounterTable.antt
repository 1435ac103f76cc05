-- The counters: what the statement that sets one means, and what it makes of what the tables hold.
use Rattle.std.proofs.Common.{◌≡◌, ◌≤◌, ℕ, pos, List, [], ◌∷◌, map, drop, filter, length, Bool, Ok, codes, refl, sym}
use Rattle.std.proofs.Common.{ap, subst, ◌∙◌, arith}
use Rattle.std.specs.Prelude.{bytes_eq}
use Rattle.sqlite.specs.Command.TheVariants.{Update}
use Rattle.sqlite.specs.Listing.{understood}
use Rattle.sqlite.specs.Order.{Row}
use Rattle.sqlite.specs.Program.{overlay}
use Rattle.sqlite.specs.Query.{Query}
use Rattle.sqlite.specs.State.{State, ExecutesInside}
use Rattle.sqlite.specs.Term.{Term, col}
use Rattle.sqlite.specs.Tree.{Trees}
use Rattle.sqlite.specs.declared.types.Value.TheVariants.{Null, Int, Text as Words}
use Rattle.sqlite.proofs.Callers.{runs_as, statement_of}
use Rattle.sqlite_schema.specs.declared.program.Program.{Program}
use Rattle.sqlite_tied.proofs.RuleLemmas.{and_true}
use Rattle.sqlite_tied.specs.Compute.{everything}
use Rattle.sqlite_trees.specs.Tree.{rowid}
use Rattle.gate_types.specs.Counters.{Drawn}
use Rattle.gate_types.specs.Tables.{set_counter}
use Rattle.gate_types.specs.declared.edits.Counter.{Counter}
use Rattle.gate_types.specs.declared.edits.Counter.TheVariants.{Approval, Build, Order}
use Rattle.gate_schema.specs.Edits.{draw}
use Rattle.gate_schema.specs.Rows.{IsReady, Changes, IsFixed, counter_columns}
use Rattle.gate_schema.specs.Schema.{gate_schema, counter_table_at}
use Rattle.gate_types.specs.Words.{counter_word}
use Rattle.gate_schema.proofs.ChangeLemmas.{changed, listed_changed, numbered_changed, updated_rows}
use Rattle.gate_schema.proofs.QueryLemmas.{over_table, passes, shows_few}
use Rattle.gate_schema.proofs.RowLemmas.{cast_int, int_cast, told_behind, few_found, out, renewed, written_update}
use Rattle.gate_schema.proofs.Statements.{Is, key_is, no_limit}
use Rattle.gate_schema.proofs.TableLemmas.{others_stay, with_counters}
use Rattle.gate_schema.proofs.ValueLemmas.{equal_texts}
use Rattle.gate_schema.proofs.WriteLemmas.{updates}

abbrev pub set_counter_sql : List ℕ
set_counter_sql = codes "UPDATE counter SET drawn = ?2 WHERE name = ?1"

abbrev pub set_counter_terms : List Term
set_counter_terms = col 1 0 ∷ col 1 1 ∷ col 0 1 ∷ []

abbrev pub set_counter_query : Query
set_counter_query = over_table 2 (key_is 1 ∷ []) (col 1 0 ∷ set_counter_terms) [] no_limit

pub set_counter_is : Is set_counter_sql (Update 1 (record { lets = []; body = set_counter_query }))
unfolding understood everything
set_counter_is = (refl, (refl, refl))

abbrev pair_columns : List ℕ × ℕ → Row
pair_columns p = Words p.0 ∷ Int (pos p.1) ∷ []

abbrev pairs : Drawn → List (List ℕ × ℕ)
pairs d = (codes "approval", d.approval) ∷ (codes "build", d.build) ∷ (codes "order", d.order) ∷ []

pub sets_counter : (k : Counter) (n : ℕ) (old new : State) (count : ℕ) → IsReady old → ExecutesInside 0 set_counter_sql (Words (counter_word k) ∷ Int (pos n) ∷ []) old new (Ok count)
    → Changes old new (draw k n)
sets_counter k n old new count ready h =
    let params = Words (counter_word k) ∷ Int (pos n) ∷ [] in
    let program : Program = record { lets = []; body = set_counter_query } in
    let w = runs_as set_counter_sql params old new gate_schema ready.schema_is (Update 1 program) set_counter_is.0 set_counter_is.1 count h.0 in
    let e = updates gate_schema (λ _ _ _. refl) old new ready.schema_is 1 (counter_table_at 2) refl (statement_of set_counter_sql (understood gate_schema set_counter_sql)) params count program w in
    let db = overlay old.now.trees [] in
    let test = passes (key_is 1 ∷ []) params in
    let new_row = renewed (counter_table_at 2) set_counter_terms params old.now.trees in
    let p : (List ℕ × ℕ) → Bool = λ x. bytes_eq x.0 (counter_word k) in
    let same : (v : Row) (x : List ℕ × ℕ) → drop 1 v ≡ pair_columns x → test v ≡ bytes_eq x.0 (counter_word k) = λ v x is. told_behind test v _ _ _ (λ y. rw equal_texts (and_true (bytes_eq x.0 (counter_word k)))) is in
    let made : (v : Row) (x : List ℕ × ℕ) → drop 1 v ≡ pair_columns x → drop 1 (new_row v) ≡ pair_columns (x.0, n) = λ v x is. made_count k n x old.now.trees v is in
    record {
      ready = record { schema_is = e.2.schema_is; inside = h.1.mode };
      named = λ b named. named;
      stands = λ b named stands.
          let few : length (filter (λ x. bytes_eq x.0 (counter_word k)) (pairs b.counters)) ≤ 1 = one_of k b.counters in
          let short : length (filter test (old.now.trees 2)) ≤ 1 = subst (λ n. n ≤ 1) (sym (few_found pair_columns test (λ x. bytes_eq x.0 (counter_word k)) same (old.now.trees 2) (pairs b.counters) stands.counter.columns_are)) few in
          let rows : e.0 ≡ map (out (counter_table_at 2) set_counter_terms params old.now.trees) (filter test (old.now.trees 2)) =
          shows_few 2 (key_is 1 ∷ []) (col 1 0 ∷ set_counter_terms) [] no_limit db params e.0 short (e.1.answer Null) in
          let left : new.now.trees 2 ≡ changed test new_row (old.now.trees 2) =
          e.2.applies.rows ∙ written_update (counter_table_at 2) set_counter_terms params old.now.trees e.0 _ rows short
          ∙ updated_rows test new_row (old.now.trees 2) stands.counter.numbered (λ r its. int_cast (rowid r) its) short in
          with_counters new.now.trees b (set_counter k n b.counters) (others_stay old new _ 2 b e.2 refl refl stands)
          (subst (IsFixed (counter_columns (set_counter k n b.counters))) (sym left) (record {
            columns_are = listed_changed pair_columns test new_row (λ x. bytes_eq x.0 (counter_word k)) (λ x. (x.0, n)) same made (old.now.trees 2) (pairs b.counters) stands.counter.columns_are ∙ drawn_is k n b.counters;
            numbered = numbered_changed test new_row (λ r its. int_cast (rowid r) its) (old.now.trees 2) stands.counter.numbered;
          }));
    }
  where
    made_count : (k : Counter) (n : ℕ) (x : List ℕ × ℕ) (db : Trees) (v : Row) → drop 1 v ≡ pair_columns x
        → drop 1 (renewed (counter_table_at 2) set_counter_terms (Words (counter_word k) ∷ Int (pos n) ∷ []) db v) ≡ pair_columns (x.0, n)
    made_count k n x db [] is = absurd cc
    made_count k n x db (y ∷ rest) is = ap (λ l. drop 1 (renewed (counter_table_at 2) set_counter_terms (Words (counter_word k) ∷ Int (pos n) ∷ []) db (y ∷ l))) is ∙ rw cast_int

    one_of : (k : Counter) (d : Drawn) → length (filter (λ x. bytes_eq x.0 (counter_word k)) (pairs d)) ≤ 1
    one_of Approval d = omega arith
    one_of Build d = omega arith
    one_of Order d = omega arith

    drawn_is : (k : Counter) (n : ℕ) (d : Drawn) → map pair_columns (changed (λ x. bytes_eq x.0 (counter_word k)) (λ x. (x.0, n)) (pairs d)) ≡ counter_columns (set_counter k n d)
    drawn_is Approval n d = refl
    drawn_is Build n d = refl
    drawn_is Order n d = refl
