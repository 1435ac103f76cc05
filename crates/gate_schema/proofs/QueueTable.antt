-- The queues: what the statement that sets a window means, and what it makes of what the tables hold.
use Rattle.std.proofs.Common.{◌≡◌, ◌≤◌, ℕ, pos, List, [], ◌∷◌, ◌++◌, map, drop, filter, length, Bool, true, false}
use Rattle.std.proofs.Common.{cond, Ok, codes, refl, sym, ap, subst, ◌∙◌}
use Rattle.std.specs.Prelude.{bytes_eq}
use Rattle.std.proofs.lemmas.List.{length-map}
use Rattle.sqlite.specs.Command.TheVariants.{Update}
use Rattle.sqlite.specs.Listing.{understood}
use Rattle.sqlite.specs.Order.{Row}
use Rattle.sqlite.specs.Program.{overlay}
use Rattle.sqlite.specs.Query.{Query}
use Rattle.sqlite.specs.State.{State, ExecutesInside}
use Rattle.sqlite.specs.Term.{Term, col}
use Rattle.sqlite.specs.Tree.{Trees}
use Rattle.sqlite.specs.declared.types.Value.TheVariants.{Null, Int, Text as Words}
use Rattle.sqlite.proofs.Callers.{runs_as, statement_of}
use Rattle.sqlite_schema.specs.declared.program.Program.{Program}
use Rattle.sqlite_keyed.proofs.ListLemmas.{filter-map}
use Rattle.sqlite_tied.proofs.RuleLemmas.{and_true}
use Rattle.sqlite_tied.specs.Compute.{everything}
use Rattle.sqlite_trees.specs.Tree.{rowid}
use Rattle.gate_schema.specs.Edits.{set_window}
use Rattle.gate_schema.specs.Rows.{Stored, QueueRow, AreNamed, IsReady, Changes, IsListed, queue_columns}
use Rattle.gate_schema.specs.Schema.{gate_schema, queue_table_at}
use Rattle.gate_schema.proofs.ChangeLemmas.{changed, listed_changed, numbered_changed, updated_rows}
use Rattle.gate_schema.proofs.QueryLemmas.{over_table, passes, shows_few}
use Rattle.gate_schema.proofs.RowLemmas.{cast_int, int_cast, told_behind, few_found, out, renewed, written_update}
use Rattle.gate_schema.proofs.Statements.{Is, key_is, no_limit}
use Rattle.gate_schema.proofs.TableLemmas.{others_stay, with_queues}
use Rattle.gate_schema.proofs.ValueLemmas.{equal_texts}
use Rattle.gate_schema.proofs.WriteLemmas.{updates}

abbrev pub set_window_sql : List ℕ
set_window_sql = codes "UPDATE queue SET win = ?2 WHERE name = ?1"

abbrev pub set_window_terms : List Term
set_window_terms = col 1 0 ∷ col 1 1 ∷ col 1 2 ∷ col 0 1 ∷ []

abbrev pub set_window_query : Query
set_window_query = over_table 4 (key_is 1 ∷ []) (col 1 0 ∷ set_window_terms) [] no_limit

pub set_window_is : Is set_window_sql (Update 2 (record { lets = []; body = set_window_query }))
unfolding understood everything
set_window_is = (refl, (refl, refl))

same_length : {X Y : Type 0} (f : X → Y) (p : Y → Bool) (xs : List X) → length (filter (λ x. p (f x)) xs) ≡ length (filter p (map f xs))
same_length f p xs = sym (ap length (filter-map p f xs) ∙ simp length-map)

names_stay : (p : QueueRow → Bool) (w : ℕ) (qs : List QueueRow) → map (λ q. q.name) (changed p (λ q. record q { window = w }) qs) ≡ map (λ q. q.name) qs
names_stay p w [] = refl
names_stay p w (q ∷ qs) =
    ap (λ l. l ++ map (λ q. q.name) (changed p (λ q. record q { window = w }) qs)) (elim (p q) as (λ b. ((cond b (record q { window = w }) q).name ∷ []) ≡ q.name ∷ []) [ true ↦ refl | false ↦ refl ])
    ∙ ap (λ l. q.name ∷ l) (names_stay p w qs)

still_named : (name : List ℕ) (w : ℕ) (b : Stored) → AreNamed b → AreNamed (record b { queues = changed (λ q. bytes_eq q.name name) (λ q. record q { window = w }) b.queues })
still_named name w b named other =
    let was = named other in
    let one = same_length (λ (q : QueueRow). q.name) (λ m. bytes_eq m other) (changed (λ q. bytes_eq q.name name) (λ q. record q { window = w }) b.queues) in
    let two = same_length (λ (q : QueueRow). q.name) (λ m. bytes_eq m other) b.queues in
    let same = ap (λ l. length (filter (λ m. bytes_eq m other) l)) (names_stay (λ q. bytes_eq q.name name) w b.queues) in
    subst (λ n. n ≤ 1) (sym (one ∙ same ∙ sym two)) was

pub sets_window : (name : List ℕ) (win : ℕ) (old new : State) (count : ℕ) → IsReady old → ExecutesInside 0 set_window_sql (Words name ∷ Int (pos win) ∷ []) old new (Ok count)
    → Changes old new (set_window name win)
sets_window name win old new count ready h =
    let params = Words name ∷ Int (pos win) ∷ [] in
    let program : Program = record { lets = []; body = set_window_query } in
    let w = runs_as set_window_sql params old new gate_schema ready.schema_is (Update 2 program) set_window_is.0 set_window_is.1 count h.0 in
    let e = updates gate_schema (λ _ _ _. refl) old new ready.schema_is 2 (queue_table_at 4) refl (statement_of set_window_sql (understood gate_schema set_window_sql)) params count program w in
    let db = overlay old.now.trees [] in
    let test = passes (key_is 1 ∷ []) params in
    let new_row = renewed (queue_table_at 4) set_window_terms params old.now.trees in
    let same : (v : Row) (q : QueueRow) → drop 1 v ≡ queue_columns q → test v ≡ bytes_eq q.name name = λ v q is. told_behind test v _ _ _ (λ x. rw equal_texts (and_true (bytes_eq q.name name))) is in
    let made : (v : Row) (q : QueueRow) → drop 1 v ≡ queue_columns q → drop 1 (new_row v) ≡ queue_columns (record q { window = win }) = λ v q is. made_window name win q old.now.trees v is in
    record {
      ready = record { schema_is = e.2.schema_is; inside = h.1.mode };
      named = λ b named. still_named name win b named;
      stands = λ b named stands.
          let short : length (filter test (old.now.trees 4)) ≤ 1 = subst (λ n. n ≤ 1) (sym (few_found queue_columns test (λ q. bytes_eq q.name name) same (old.now.trees 4) b.queues stands.queue.columns_are)) (named name) in
          let rows : e.0 ≡ map (out (queue_table_at 4) set_window_terms params old.now.trees) (filter test (old.now.trees 4)) =
          shows_few 4 (key_is 1 ∷ []) (col 1 0 ∷ set_window_terms) [] no_limit db params e.0 short (e.1.answer Null) in
          let left : new.now.trees 4 ≡ changed test new_row (old.now.trees 4) =
          e.2.applies.rows ∙ written_update (queue_table_at 4) set_window_terms params old.now.trees e.0 _ rows short
          ∙ updated_rows test new_row (old.now.trees 4) stands.queue.numbered (λ r its. int_cast (rowid r) its) short in
          with_queues new.now.trees b _ (others_stay old new _ 4 b e.2 refl refl stands)
          (subst (λ rs. IsListed queue_columns rs (changed (λ q. bytes_eq q.name name) (λ q. record q { window = win }) b.queues)) (sym left) (record {
            columns_are = listed_changed queue_columns test new_row (λ q. bytes_eq q.name name) (λ q. record q { window = win }) same made (old.now.trees 4) b.queues stands.queue.columns_are;
            numbered = numbered_changed test new_row (λ r its. int_cast (rowid r) its) (old.now.trees 4) stands.queue.numbered;
          }));
    }
  where
    made_window : (name : List ℕ) (win : ℕ) (q : QueueRow) (db : Trees) (v : Row) → drop 1 v ≡ queue_columns q
        → drop 1 (renewed (queue_table_at 4) set_window_terms (Words name ∷ Int (pos win) ∷ []) db v) ≡ queue_columns (record q { window = win })
    made_window name win q db [] is = absurd cc
    made_window name win q db (x ∷ rest) is = ap (λ l. drop 1 (renewed (queue_table_at 4) set_window_terms (Words name ∷ Int (pos win) ∷ []) db (x ∷ l))) is ∙ rw (cast_int, cast_int)
