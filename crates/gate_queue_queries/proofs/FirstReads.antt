-- What the reads of a file of schema 1 find.
use Rattle.std.proofs.Common.{◌≡◌, ◌≤◌, ◌<◌, ◌<ℤ◌, ℕ, suc, pos, List, [], ◌∷◌, map, filter, find, length, get_or}
use Rattle.std.proofs.Common.{option_map, slice_get, refl, sym, ap, subst, ◌∙◌, arith, IsPermutation, Less, codes}
use Rattle.std.proofs.Common.{eqb, false, IsTrue}
use Rattle.std.proofs.lemmas.Int.{ints}
use Rattle.std.proofs.lemmas.List.Sorted.{IsPermutation-map, IsPermutation-sym, IsPermutation-trans}
use Rattle.std.specs.List.{AllByRecursion}
use Rattle.sqlite.specs.Collation.TheVariants.{Binary}
use Rattle.sqlite.specs.Command.TheVariants.{Select}
use Rattle.sqlite.specs.Given.{IsPlain}
use Rattle.sqlite.specs.Listing.{reads_listing, understood}
use Rattle.sqlite.specs.Order.{Row}
use Rattle.sqlite.specs.Program.{overlay}
use Rattle.sqlite.specs.Query.{IsAnswer, Output, Query, output, output_cmp, page}
use Rattle.sqlite.specs.Schema.{Schema}
use Rattle.sqlite.specs.State.{State}
use Rattle.sqlite.specs.Term.{Term, col}
use Rattle.sqlite.specs.declared.types.Value.TheVariants.{Int, Text as Words}
use Rattle.sqlite.proofs.Callers.{command_of}
use Rattle.sqlite_keyed.proofs.ListLemmas.{ascending-map, ascending_weaker, map-map, slice_get-filter}
use Rattle.sqlite_keyed.proofs.SortLemmas.{sorted_unique}
use Rattle.sqlite_resolve.specs.declared.compiled.Compiled.{Compiled}
use Rattle.sqlite_resolve.specs.declared.error.CompileError.{CompileError}
use Rattle.sqlite_sql.proofs.QueryLemmas.{output_cmp_total}
use Rattle.sqlite_tied.proofs.RuleLemmas.{and_true}
use Rattle.sqlite_tied.specs.Compute.{everything}
use Rattle.sqlite_trees.specs.Tree.{IsAscending}
use Rattle.sqlite_value.specs.Keys.{ascending}
use Rattle.gate_types.specs.Names.{same_name}
use Rattle.gate_types.specs.Tables.{numbered_landings}
use Rattle.gate_types.specs.declared.records.Item.{Item}
use Rattle.gate_types.specs.declared.records.Landing.{Landing}
use Rattle.gate_types.specs.declared.rows.ChangeRow.{ChangeRow}
use Rattle.gate_types.specs.declared.rows.LandingRow.{LandingRow}
use Rattle.gate_rows.specs.Matches.{items_of, landings_of}
use Rattle.gate_schema.specs.Rows.{ItemRow, QueueLanding, Stored, change_key, change_table_row, item_key}
use Rattle.gate_schema.specs.Rows.{item_table_row}
use Rattle.gate_schema.specs.Rows.{landing_columns}
use Rattle.gate_schema.proofs.QueryLemmas.{kept_is, over_table, passes}
use Rattle.gate_schema.proofs.Statements.{key_is, no_limit, rising}
use Rattle.gate_schema.proofs.ValueLemmas.{equal_numbers, equal_texts}
use Rattle.gate_found_rows.specs.Finds.{Finds, IsPlainQuery, Stays}
use Rattle.gate_queue_queries.specs.First.{HoldsLandings, IsProjectOf, ShowsFirst, first_schema, pair_shown}
use Rattle.gate_found_rows.specs.Shown.{number_shown}
use Rattle.gate_found_rows.proofs.KeyedReads.{finds_few, finds_rising, one_at, rises}
use Rattle.gate_schema.proofs.ListedQueries.{kept_shown}
use Rattle.gate_schema.proofs.RowLemmas.{told_behind}

-- ---- a text as a query of schema 1

abbrev AsksFirst : List ℕ → Query → List (List ℕ) → Type 0
AsksFirst sql q names =
    (command_of (understood first_schema sql) ≡ Select (record { lets = []; body = q }) names) × IsPlain (understood first_schema sql) × (reads_listing first_schema sql ≡ false)

plain_of : (r : Rattle.std.specs.Prelude.Result Compiled CompileError) (q : Query) (names : List (List ℕ)) → command_of r ≡ Select (record { lets = []; body = q }) names → IsPlain r → IsPlainQuery r q names
plain_of (Rattle.std.specs.Prelude.Ok c) q names is plain = (is, plain.0, plain.1)
plain_of (Rattle.std.specs.Prelude.Err e) q names is plain = absurd cc

answers : (s : State) (sql : List ℕ) (q : Query) (names : List (List ℕ)) (params : Row) (rows : List Row) → AsksFirst sql q names →
    s.now.schema ≡ first_schema → Finds sql params s.now rows → IsAnswer q (overlay s.now.trees []) params rows
answers s sql q names params rows asks is finds =
    finds q names
    (subst (λ (t : Schema). IsPlainQuery (understood t sql) q names) (sym is) (plain_of (understood first_schema sql) q names asks.0 asks.1))
    (ap (λ (t : Schema). reads_listing t sql) is ∙ asks.2)

-- ---- items

abbrev pub item_pairs_sql : List ℕ
item_pairs_sql = codes "SELECT serial, change FROM item WHERE queue = ?1 ORDER BY serial"

abbrev pair_names : List (List ℕ)
pair_names = codes "serial" ∷ codes "change" ∷ []

abbrev item_pairs_query : Query
item_pairs_query = over_table 11 (key_is 2 ∷ []) (col 1 0 ∷ col 1 3 ∷ []) rising no_limit

pub item_pairs_asks : AsksFirst item_pairs_sql item_pairs_query pair_names
unfolding understood everything
item_pairs_asks = (refl, (refl, refl), refl)

pub item_pairs_found : (s : State) (b : Stored) (name : List ℕ) (rows : List Row) → ShowsFirst s b → Finds item_pairs_sql (Words name ∷ []) s.now rows
    → rows ≡ map (λ (i : Item). pair_shown i.serial i.change) (items_of name b.items)
item_pairs_found s b name rows shown finds =
    let params = Words name ∷ [] in
    finds_rising item_key item_table_row (λ (r : ItemRow). pair_shown r.item.serial r.item.change) 11 (key_is 2 ∷ []) (col 1 0 ∷ col 1 3 ∷ []) no_limit params (λ (r : ItemRow). same_name r.queue name)
    (λ r. rw (equal_texts r.queue name, and_true (same_name r.queue name))) (λ r. refl) (λ r. refl) (overlay s.now.trees []) b.items rows shown.item
    (answers s item_pairs_sql item_pairs_query pair_names params rows item_pairs_asks shown.schema_is finds)
    ∙ sym (map-map (λ (i : Item). pair_shown i.serial i.change) (λ (r : ItemRow). r.item) _)

-- ---- landings

abbrev pub landing_pairs_sql : List ℕ
landing_pairs_sql = codes "SELECT serial, change FROM landing WHERE queue = ?1 ORDER BY n"

abbrev pair_terms : List Term
pair_terms = col 1 3 ∷ col 1 4 ∷ []

abbrev landing_pairs_query : Query
landing_pairs_query = over_table 14 (key_is 1 ∷ []) pair_terms ((col 1 2, ascending Binary) ∷ []) no_limit

pub landing_pairs_asks : AsksFirst landing_pairs_sql landing_pairs_query pair_names
unfolding understood everything
landing_pairs_asks = (refl, (refl, refl), refl)

-- what the query makes of a landing: what it sorts by, and what it shows
abbrev out : LandingRow → Output
out r = (number_shown r.place, pair_shown r.landing.serial r.landing.change)

numbered_above : (m n : ℕ) (ls : List Landing) → m ≤ n → AllByRecursion (λ (s : LandingRow). m < s.place) (numbered_landings n ls)
numbered_above m n [] low = tt
numbered_above m n (l ∷ ls) low = (omega arith, numbered_above m (suc n) ls (omega arith))

numbered_rises : (n : ℕ) (ls : List Landing) → IsAscending (λ (r s : LandingRow). r.place < s.place) (numbered_landings n ls)
numbered_rises n [] = tt
numbered_rises n (l ∷ ls) = (numbered_above (suc n) (suc n) ls (omega arith), numbered_rises (suc n) ls)

numbered_shown : (n : ℕ) (ls : List Landing) → map (λ (r : LandingRow). pair_shown r.landing.serial r.landing.change) (numbered_landings n ls) ≡ map (λ (l : Landing). pair_shown l.serial l.change) ls
numbered_shown n [] = refl
numbered_shown n (l ∷ ls) = ap (λ rs. pair_shown l.serial l.change ∷ rs) (numbered_shown (suc n) ls)

pub landing_pairs_found : (s : State) (b : Stored) (name : List ℕ) (ls : List Landing) (rows : List Row) → ShowsFirst s b → HoldsLandings b name ls → Finds landing_pairs_sql (Words name ∷ []) s.now rows
    → rows ≡ map (λ (l : Landing). pair_shown l.serial l.change) ls
landing_pairs_found s b name ls rows shown holds finds =
    let params = Words name ∷ [] in
    let q = landing_pairs_query in
    let db = overlay s.now.trees [] in
    let a = answers s landing_pairs_sql landing_pairs_query pair_names params rows landing_pairs_asks shown.schema_is finds in
    let outs : map (λ (r : Row). output q (params ∷ r ∷ [])) (filter (passes (key_is 1 ∷ []) (Words name ∷ [])) (db 14)) ≡ map (λ (l : QueueLanding). out l.row) (filter (λ (l : QueueLanding). same_name l.queue name) b.landings) =
    kept_shown landing_columns (passes (key_is 1 ∷ []) (Words name ∷ [])) (λ (l : QueueLanding). same_name l.queue name)
    (λ v l is. told_behind (passes (key_is 1 ∷ []) (Words name ∷ [])) v _ _ (same_name l.queue name) (λ w. rw equal_texts (and_true (same_name l.queue name))) is)
    (λ r. output landing_pairs_query ((Words name ∷ []) ∷ r ∷ [])) (λ (l : QueueLanding). out l.row)
    (λ v l is. told_behind (λ v. output landing_pairs_query ((Words name ∷ []) ∷ v ∷ [])) v _ _ (out l.row) (λ w. refl) is)
    (db 14) b.landings shown.landing.columns_are in
    let kept : a.kept ≡ map out (landings_of name b.landings) =
    kept_is 14 (key_is 1 ∷ []) pair_terms ((col 1 2, ascending Binary) ∷ []) no_limit db params rows a ∙ outs ∙ sym (map-map out (λ (l : QueueLanding). l.row) _) in
    let up : IsAscending (λ x y. output_cmp q x y ≡ Less) (map out (numbered_landings 0 ls)) =
    ascending-map _ out _ (ascending_weaker _ (λ (r t : LandingRow). output_cmp q (out r) (out t) ≡ Less)
    (λ r t less. let above : pos r.place <ℤ pos t.place = omega (arith, ints) in rises _ _ r.place t.place refl refl above) _ (numbered_rises 0 ls)) in
    let same : IsPermutation (map out (numbered_landings 0 ls)) a.ordered =
    IsPermutation-trans _ _ _ (IsPermutation-map out _ _ (IsPermutation-sym _ _ holds)) (subst (λ k. IsPermutation k a.ordered) kept a.same) in
    let ordered : a.ordered ≡ map out (numbered_landings 0 ls) = sorted_unique (output_cmp q) (output_cmp_total q) _ _ up same a.sorted in
    a.shown ∙ ap (λ os. page q (Words name ∷ []) (map (λ (o : Output). o.1) os)) ordered ∙ map-map _ out _ ∙ numbered_shown 0 ls

-- ---- the project of a change

abbrev pub project_sql : List ℕ
project_sql = codes "SELECT project FROM change WHERE num = ?1"

abbrev project_query : Query
project_query = over_table 7 (key_is 0 ∷ []) (col 1 2 ∷ []) [] no_limit

pub project_asks : AsksFirst project_sql project_query (codes "project" ∷ [])
unfolding understood everything
project_asks = (refl, (refl, refl), refl)

-- a name
abbrev name_shown : List ℕ → Row
name_shown name = Words name ∷ []

project_found : (s : State) (b : Stored) (n : ℕ) (rows : List Row) → ShowsFirst s b → Finds project_sql (Int (pos n) ∷ []) s.now rows
    → rows ≡ map (λ (r : ChangeRow). name_shown r.change.project) (filter (λ (r : ChangeRow). eqb (change_key r) n) b.changes)
project_found s b n rows shown finds =
    let params = Int (pos n) ∷ [] in
    finds_few change_key change_table_row (λ (r : ChangeRow). name_shown r.change.project) 7 (key_is 0 ∷ []) (col 1 2 ∷ []) no_limit params (λ (r : ChangeRow). eqb (change_key r) n)
    (λ r. rw equal_numbers (and_true (eqb (change_key r) n))) (λ r. refl) (overlay s.now.trees []) b.changes rows shown.change (one_at change_key n b.changes shown.change.in_order)
    (answers s project_sql project_query (codes "project" ∷ []) params rows project_asks shown.schema_is finds)

-- the one row shows the project of the change
pub project_shown : (s : State) (b : Stored) (n : ℕ) (rows : List Row) (row : Row) → ShowsFirst s b → Finds project_sql (Int (pos n) ∷ []) s.now rows → length rows ≡ 1 → row ≡ get_or rows 0 row
    → (name : List ℕ) × (row ≡ name_shown name) × IsProjectOf b.changes n name
project_shown s b n rows row shown finds one at =
    go (filter (λ (r : ChangeRow). eqb (change_key r) n) b.changes) rows (project_found s b n rows shown finds) one at (slice_get-filter (λ (r : ChangeRow). eqb (change_key r) n) b.changes)
  where
    go : (rs : List ChangeRow) (rows : List Row) → rows ≡ map (λ (r : ChangeRow). name_shown r.change.project) rs → length rows ≡ 1 → row ≡ get_or rows 0 row
        → slice_get rs 0 ≡ find (λ (r : ChangeRow). eqb (change_key r) n) b.changes → (name : List ℕ) × (row ≡ name_shown name) × IsProjectOf b.changes n name
    go [] rows are one at first = absurd (let none = ap length are in omega (arith, one, none))
    go (r ∷ rs) rows are one at first = (r.change.project, at ∙ ap (λ l. get_or l 0 row) are, ap (option_map (λ (r : ChangeRow). r.change.project)) (sym first))

-- what a file of schema 1 shows, it shows after a read
pub first_still : (old new : State) (b : Stored) → Stays old new → (IsTrue old.is_open → ShowsFirst old b) → IsTrue new.is_open → ShowsFirst new b
first_still old new b stays shows up =
    let was = shows (stays.was_open up) in
    let is = stays.now_is up in
    record {
      schema_is = ap (λ d. d.schema) is ∙ was.schema_is;
      change = subst (λ d. Rattle.gate_schema.specs.Rows.IsKeyed change_key change_table_row (d.trees 7) b.changes) (sym is) was.change;
      item = subst (λ d. Rattle.gate_schema.specs.Rows.IsKeyed item_key item_table_row (d.trees 11) b.items) (sym is) was.item;
      landing = subst (λ d. Rattle.gate_schema.specs.Rows.IsListed landing_columns (d.trees 14) b.landings) (sym is) was.landing;
    }
