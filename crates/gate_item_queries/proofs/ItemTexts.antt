-- What the texts of the reads of items ask.
use Rattle.std.proofs.Common.{ℕ, true, List, [], ◌∷◌, codes, refl}
use Rattle.sqlite.specs.Collation.TheVariants.{Binary}
use Rattle.sqlite.specs.Listing.{understood}
use Rattle.sqlite.specs.Query.{Query}
use Rattle.sqlite.specs.Term.{Term, lit, col, op2}
use Rattle.sqlite.specs.declared.types.Value.TheVariants.{Null}
use Rattle.sqlite_sql.specs.declared.ops.BinaryOp.TheVariants.{Coalesce, Compare}
use Rattle.sqlite_sql.specs.declared.ops.CompareOp.TheVariants.{Eq, Gt, Lt}
use Rattle.sqlite_tied.specs.Compute.{everything}
use Rattle.sqlite_value.specs.Keys.{ascending}
use Rattle.sqlite_value.specs.declared.keys.Collation.{Collation}
use Rattle.sqlite_value.specs.declared.keys.Key.{Key}
use Rattle.gate_schema.proofs.QueryLemmas.{over_table}
use Rattle.gate_schema.proofs.Statements.{Asks, key_is, no_limit, one_row, rising}
use Rattle.gate_found_rows.proofs.JoinLemmas.{over_tables}
use Rattle.gate_found_rows.proofs.KeyedReads.{falling}

-- what they show: an item, and its queue
abbrev pub item_terms : List Term
item_terms = col 1 0 ∷ col 1 2 ∷ col 1 3 ∷ col 1 4 ∷ col 1 5 ∷ col 1 6 ∷ []

abbrev pub item_names : List (List ℕ)
item_names =
    codes "serial" ∷ codes "queue" ∷ codes "change" ∷ codes "revision" ∷ codes "ahead" ∷ codes "failing" ∷ []

-- ---- the items of a queue

abbrev pub items_sql : List ℕ
items_sql = codes "SELECT serial, queue, change, revision, ahead, failing FROM item WHERE queue = ?1 ORDER BY serial"

abbrev pub items_query : Query
items_query = over_table 11 (key_is 2 ∷ []) item_terms rising no_limit

pub items_is : Asks items_sql items_query item_names
unfolding understood everything
items_is = ((refl, (refl, refl)), refl)

-- ---- the item of a serial, and of a change

abbrev pub item_sql : List ℕ
item_sql = codes "SELECT serial, queue, change, revision, ahead, failing FROM item WHERE serial = ?1"

abbrev pub item_query : Query
item_query = over_table 11 (key_is 0 ∷ []) item_terms [] no_limit

pub item_is : Asks item_sql item_query item_names
unfolding understood everything
item_is = ((refl, (refl, refl)), refl)

abbrev pub queued_sql : List ℕ
queued_sql = codes "SELECT serial, queue, change, revision, ahead, failing FROM item WHERE change = ?1"

abbrev pub queued_query : Query
queued_query = over_table 11 (key_is 3 ∷ []) item_terms [] no_limit

pub queued_is : Asks queued_sql queued_query item_names
unfolding understood everything
queued_is = ((refl, (refl, refl)), refl)

-- ---- the next item above a serial, and the last below

abbrev pub next_sql : List ℕ
next_sql = codes "SELECT serial, queue, change, revision, ahead, failing FROM item WHERE queue = ?1 AND serial > ?2 ORDER BY serial LIMIT 1"

abbrev pub next_test : List Term
next_test = key_is 2 ∷ op2 (Compare Gt Binary) (col 1 0) (col 0 1) ∷ []

abbrev pub next_query : Query
next_query = over_table 11 next_test item_terms rising one_row

pub next_is : Asks next_sql next_query item_names
unfolding understood everything
next_is = ((refl, (refl, refl)), refl)

abbrev pub last_sql : List ℕ
last_sql = codes "SELECT serial, queue, change, revision, ahead, failing FROM item WHERE queue = ?1 AND serial < ?2 ORDER BY serial DESC LIMIT 1"

abbrev pub last_test : List Term
last_test = key_is 2 ∷ op2 (Compare Lt Binary) (col 1 0) (col 0 1) ∷ []

abbrev pub last_query : Query
last_query = over_table 11 last_test item_terms falling one_row

pub last_is : Asks last_sql last_query item_names
unfolding understood everything
last_is = ((refl, (refl, refl)), refl)

-- ---- the next items above a serial

abbrev pub several_sql : List ℕ
several_sql = codes "SELECT serial, queue, change, revision, ahead, failing FROM item WHERE queue = ?1 AND serial > ?2 ORDER BY serial LIMIT ?3"

-- as many rows as the third parameter says
abbrev pub third : Term
third = col 0 2

abbrev pub several_query : Query
several_query = over_table 11 next_test item_terms rising third

pub several_is : Asks several_sql several_query item_names
unfolding understood everything
several_is = ((refl, (refl, refl)), refl)

-- ---- the items above a serial whose changes need another

abbrev pub needing_sql : List ℕ
needing_sql = codes "SELECT DISTINCT item.serial, item.queue, item.change, item.revision, item.ahead, item.failing FROM need, item WHERE need.needed = ?3 AND item.change = need.change AND +item.queue = ?1 AND item.serial > ?2 ORDER BY item.serial"

-- a need of the other, and an item of its change
abbrev pub needing_test : List Term
needing_test =
    op2 (Compare Eq Binary) (col 1 3) (col 0 2) ∷ op2 (Compare Eq Binary) (col 2 3) (col 1 1) ∷
    op2 (Compare Eq Binary) (op2 Coalesce (col 2 2) (lit Null)) (col 0 0) ∷ op2 (Compare Gt Binary) (col 2 0) (col 0 1) ∷ []

abbrev pub needing_terms : List Term
needing_terms = col 2 0 ∷ col 2 2 ∷ col 2 3 ∷ col 2 4 ∷ col 2 5 ∷ col 2 6 ∷ []

-- by rising serial
abbrev pub needing_order : List (Term × Key)
needing_order = (col 2 0, ascending Binary) ∷ []

-- the collations by which two rows are the same
abbrev pub item_collations : List Collation
item_collations = Binary ∷ Binary ∷ Binary ∷ Binary ∷ Binary ∷ Binary ∷ []

abbrev pub needing_query : Query
needing_query = record (over_tables 9 11 needing_test needing_terms needing_order) { distinct = true; collations = item_collations }

pub needing_is : Asks needing_sql needing_query item_names
unfolding understood everything
needing_is = ((refl, (refl, refl)), refl)
