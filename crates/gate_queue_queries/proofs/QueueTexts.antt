-- What the texts of the reads of queues ask.
use Rattle.std.proofs.Common.{ℕ, List, [], ◌∷◌, codes, refl}
use Rattle.sqlite.specs.Collation.TheVariants.{Binary}
use Rattle.sqlite.specs.Listing.{understood}
use Rattle.sqlite.specs.Query.{Query}
use Rattle.sqlite.specs.Term.{Term, col, op2}
use Rattle.sqlite_sql.specs.declared.ops.BinaryOp.TheVariants.{Compare}
use Rattle.sqlite_sql.specs.declared.ops.CompareOp.TheVariants.{Lt}
use Rattle.sqlite_tied.specs.Compute.{everything}
use Rattle.gate_schema.proofs.QueryLemmas.{over_table}
use Rattle.gate_schema.proofs.Statements.{Asks, key_is, no_limit, one_row, rising}
use Rattle.gate_queue_queries.proofs.CountReads.{counting}
use Rattle.gate_found_rows.proofs.KeyedReads.{descending}

-- ---- the window of a queue

abbrev pub window_sql : List ℕ
window_sql = codes "SELECT win FROM queue WHERE name = ?1 ORDER BY rowid"

abbrev pub window_query : Query
window_query = over_table 4 (key_is 1 ∷ []) (col 1 3 ∷ []) rising no_limit

pub window_asks : Asks window_sql window_query (codes "win" ∷ [])
unfolding understood everything
window_asks = ((refl, (refl, refl)), refl)

-- ---- how many items it has

abbrev pub count_sql : List ℕ
count_sql = codes "SELECT count(*) FROM item WHERE queue = ?1"

abbrev pub count_query : Query
count_query = counting 11 (key_is 2 ∷ [])

pub count_asks : Asks count_sql count_query (codes "count(*)" ∷ [])
unfolding understood everything
count_asks = ((refl, (refl, refl)), refl)

-- ---- the place of its last landing, of that before a serial, and of its last report

abbrev pub landing_sql : List ℕ
landing_sql = codes "SELECT n FROM landing WHERE queue = ?1 ORDER BY n DESC LIMIT 1"

abbrev pub landing_query : Query
landing_query = over_table 14 (key_is 1 ∷ []) (col 1 2 ∷ []) ((col 1 2, descending Binary) ∷ []) one_row

pub landing_asks : Asks landing_sql landing_query (codes "n" ∷ [])
unfolding understood everything
landing_asks = ((refl, (refl, refl)), refl)

abbrev pub before_sql : List ℕ
before_sql = codes "SELECT n FROM landing WHERE queue = ?1 AND serial < ?2 ORDER BY n DESC LIMIT 1"

abbrev pub before_test : List Term
before_test = key_is 1 ∷ op2 (Compare Lt Binary) (col 1 3) (col 0 1) ∷ []

abbrev pub before_query : Query
before_query = over_table 14 before_test (col 1 2 ∷ []) ((col 1 2, descending Binary) ∷ []) one_row

pub before_asks : Asks before_sql before_query (codes "n" ∷ [])
unfolding understood everything
before_asks = ((refl, (refl, refl)), refl)

abbrev pub report_sql : List ℕ
report_sql = codes "SELECT place FROM report WHERE queue = ?1 ORDER BY place DESC LIMIT 1"

abbrev pub report_query : Query
report_query = over_table 18 (key_is 1 ∷ []) (col 1 2 ∷ []) ((col 1 2, descending Binary) ∷ []) one_row

pub report_asks : Asks report_sql report_query (codes "place" ∷ [])
unfolding understood everything
report_asks = ((refl, (refl, refl)), refl)
