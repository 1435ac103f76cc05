-- What the texts of the reads of plans ask.
use Rattle.std.proofs.Common.{ℕ, List, [], ◌∷◌, codes, refl}
use Rattle.sqlite.specs.Collation.TheVariants.{Binary}
use Rattle.sqlite.specs.Listing.{understood}
use Rattle.sqlite.specs.Query.{Query}
use Rattle.sqlite.specs.Term.{Term, col, op2}
use Rattle.sqlite_sql.specs.declared.ops.BinaryOp.TheVariants.{Compare}
use Rattle.sqlite_sql.specs.declared.ops.CompareOp.TheVariants.{Eq}
use Rattle.sqlite_tied.specs.Compute.{everything}
use Rattle.sqlite_value.specs.Keys.{ascending}
use Rattle.gate_schema.proofs.QueryLemmas.{over_table}
use Rattle.gate_schema.proofs.Statements.{Asks, key_is, no_limit}
use Rattle.gate_build_queries.proofs.BetweenReads.{between_query}

-- ---- its jobs

abbrev pub jobs_sql : List ℕ
jobs_sql = codes "SELECT name, voting FROM item_job WHERE serial = ?1 ORDER BY place"

abbrev pub jobs_terms : List Term
jobs_terms = col 1 3 ∷ col 1 4 ∷ []

abbrev pub jobs_names : List (List ℕ)
jobs_names = codes "name" ∷ codes "voting" ∷ []

abbrev pub jobs_query : Query
jobs_query = over_table 26 (key_is 1 ∷ []) jobs_terms ((col 1 2, ascending Binary) ∷ []) no_limit

pub jobs_asks : Asks jobs_sql jobs_query jobs_names
unfolding understood everything
jobs_asks = ((refl, (refl, refl)), refl)

-- ---- whether it fails fast

abbrev pub fast_sql : List ℕ
fast_sql = codes "SELECT serial FROM item_fast WHERE serial = ?1"

abbrev pub fast_query : Query
fast_query = over_table 28 (key_is 0 ∷ []) (col 1 0 ∷ []) [] no_limit

pub fast_asks : Asks fast_sql fast_query (codes "serial" ∷ [])
unfolding understood everything
fast_asks = ((refl, (refl, refl)), refl)

-- ---- the jobs of the items of a queue between two serials, and their marks

abbrev pub planned_sql : List ℕ
planned_sql = codes "SELECT item_job.serial, item_job.name, item_job.voting FROM item, item_job WHERE item.queue = ?1 AND +item.serial > ?2 AND item.serial <= ?3 AND item_job.serial = item.serial ORDER BY item.serial, item_job.place"

-- a job of the item
abbrev pub planned_of : List Term
planned_of = op2 (Compare Eq Binary) (col 2 1) (col 1 0) ∷ []

abbrev pub planned_terms : List Term
planned_terms = col 2 1 ∷ col 2 3 ∷ col 2 4 ∷ []

abbrev pub planned_names : List (List ℕ)
planned_names = codes "serial" ∷ codes "name" ∷ codes "voting" ∷ []

pub planned_asks : Asks planned_sql (between_query 26 planned_of planned_terms (col 2 2)) planned_names
unfolding understood everything
planned_asks = ((refl, (refl, refl)), refl)

abbrev pub marked_sql : List ℕ
marked_sql = codes "SELECT item_fast.serial FROM item, item_fast WHERE item.queue = ?1 AND +item.serial > ?2 AND item.serial <= ?3 AND item_fast.serial = item.serial ORDER BY item.serial, item_fast.serial"

-- a mark of the item
abbrev pub marked_of : List Term
marked_of = op2 (Compare Eq Binary) (col 2 0) (col 1 0) ∷ []

pub marked_asks : Asks marked_sql (between_query 28 marked_of (col 2 0 ∷ []) (col 2 0)) (codes "serial" ∷ [])
unfolding understood everything
marked_asks = ((refl, (refl, refl)), refl)
