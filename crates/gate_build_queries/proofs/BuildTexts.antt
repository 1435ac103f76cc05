-- What the texts of the reads of builds ask.
use Rattle.std.proofs.Common.{ℕ, pos, List, [], ◌∷◌, codes, refl}
use Rattle.sqlite.specs.Collation.TheVariants.{Binary}
use Rattle.sqlite.specs.Listing.{understood}
use Rattle.sqlite.specs.Query.{Query}
use Rattle.sqlite.specs.Term.{Term, col, lit, op2}
use Rattle.sqlite.specs.declared.types.Value.TheVariants.{Int}
use Rattle.sqlite_sql.specs.declared.ops.BinaryOp.TheVariants.{Compare}
use Rattle.sqlite_sql.specs.declared.ops.CompareOp.TheVariants.{Eq}
use Rattle.sqlite_tied.specs.Compute.{everything}
use Rattle.gate_schema.proofs.QueryLemmas.{over_table}
use Rattle.gate_schema.proofs.Statements.{Asks, key_is, no_limit, rising}
use Rattle.gate_build_queries.proofs.BetweenReads.{between_query}

-- what they show: all columns
abbrev pub build_terms : List Term
build_terms = col 1 0 ∷ col 1 2 ∷ col 1 3 ∷ col 1 4 ∷ col 1 5 ∷ col 1 6 ∷ col 1 7 ∷ col 1 8 ∷ col 1 9 ∷ col 1 10 ∷ []

abbrev pub build_names : List (List ℕ)
build_names =
    codes "num" ∷ codes "queue" ∷ codes "serial" ∷ codes "change" ∷ codes "revision" ∷ codes "job" ∷ codes "base" ∷ codes "ahead" ∷
    codes "outcome" ∷ codes "live" ∷ []

-- ---- the build of a number

abbrev pub build_sql : List ℕ
build_sql = codes "SELECT num, queue, serial, change, revision, job, base, ahead, outcome, live FROM build WHERE num = ?1"

abbrev pub build_query : Query
build_query = over_table 13 (key_is 0 ∷ []) build_terms [] no_limit

pub build_asks : Asks build_sql build_query build_names
unfolding understood everything
build_asks = ((refl, (refl, refl)), refl)

-- ---- the live builds of a serial

abbrev pub live_sql : List ℕ
live_sql = codes "SELECT num, queue, serial, change, revision, job, base, ahead, outcome, live FROM build WHERE serial = ?1 AND live = 1 ORDER BY num"

abbrev pub live_test : List Term
live_test = key_is 3 ∷ op2 (Compare Eq Binary) (col 1 10) (lit (Int (pos 1))) ∷ []

abbrev pub live_query : Query
live_query = over_table 13 live_test build_terms rising no_limit

pub live_asks : Asks live_sql live_query build_names
unfolding understood everything
live_asks = ((refl, (refl, refl)), refl)

-- ---- the live builds of the items of a queue between two serials

abbrev pub between_sql : List ℕ
between_sql = codes "SELECT build.num, build.queue, build.serial, build.change, build.revision, build.job, build.base, build.ahead, build.outcome, build.live FROM item, build WHERE item.queue = ?1 AND +item.serial > ?2 AND item.serial <= ?3 AND build.serial = item.serial AND build.live = 1 ORDER BY item.serial, build.num"

-- a live build of the item
abbrev pub between_live : List Term
between_live = op2 (Compare Eq Binary) (col 2 3) (col 1 0) ∷ op2 (Compare Eq Binary) (col 2 10) (lit (Int (pos 1))) ∷ []

abbrev pub between_terms : List Term
between_terms = col 2 0 ∷ col 2 2 ∷ col 2 3 ∷ col 2 4 ∷ col 2 5 ∷ col 2 6 ∷ col 2 7 ∷ col 2 8 ∷ col 2 9 ∷ col 2 10 ∷ []

pub between_asks : Asks between_sql (between_query 13 between_live between_terms (col 2 0)) build_names
unfolding understood everything
between_asks = ((refl, (refl, refl)), refl)
