-- What the texts of the reads of changes ask.
use Rattle.std.proofs.Common.{ℕ, List, [], ◌∷◌, codes, refl}
use Rattle.sqlite.specs.Collation.TheVariants.{Binary}
use Rattle.sqlite.specs.Listing.{understood}
use Rattle.sqlite.specs.Query.{Query}
use Rattle.sqlite.specs.Term.{Term, col}
use Rattle.sqlite_tied.specs.Compute.{everything}
use Rattle.sqlite_value.specs.Keys.{ascending}
use Rattle.gate_schema.proofs.QueryLemmas.{over_table}
use Rattle.gate_schema.proofs.Statements.{Asks, key_is, no_limit}

-- ---- a change without its needs

abbrev pub change_sql : List ℕ
change_sql = codes "SELECT project, revision, state FROM change WHERE num = ?1"

abbrev pub change_terms : List Term
change_terms = col 1 2 ∷ col 1 3 ∷ col 1 4 ∷ []

abbrev pub change_names : List (List ℕ)
change_names = codes "project" ∷ codes "revision" ∷ codes "state" ∷ []

abbrev pub change_query : Query
change_query = over_table 7 (key_is 0 ∷ []) change_terms [] no_limit

pub change_asks : Asks change_sql change_query change_names
unfolding understood everything
change_asks = ((refl, (refl, refl)), refl)

-- ---- its needs

abbrev pub needs_sql : List ℕ
needs_sql = codes "SELECT needed FROM need WHERE change = ?1 ORDER BY place"

abbrev pub needs_query : Query
needs_query = over_table 9 (key_is 1 ∷ []) (col 1 3 ∷ []) ((col 1 2, ascending Binary) ∷ []) no_limit

pub needs_asks : Asks needs_sql needs_query (codes "needed" ∷ [])
unfolding understood everything
needs_asks = ((refl, (refl, refl)), refl)

-- ---- its approval

abbrev pub approval_sql : List ℕ
approval_sql = codes "SELECT approval FROM change WHERE num = ?1"

abbrev pub approval_query : Query
approval_query = over_table 7 (key_is 0 ∷ []) (col 1 5 ∷ []) [] no_limit

pub approval_asks : Asks approval_sql approval_query (codes "approval" ∷ [])
unfolding understood everything
approval_asks = ((refl, (refl, refl)), refl)
