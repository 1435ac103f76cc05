-- What one query of a connection says.
use Rattle.std.specs.Prelude.{◌≡◌, ⊤, ℕ, List, [], false, IsTrue, None, Result, Ok, Err}
use Rattle.sqlite.specs.Order.{Row}
use Rattle.sqlite.specs.Query.{Query, IsAnswer}
use Rattle.sqlite.specs.Program.{overlay}
use Rattle.sqlite.specs.Command.TheVariants.{Select}
use Rattle.sqlite.specs.Effect.{Database}
use Rattle.sqlite.specs.Listing.{understood, reads_listing}
use Rattle.sqlite.specs.Schema.{Schema}
use Rattle.sqlite.specs.State.{State}
use Rattle.sqlite_resolve.specs.declared.compiled.Compiled.{Compiled}
use Rattle.sqlite_resolve.specs.declared.error.CompileError.{CompileError}

-- the text is this query, with no RETURNING and no clock
abbrev pub IsPlainQuery : Result Compiled CompileError → Query → List (List ℕ) → Type 0
IsPlainQuery (Ok c) q names =
    (c.command ≡ Select (record { lets = []; body = q }) names) × (c.returning ≡ None) × (c.formats ≡ [])
IsPlainQuery (Err e) q names = ⊥

-- the rows answer the query that the text is
abbrev pub Finds : List ℕ → Row → Database → List Row → Type 0
Finds sql params db rows =
    (q : Query) (names : List (List ℕ)) → IsPlainQuery (understood db.schema sql) q names →
    reads_listing db.schema sql ≡ false → IsAnswer q (overlay db.trees []) params rows

-- it has no RETURNING, where it is a statement at all
abbrev pub IsSilent : Result Compiled CompileError → Type 0
IsSilent (Ok c) = c.returning ≡ None
IsSilent (Err e) = ⊤

-- whatever the tables are, a query of the text writes nothing
abbrev pub OnlyReads : List ℕ → Type 0
OnlyReads sql = (schema : Schema) → IsSilent (understood schema sql)

-- what it shows is as it was, unless it is shut
pub record Stays (old new : State) : Type 0 where
  pub was_open : IsTrue new.is_open → IsTrue old.is_open
  pub now_is : IsTrue new.is_open → new.now ≡ old.now
