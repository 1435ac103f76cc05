-- When a text is a statement, and the pieces that the gate's statements share.
use Rattle.std.proofs.Common.{◌≡◌, ℕ, List, [], ◌∷◌, negsuc, false, pos}
use Rattle.sqlite.specs.Collation.TheVariants.{Binary}
use Rattle.sqlite.specs.Command.{Command}
use Rattle.sqlite.specs.Command.TheVariants.{Select}
use Rattle.sqlite.specs.Listing.{understood, reads_listing}
use Rattle.sqlite.specs.Query.{Query}
use Rattle.sqlite.specs.Term.{Term, lit, col, op2}
use Rattle.sqlite.specs.declared.types.Value.TheVariants.{Int}
use Rattle.sqlite.proofs.Callers.{IsPlain, command_of}
use Rattle.sqlite_sql.specs.declared.ops.BinaryOp.TheVariants.{Compare}
use Rattle.sqlite_sql.specs.declared.ops.CompareOp.TheVariants.{Eq}
use Rattle.sqlite_value.specs.Keys.{ascending}
use Rattle.sqlite_value.specs.declared.keys.Key.{Key}
use Rattle.gate_schema.specs.Schema.{gate_schema}

-- under the gate's schema the text is this command, with no RETURNING and no clock
abbrev pub Is : List ℕ → Command → Type 0
Is sql command = (command_of (understood gate_schema sql) ≡ command) × IsPlain (understood gate_schema sql)

-- the text is this query, with columns of these names
abbrev pub Asks : List ℕ → Query → List (List ℕ) → Type 0
Asks sql q names =
    Is sql (Select (record { lets = []; body = q }) names) × (reads_listing gate_schema sql ≡ false)

-- a column of the row, from 1, or its rowid at 0, is the first parameter
abbrev pub key_is : ℕ → Term
key_is at = op2 (Compare Eq Binary) (col 1 at) (col 0 0)

-- a column of the row is the second parameter
abbrev pub second_is : ℕ → Term
second_is at = op2 (Compare Eq Binary) (col 1 at) (col 0 1)

-- by rising rowid
abbrev pub rising : List (Term × Key)
rising = (col 1 0, ascending Binary) ∷ []

-- all rows
abbrev pub no_limit : Term
no_limit = lit (Int (negsuc 0))

-- one row
abbrev pub one_row : Term
one_row = lit (Int (pos 1))
