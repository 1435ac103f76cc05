-- What a call that makes a book over a connection, or opens one, hands back.
use Rattle.std.specs.Prelude.{ℕ, List, Option, Some, None, Result, Ok, Err}
use Rattle.sqlite.specs.Held.{Held, state}
use Rattle.sqlite.specs.State.{State}
use Rattle.sqlite_trees.specs.declared.store.Store.{Ghosts}
use Rattle.gate_sql.specs.declared.book.SqlBook.{SqlBook}
use Rattle.gate_types.specs.declared.open_fault.OpenFault.{OpenFault}

-- the fault, if there is one
abbrev pub answered : {B C : Type 0} → Result B (OpenFault × C) → Option OpenFault
answered (Ok book) = None
answered (Err e) = Some e.0

-- the state of the connection, in the book or beside the fault
abbrev pub handed : {S : Type 0} → Ghosts S → Result (SqlBook S) (OpenFault × Held S) → State
handed g (Ok book) = state g book.conn
handed g (Err e) = state g e.1

-- the names of the queues that a book knows
abbrev pub names_of : {S : Type 0} → SqlBook S → List (List ℕ)
names_of book = book.queues.items
