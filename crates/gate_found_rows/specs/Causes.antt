-- Which fault of a book an error of the database is.
use Rattle.std.specs.Prelude.{Bool, true, false, if◌then◌else◌}
use Rattle.sqlite.specs.declared.error.Error.{Error}
use Rattle.sqlite.specs.declared.error.Error.TheVariants.{SqliteFailure}
use Rattle.sqlite.specs.declared.error.ErrorCode.TheVariants.{OutOfMemory}
use Rattle.gate_book_trait.specs.declared.fault.BookFault.{BookFault}
use Rattle.gate_book_trait.specs.declared.fault.BookFault.TheVariants as fault

-- the database was refused memory
abbrev pub is_want_of_memory : Error → Bool
is_want_of_memory (SqliteFailure OutOfMemory) = true
is_want_of_memory _ = false

-- want of memory where the database says so, else the store's
abbrev pub book_fault_of : Error → BookFault
book_fault_of e = if is_want_of_memory e then fault.NoMemory else fault.Store
