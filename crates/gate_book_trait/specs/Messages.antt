-- What `{}` prints of a fault.
use Rattle.std.specs.Prelude.{ℕ, List, codes}
use Rattle.gate_book_trait.specs.declared.fault.BookFault.{BookFault}
use Rattle.gate_book_trait.specs.declared.fault.BookFault.TheVariants as fault
use Rattle.gate_book_trait.specs.declared.fault.HistoryFault.{HistoryFault}
use Rattle.gate_book_trait.specs.declared.fault.HistoryFault.TheVariants as history

abbrev pub book_fault_message : BookFault → List ℕ
book_fault_message fault.NoMemory = codes "memory was refused"
book_fault_message fault.Store = codes "the store failed"
book_fault_message fault.Damaged = codes "a row isn't of its form: somebody else wrote the store"

abbrev pub history_fault_message : HistoryFault → List ℕ
history_fault_message history.NoQueue = codes "no queue has the name"
history_fault_message history.Unavailable = codes "the store failed or memory was refused, and nothing was written"
history_fault_message history.Broken = codes "the store failed or memory was refused, and a beginning was written"
history_fault_message history.Write = codes "the writer failed, and a beginning was written"
