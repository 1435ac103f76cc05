-- Which faults of a book may come from its store.
use Rattle.std.specs.Prelude.{Bool, true, false}
use Rattle.gate_archive.specs.declared.fault.FeedFault.{FeedFault}
use Rattle.gate_archive.specs.declared.fault.FeedFault.TheVariants as feed
use Rattle.gate_book_trait.specs.declared.fault.BookFault.{BookFault}
use Rattle.gate_book_trait.specs.declared.fault.BookFault.TheVariants as fault
use Rattle.gate_book_trait.specs.declared.fault.HistoryFault.{HistoryFault}
use Rattle.gate_book_trait.specs.declared.fault.HistoryFault.TheVariants as history

-- whether a fault of a read or of edits may come from the store
abbrev pub is_of_store : BookFault → Bool
is_of_store fault.Store = true
is_of_store _ = false

-- whether a fault of writing a history may come from the store
abbrev pub history_may_be_of_store : HistoryFault → Bool
history_may_be_of_store history.Unavailable = true
history_may_be_of_store history.Broken = true
history_may_be_of_store _ = false

-- whether a fault of writing deliveries may come from the store
abbrev pub feed_may_be_of_store : FeedFault → Bool
feed_may_be_of_store feed.Unavailable = true
feed_may_be_of_store feed.Broken = true
feed_may_be_of_store _ = false
