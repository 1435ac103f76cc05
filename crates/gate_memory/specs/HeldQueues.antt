-- What the queues of a book in memory hold, with the rows of their landings and reports or without.
use Rattle.std.specs.Prelude.{ℕ, List, map}
use Rattle.gate_types.specs.declared.edits.Edit.{Edit}
use Rattle.gate_types.specs.Tables.{QueueRows, edited_queue}
use Rattle.gate_book_trait.specs.RowReads.{all_queued}
use Rattle.gate_book_trait.specs.declared.rows.QueuedItem.{QueuedItem}
use Rattle.gate_memory.specs.Queues.{rows_of_table}
use Rattle.gate_memory.specs.declared.queues.QueueTable.{QueueTable}

-- the rows of a queue, and the last places of the landings and reports that aren't among them
pub record LiveQueue : Type 0 where
  pub rows : QueueRows
  pub landings : ℕ
  pub reports : ℕ

-- the items of all queues, each with the name of its queue
abbrev pub live_queued : List LiveQueue → List QueuedItem
live_queued queues = all_queued (map (λ l. l.rows) queues)

-- a table has all rows of its queue
abbrev pub whole_queue : QueueTable → LiveQueue
whole_queue t = record { rows = rows_of_table t; landings = 0; reports = 0 }

-- so an edit changes its rows alone
abbrev pub edited_whole : Edit → LiveQueue → LiveQueue
edited_whole e l = record l { rows = edited_queue e l.rows }
