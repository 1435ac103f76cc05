-- When what the file's tables hold answers each read of the past as a content does.
use Rattle.std.specs.Prelude.{◌≡◌, ℕ, List, Some}
use Rattle.std.specs.List.{AllPass}
use Rattle.gate_types.specs.Once.{Content}
use Rattle.gate_types.specs.State.{Queue}
use Rattle.gate_book_trait.specs.Reads.{queue_named}
use Rattle.gate_archive.specs.HistoryFrom.{history_from}
use Rattle.gate_archive.specs.ItemText as content
use Rattle.gate_schema.specs.Rows.{Stored}
use Rattle.gate_archive_queries.specs.Asked as file
use Rattle.gate_archive_queries.specs.HistoryFrom.{HoldsDrawnReports, text_from}

-- each read of the tables is that of the content
pub record IsArchiveOf (b : Stored) (x : Content) : Type 0 where
  -- the report of a serial, with its queue's name
  pub left : (serial : ℕ) → file.stored_left_at b serial ≡ content.left_at x.state serial
  -- the reports' rows are in form
  pub left_in_form : AllPass file.is_left_in_form b.reports
  -- all builds of a serial
  pub builds : (serial : ℕ) → file.stored_builds_of b serial ≡ content.builds_of x.state serial
  -- the last of them
  pub last_builds : (serial most : ℕ) → file.stored_last_builds b serial most ≡ content.last_builds x.state serial most
  -- the reports of the queue of a name
  pub reports : (name : List ℕ) (q : Queue) → queue_named x.state name ≡ Some q → HoldsDrawnReports b name q.reports
  -- its history text from a place on
  pub history_from : (name : List ℕ) (q : Queue) (from : ℕ) → queue_named x.state name ≡ Some q →
      text_from name from q.reports ≡ history_from from q
  -- the accepted deliveries, in the order in which they were accepted
  pub kept : b.kept ≡ x.kept
