-- What each read of the past says of what the tables hold.
use Rattle.std.specs.Prelude.{ℕ, pos, ◌==◌, ◌&&◌, ◌≡◌, ◌≢◌, Bool, List, [], ◌∷◌, map, filter, find, Option}
use Rattle.std.specs.Prelude.{option_map, Result, MatchResult}
use Rattle.std.specs.List.{AllPass}
use Rattle.sqlite.specs.Order.{Row}
use Rattle.sqlite.specs.State.{HasCleanDisk, State}
use Rattle.sqlite.specs.declared.types.Value.TheVariants.{Int, Text as Words}
use Rattle.gate_types.specs.BuildText.{outcome_word}
use Rattle.gate_types.specs.Forms.{is_change_number, is_drawn_number, is_revision_number}
use Rattle.gate_types.specs.Names.{is_name}
use Rattle.gate_types.specs.declared.records.Build.{Build}
use Rattle.gate_book_trait.specs.declared.fault.BookFault.{BookFault}
use Rattle.gate_book_trait.specs.declared.fault.BookFault.TheVariants as fault
use Rattle.gate_archive.specs.ItemText.{last_of, summary_of}
use Rattle.gate_archive.specs.declared.rows.BuildSummary.{BuildSummary}
use Rattle.gate_archive.specs.declared.rows.LeftItem.{LeftItem}
use Rattle.gate_schema.specs.Rows.{QueueReport, Stored, bit}
use Rattle.gate_found_rows.specs.Reads.{Shows}
use Rattle.gate_queue_queries.specs.History.{report_shown}

-- ---- reports

-- a report, with its queue's name
abbrev pub left_row : QueueReport → LeftItem
left_row l = record { queue = l.queue; report = l.row.report }

-- the report of the item of a serial that left, with its queue's name
abbrev pub stored_left_at : Stored → ℕ → Option LeftItem
stored_left_at b serial = option_map left_row (find (λ (l : QueueReport). l.row.report.serial == serial) b.reports)

-- the columns of a report behind its queue's name, without its place
abbrev pub left_shown : QueueReport → Row
left_shown l = Words l.queue ∷ report_shown l.row.report

-- a report's row: its queue's name and its numbers
abbrev pub is_left_in_form : QueueReport → Bool
is_left_in_form l =
    is_name l.queue && is_drawn_number l.row.report.serial && is_change_number l.row.report.change &&
    is_revision_number l.row.report.revision

-- where the disk has returned what was written, and the reports are in form, what is found is this, and no fault blames
-- a row
abbrev pub TellsIfInForm : {T : Type 0} → State → State → Result T BookFault → (Stored → T) → Type 0
TellsIfInForm old new result value =
    HasCleanDisk new → (b : Stored) → Shows old b → AllPass is_left_in_form b.reports →
    MatchResult result (λ found. found ≡ value b) (λ f. f ≢ fault.Damaged)

-- ---- builds

-- all builds of a serial, live or not, by number
abbrev pub stored_builds_of : Stored → ℕ → List Build
stored_builds_of b serial = filter (λ (x : Build). x.serial == serial) b.builds

-- the last of them, no more than this many
abbrev pub stored_last_builds : Stored → ℕ → ℕ → List BuildSummary
stored_last_builds b serial most = map summary_of (last_of most (stored_builds_of b serial))

-- what is shown of a build: no more than is told of it
abbrev pub summary_shown : Build → Row
summary_shown x =
    Int (pos x.number) ∷ Words x.job ∷ Words (outcome_word x.outcome) ∷ Int (pos (bit x.live)) ∷ []
