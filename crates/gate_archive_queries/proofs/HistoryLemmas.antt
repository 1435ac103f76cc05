-- What is left of a history text from a place on where it is cut off.
use Rattle.std.proofs.Common.{◌≡◌, ℕ, List, ◌++◌, Option, subst}
use Rattle.gate_types.specs.Tap.{TookFront}
use Rattle.gate_types.specs.declared.tap.Tap.{Tap}
use Rattle.gate_book_trait.specs.Text.{closing_line}
use Rattle.gate_book_trait.specs.declared.fault.HistoryFault.{HistoryFault}
use Rattle.gate_book_trait.specs.declared.fault.HistoryFault.TheVariants as fault
use Rattle.gate_found_rows.specs.Finds.{OnlyReads}
use Rattle.gate_found_rows.proofs.SilentLemmas.{plain_only_reads}
use Rattle.gate_schema.specs.Schema.{gate_schema}
use Rattle.gate_queue_queries.specs.History.{CutsText}
use Rattle.gate_queue_queries.specs.Streamed.{CutsReportLines}
use Rattle.gate_queue_queries.proofs.HistoryLemmas.{last_some}
use Rattle.gate_archive_queries.specs.HistoryFrom.{history_from_sql}
use Rattle.gate_archive_queries.proofs.HistoryReads.{history_asks}

-- the query only reads, whatever the tables are
pub history_reads : OnlyReads history_from_sql
history_reads = plain_only_reads gate_schema history_from_sql history_asks.0.1

-- where the lines are cut, so is the text with its last line
pub cut_before_end : {W : Type 0} (held : W → Option (List ℕ)) (old new : Tap W) (text whole : List ℕ) (count : ℕ) (f : HistoryFault) → text ++ closing_line count ≡ whole → CutsReportLines held old new text f
    → CutsText held old new whole f
cut_before_end held old new text whole count fault.NoQueue is cut = cut
cut_before_end held old new text whole count fault.Unavailable is cut = tt
cut_before_end held old new text whole count fault.Broken is cut = subst (TookFront held old new) is (cut (closing_line count) (last_some count))
cut_before_end held old new text whole count fault.Write is cut = subst (TookFront held old new) is (cut (closing_line count) (last_some count))
