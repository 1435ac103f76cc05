use Rattle.std.proofs.Common.{◌≡◌, ◌++◌, take}
use Rattle.std.specs.Prelude.{string_bytes}
use Rattle.gate_book_trait.specs.Text.{first_line, report_lines}
use Rattle.gate_book.proofs.writing.beginning.Given as goal

abbrev pub invariant-loop-row : goal.invariant-loop-row
invariant-loop-row l = string_bytes l.text ≡ first_line l.name ++ report_lines (take l.row-index l.rows)
