use Rattle.gate_book_trait.specs.Text.{report_lines, closing_line}
use Rattle.gate_book.proofs.HistoryLemmas.{written_later}
use Rattle.gate_book.proofs.writing.write_rest.Goals as goal

pub returns-clause-text : goal.returns-clause-text
returns-clause-text g c =
    written_later g.W.Write.contents c.args.w.now c.write_lines.new.w c.write_end.new.w
    (report_lines c.args.rows.now) (closing_line c.args.count) c.write_end.result
    c.in_ok-write_lines.ensures.text c.write_end.ensures.text
