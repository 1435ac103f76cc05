use Rattle.std.proofs.Common.{◌++◌, take, drop}
use Rattle.std.proofs.lemmas.Result.{err_from_is_err_and}
use Rattle.gate_book_trait.specs.Text.{first_line, report_lines, closing_line}
use Rattle.gate_book.proofs.HistoryLemmas.{text_cut, text_written, parts_joined}
use Rattle.gate_book.proofs.writing.write_rows.Goals as goal

pub returns-in_err-write_beginning : goal.returns-in_err-write_beginning
returns-in_err-write_beginning g c =
    let rows = c.args.rows.now in
    let k = c.min.result in
    let front = c.args.front.now ++ (first_line c.args.name.now ++ report_lines (take k rows)) in
    let rest = report_lines (drop k rows) ++ closing_line c.args.count in
    let p = err_from_is_err_and c.from_residual.result c.from_residual.ensures.1 in
    rw p.1 (text_cut g.W.Write.contents c.args.w.now c.write_beginning.new.w front rest _ p.0
    (parts_joined c.args.front.now (first_line c.args.name.now) (closing_line c.args.count) rows k)
    (rw (c.as_str.ensures.value, c.in-Ok.ensures, c.split_at.ensures.front) at c.in_err-write_beginning.ensures.text)
    (rw p.2 c.in_err-write_beginning.ensures.stops))

pub returns : goal.returns
returns g c =
    let rows = c.args.rows.now in
    let k = c.min.result in
    let front = c.args.front.now ++ (first_line c.args.name.now ++ report_lines (take k rows)) in
    let rest = report_lines (drop k rows) ++ closing_line c.args.count in
    text_written g.W.Write.contents c.args.w.now c.write_beginning.new.w c.write_rest.new.w front rest _
    c.write_rest.result
    (parts_joined c.args.front.now (first_line c.args.name.now) (closing_line c.args.count) rows k)
    (rw (c.as_str.ensures.value, c.in-Ok.ensures, c.split_at.ensures.front) at c.in_ok-write_beginning.ensures.text)
    (rw c.split_at.ensures.back at c.write_rest.ensures.text) c.write_rest.ensures.stops
