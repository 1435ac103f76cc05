use Rattle.std.proofs.Common.{◌++◌, take, drop}
use Rattle.std.proofs.lemmas.Result.{err_from_is_err_and}
use Rattle.gate_archive.specs.Feed.{feed_lines}
use Rattle.gate_book.proofs.FeedLemmas.{first_cut, rest_cut, feed_parts}
use Rattle.gate_book.proofs.feeding.write_all_of.Goals as goal

pub returns-in_err-write_beginning : goal.returns-in_err-write_beginning
returns-in_err-write_beginning g c =
    let ks = c.args.kept.now in
    let i = c.min.result in
    let front = c.args.front.now in
    let p = err_from_is_err_and c.from_residual.result c.from_residual.ensures.1 in
    rw p.1 (first_cut g.W.Write.contents c.args.w.now c.write_beginning.new.w (front ++ feed_lines (take i ks))
    (feed_lines (drop i ks)) _ p.0 (feed_parts front ks i)
    (rw (c.as_str.ensures.value, c.in-Ok.ensures, c.split_at.ensures.front) at c.in_err-write_beginning.ensures.text)
    (rw p.2 c.in_err-write_beginning.ensures.stops))

pub returns-in_err-write_lines : goal.returns-in_err-write_lines
returns-in_err-write_lines g c =
    let ks = c.args.kept.now in
    let i = c.min.result in
    let front = c.args.front.now in
    let p = err_from_is_err_and c.from_residual-in_err-write_lines.result c.from_residual-in_err-write_lines.ensures.1 in
    rw p.1 (rest_cut g.W.Write.contents c.args.w.now c.write_beginning.new.w c.write_lines.new.w
    (front ++ feed_lines (take i ks)) (feed_lines (drop i ks)) _ p.0 (feed_parts front ks i)
    (rw (c.as_str.ensures.value, c.in-Ok.ensures, c.split_at.ensures.front) at c.in_ok-write_beginning.ensures.text)
    (rw c.split_at.ensures.back at c.in_err-write_lines.ensures.text)
    (rw p.2 c.in_err-write_lines.ensures.stops))
