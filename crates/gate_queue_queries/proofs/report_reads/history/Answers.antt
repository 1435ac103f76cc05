use Rattle.std.proofs.lemmas.Result.{err_from_is_err_and}
use Rattle.sqlite.specs.Held.{state}
use Rattle.gate_queue_queries.proofs.HistoryLemmas.{cut_lines, history_reads, history_streams, stops_short, written_last}
use Rattle.gate_queue_queries.proofs.StreamLemmas.{read_by}
use Rattle.gate_queue_queries.proofs.report_reads.history.Goals as goal

pub returns-in_err-count-clause-found : goal.returns-in_err-count-clause-found
returns-in_err-count-clause-found g c clean =
    let s = state g.S.Store c.args.conn.now in
    let p = err_from_is_err_and c.from_residual.result c.from_residual.ensures.1 in
    let lines = rw c.text.ensures at (c.in_err-count.ensures.found clean) in
    rw (p.1, p.2) (cut_lines s c.args.queue.now c.args.front.now g.W.Write.contents c.args.w.now 1000000000000001 c.write_reports.new.w _ (c.in_err-count.ensures.opened clean)
    (λ b shown rs holds. lines rs (λ up. history_streams s b c.args.queue.now rs shown holds)))

pub returns-then-count-ge-MOST_REPORTS-clause-found : goal.returns-then-count-ge-MOST_REPORTS-clause-found
returns-then-count-ge-MOST_REPORTS-clause-found g c clean =
    let s = state g.S.Store c.args.conn.now in
    let lines = rw c.text.ensures at (c.in_ok-count.ensures.found clean) in
    stops_short s c.args.queue.now c.args.front.now g.W.Write.contents c.args.w.now 1000000000000001 c.write_reports.new.w c.in_ok-count.count (c.in_ok-count.ensures.opened clean)
    (λ b shown rs holds. lines rs (λ up. history_streams s b c.args.queue.now rs shown holds))

pub returns-clause-found : goal.returns-clause-found
returns-clause-found g c clean =
    let s = state g.S.Store c.args.conn.now in
    let lines = rw c.text.ensures at (c.in_ok-count.ensures.found clean) in
    written_last s c.args.queue.now c.args.front.now g.W.Write.contents c.args.w.now 1000000000000001 c.write_reports.new.w c.write_end.new.w c.in_ok-count.count c.write_end.result
    c.if-count-ge-MOST_REPORTS.false (c.in_ok-count.ensures.opened clean) (λ b shown rs holds. lines rs (λ up. history_streams s b c.args.queue.now rs shown holds)) c.write_end.ensures

pub returns-in_err-count-clause-only_reads : goal.returns-in_err-count-clause-only_reads
returns-in_err-count-clause-only_reads g c =
    read_by _ _ _ history_reads c.write_reports.ensures.clean c.write_reports.ensures.stays c.write_reports.ensures.crash

pub returns-then-count-ge-MOST_REPORTS-clause-only_reads : goal.returns-then-count-ge-MOST_REPORTS-clause-only_reads
returns-then-count-ge-MOST_REPORTS-clause-only_reads g c =
    read_by _ _ _ history_reads c.write_reports.ensures.clean c.write_reports.ensures.stays c.write_reports.ensures.crash

pub returns-clause-only_reads : goal.returns-clause-only_reads
returns-clause-only_reads g c =
    read_by _ _ _ history_reads c.write_reports.ensures.clean c.write_reports.ensures.stays c.write_reports.ensures.crash
