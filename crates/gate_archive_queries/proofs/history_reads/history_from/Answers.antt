use Rattle.std.proofs.Common.{◌≤◌, ◌∙◌, ◌-◌, arith, drop, max, min, subst}
use Rattle.std.proofs.lemmas.Result.{err_from_is_err_and}
use Rattle.sqlite.specs.Held.{state}
use Rattle.sqlite.specs.State.{HasCleanDisk}
use Rattle.gate_found_rows.proofs.ReadLemmas.{only_read_then, shown_still}
use Rattle.gate_queue_queries.specs.History.{WritesWhole}
use Rattle.gate_queue_queries.proofs.HistoryLemmas.{opened_so, written_head}
use Rattle.gate_queue_queries.proofs.StreamLemmas.{read_by}
use Rattle.gate_archive_queries.proofs.HistoryLemmas.{cut_before_end, history_reads}
use Rattle.gate_archive_queries.proofs.HistoryReads.{history_streams, last_is, text_is}
use Rattle.gate_archive_queries.proofs.history_reads.history_from.Goals as goal

pub returns-in_err-write_reports-clause-found : goal.returns-in_err-write_reports-clause-found
returns-in_err-write_reports-clause-found g c clean b shows whole rs holds =
    let old = state g.S.Store c.args.conn.now in
    let mid = state g.S.Store c.reports.new.conn in
    let p = err_from_is_err_and c.from_residual.result c.from_residual.ensures.1 in
    let early : HasCleanDisk mid = c.write_reports.ensures.clean clean in
    let counted = c.in-Ok.ensures.found early b shows whole in
    let some : 1 ≤ max (min c.args.from 9223372036854775807) 1 = omega arith in
    let stays = c.reports.ensures.only_reads.stays early in
    let cut = (rw (c.text.ensures, c.number.ensures, c.first_place-first.ensures, c.as_str-name.ensures.value) at (c.in_err-write_reports.ensures.found clean))
    (drop (max (min c.args.from 9223372036854775807) 1 - 1) rs)
    (λ up. history_streams mid b c.args.queue.now (max (min c.args.from 9223372036854775807) 1) rs (shown_still old mid b stays shows up) holds some) in
    rw (p.1, p.2) (cut_before_end g.W.Write.contents c.args.w.now c.write_reports.new.w _ _ c.in-Ok.count _
    (text_is c.args.front.now c.args.queue.now c.args.from c.in-Ok.count rs holds.1 (counted ∙ last_is b c.args.queue.now rs holds)) cut)

pub returns-clause-found : goal.returns-clause-found
returns-clause-found g c clean b shows whole rs holds =
    let old = state g.S.Store c.args.conn.now in
    let mid = state g.S.Store c.reports.new.conn in
    let early : HasCleanDisk mid = c.write_reports.ensures.clean clean in
    let counted = c.in-Ok.ensures.found early b shows whole in
    let some : 1 ≤ max (min c.args.from 9223372036854775807) 1 = omega arith in
    let stays = c.reports.ensures.only_reads.stays early in
    let all = (rw (c.text.ensures, c.number.ensures, c.first_place-first.ensures, c.as_str-name.ensures.value) at (c.in_ok-write_reports.ensures.found clean))
    (drop (max (min c.args.from 9223372036854775807) 1 - 1) rs)
    (λ up. history_streams mid b c.args.queue.now (max (min c.args.from 9223372036854775807) 1) rs (shown_still old mid b stays shows up) holds some) in
    subst (λ text. WritesWhole g.W.Write.contents c.args.w.now c.write_end.new.w text c.write_end.result)
    (text_is c.args.front.now c.args.queue.now c.args.from c.in-Ok.count rs holds.1 (counted ∙ last_is b c.args.queue.now rs holds))
    (written_head g.W.Write.contents c.args.w.now c.write_reports.new.w c.write_end.new.w _ _ c.write_end.result all.0 c.write_end.ensures)

pub returns-in_err-write_reports-clause-opened : goal.returns-in_err-write_reports-clause-opened
returns-in_err-write_reports-clause-opened g c clean =
    let old = state g.S.Store c.args.conn.now in
    let mid = state g.S.Store c.reports.new.conn in
    let p = err_from_is_err_and c.from_residual.result c.from_residual.ensures.1 in
    let early : HasCleanDisk mid = c.write_reports.ensures.clean clean in
    rw (p.1, p.2) (λ other. (c.reports.ensures.only_reads.stays early).was_open (c.in_err-write_reports.ensures.opened clean other))

pub returns-clause-opened : goal.returns-clause-opened
returns-clause-opened g c clean =
    let old = state g.S.Store c.args.conn.now in
    let mid = state g.S.Store c.reports.new.conn in
    let early : HasCleanDisk mid = c.write_reports.ensures.clean clean in
    opened_so old c.write_end.result ((c.reports.ensures.only_reads.stays early).was_open (c.in_ok-write_reports.ensures.opened clean))

pub returns-in_err-write_reports-clause-only_reads : goal.returns-in_err-write_reports-clause-only_reads
returns-in_err-write_reports-clause-only_reads g c =
    only_read_then _ _ _ c.reports.ensures.only_reads
    (read_by _ _ _ history_reads c.write_reports.ensures.clean c.write_reports.ensures.stays c.write_reports.ensures.crash)

pub returns-clause-only_reads : goal.returns-clause-only_reads
returns-clause-only_reads g c =
    only_read_then _ _ _ c.reports.ensures.only_reads
    (read_by _ _ _ history_reads c.write_reports.ensures.clean c.write_reports.ensures.stays c.write_reports.ensures.crash)
