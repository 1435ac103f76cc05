use Rattle.std.proofs.Common.{◌∙◌, ap, subst}
use Rattle.sqlite.specs.Held.{state}
use Rattle.sqlite.specs.State.{HasCleanDisk}
use Rattle.gate_book_trait.specs.Reads.{Answers}
use Rattle.gate_build_queries.specs.Planned.{jobs_between, plans_of}
use Rattle.gate_found_rows.specs.Reads.{Shows}
use Rattle.gate_build_queries.proofs.PlannedReads.{put_together}
use Rattle.gate_found_rows.proofs.ReadLemmas.{only_read_then, shown_still}
use Rattle.gate_build_queries.proofs.item_plans.plans_between.Goals as goal

pub returns-clause-only_reads : goal.returns-clause-only_reads
returns-clause-only_reads g c =
    only_read_then (state g.S.Store c.args.conn.now) (state g.S.Store c.marked_between.new.conn) (state g.S.Store c.planned_between.new.conn)
    c.marked_between.ensures.only_reads c.planned_between.ensures.only_reads

pub returns-clause-found : goal.returns-clause-found
returns-clause-found g c clean b shows whole =
    let old = state g.S.Store c.args.conn.now in
    let mid = state g.S.Store c.marked_between.new.conn in
    let name = c.args.queue.now in
    let above = c.args.above in
    let last = c.args.last in
    let early : HasCleanDisk mid = c.planned_between.ensures.only_reads.clean clean in
    let still : Shows mid b = shown_still old mid b (c.marked_between.ensures.only_reads.stays early) shows in
    let marked = c.in_ok-marked.ensures.found early b shows whole in
    let up = c.in_ok-marked.ensures.opened early in
    subst (λ ps. Answers ps c.planned_between.result)
    (ap (λ ms. plans_of ms (jobs_between b name above last)) (c.as_slice.ensures ∙ marked) ∙ put_together b name above last old (shows up))
    (c.planned_between.ensures.found clean b still whole)
