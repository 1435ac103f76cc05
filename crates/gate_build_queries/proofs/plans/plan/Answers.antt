use Rattle.std.proofs.Common.{◌∙◌}
use Rattle.sqlite.specs.Held.{state}
use Rattle.sqlite.specs.State.{HasCleanDisk}
use Rattle.gate_found_rows.specs.Asked.{plan_with}
use Rattle.gate_found_rows.specs.Reads.{Shows}
use Rattle.gate_found_rows.proofs.ReadLemmas.{only_read_then, shown_still}
use Rattle.gate_build_queries.proofs.plans.plan.Goals as goal

pub returns-clause-only_reads : goal.returns-clause-only_reads
returns-clause-only_reads g c =
    only_read_then (state g.S.Store c.args.conn.now) (state g.S.Store c.jobs.new.conn) (state g.S.Store c.is_fast.new.conn)
    c.jobs.ensures.only_reads c.is_fast.ensures.only_reads

pub returns-clause-found : goal.returns-clause-found
returns-clause-found g c clean b shows whole =
    let old = state g.S.Store c.args.conn.now in
    let mid = state g.S.Store c.jobs.new.conn in
    let last = c.is_fast.ensures.only_reads in
    let early : HasCleanDisk mid = last.clean clean in
    let still : Shows mid b = shown_still old mid b (c.jobs.ensures.only_reads.stays early) shows in
    let jobs = c.in_ok-jobs.ensures.found early b shows whole in
    let fast = c.in_ok-fast.ensures.found clean b still whole in
    c.plan_with.ensures ∙ (λ i. plan_with c.args.number (fast i) (jobs i))
