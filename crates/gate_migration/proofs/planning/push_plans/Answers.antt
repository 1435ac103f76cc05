use Rattle.std.proofs.Common.{◌≡◌, ◌∙◌, ◌++◌, ◌∷◌, [], ap, arith, append-nil, length, map, refl, sym, take, true}
use Rattle.std.proofs.lemmas.List.{length-map, take_all}
use Rattle.sqlite.specs.Held.{state}
use Rattle.sqlite.specs.State.{HasCleanDisk}
use Rattle.gate_queue_queries.specs.First.{pair_shown}
use Rattle.gate_found_rows.proofs.DecodeLemmas.{row_shows}
use Rattle.gate_queue_queries.proofs.FirstReads.{first_still}
use Rattle.gate_found_rows.proofs.ReadLemmas.{only_read_then}
use Rattle.gate_migration.specs.Migrates.{plan_for, puts}
use Rattle.gate_migration.proofs.PlanningLemmas.{nothing_read, push_more}
use Rattle.gate_migration.proofs.planning.push_plans.Goals as goal

pub loop-row-init : goal.loop-row-init
loop-row-init g c = record {
  only_reads = nothing_read (state g.S.Store c.args.conn.now);
  found = λ clean b s shows are pairs rows. sym (append-nil c.args.edits.now.items);
}

pub loop-row-preserved : goal.loop-row-preserved
loop-row-preserved g c =
    let first = state g.S.Store c.args.conn.now in
    let old = state g.S.Store c.loop-row.conn in
    let new = state g.S.Store c.plan_of.new.conn in
    let was = c.loop-row.invariant in
    record {
      only_reads = only_read_then first old new was.only_reads c.plan_of.ensures.only_reads;
      found = λ clean b s shows are pairs rows.
          let k = c.loop-row.row-index in
          let f = plan_for c.args.config.now s c.args.may_fail_fast in
          let early : HasCleanDisk old = c.plan_of.ensures.only_reads.clean clean in
          let still = first_still first old b (was.only_reads.stays early) shows in
          let at = row_shows (λ p. pair_shown p.0 p.1) (λ _. true) c.args.rows.now c.row-item.result k pairs c.loop-row-test.true c.row-item.is rows (λ _ _ _. refl) in
          c.in_ok-push_plan.ensures ∙ ap (λ l. l ++ puts (c.in_ok-plan.plan ∷ [])) (was.found early b s shows are pairs rows)
          ∙ push_more f c.args.edits.now.items k pairs at.one c.in_ok-plan.plan (c.in_ok-plan.ensures.found clean b s still are at.one at.is) at.next;
    }

pub returns-in_err-plan-clause-only_reads : goal.returns-in_err-plan-clause-only_reads
returns-in_err-plan-clause-only_reads g c =
    only_read_then (state g.S.Store c.args.conn.now) (state g.S.Store c.loop-row.conn) (state g.S.Store c.plan_of.new.conn) c.loop-row.invariant.only_reads c.plan_of.ensures.only_reads

pub returns-in_err-push_plan-clause-only_reads : goal.returns-in_err-push_plan-clause-only_reads
returns-in_err-push_plan-clause-only_reads g c =
    only_read_then (state g.S.Store c.args.conn.now) (state g.S.Store c.loop-row.conn) (state g.S.Store c.plan_of.new.conn) c.loop-row.invariant.only_reads c.plan_of.ensures.only_reads

pub returns-clause-found : goal.returns-clause-found
returns-clause-found g c clean b s shows are pairs rows =
    let k = c.loop-row.row-index in
    let all : take k pairs ≡ pairs = take_all k pairs (omega (arith, c.loop-row-test.false, ap length rows, length-map pairs (λ p. pair_shown p.0 p.1))) in
    c.loop-row.invariant.found clean b s shows are pairs rows ∙ ap (λ l. c.args.edits.now.items ++ puts (map (plan_for c.args.config.now s c.args.may_fail_fast) l)) all
