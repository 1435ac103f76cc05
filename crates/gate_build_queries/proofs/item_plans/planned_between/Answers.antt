use Rattle.std.proofs.Common.{◌∙◌}
use Rattle.sqlite.specs.Held.{state}
use Rattle.gate_schema.specs.Schema.{gate_schema}
use Rattle.gate_build_queries.proofs.PlanTexts.{planned_asks}
use Rattle.gate_build_queries.proofs.PlannedReads.{planned_found, planned_in_form}
use Rattle.gate_build_queries.proofs.item_plans.planned_between.Goals as goal

pub returns-in_err-rows-clause-only_reads : goal.returns-in_err-rows-clause-only_reads
returns-in_err-rows-clause-only_reads g c = c.read_rows.ensures.only_reads gate_schema planned_asks.0.1

pub returns-clause-only_reads : goal.returns-clause-only_reads
returns-clause-only_reads g c = c.read_rows.ensures.only_reads gate_schema planned_asks.0.1

pub returns-clause-found : goal.returns-clause-found
returns-clause-found g c clean b shows whole =
    let it = c.in_ok-rows.ensures.finds clean in
    let rows = planned_found (state g.S.Store c.args.conn.now) b c.args.queue.now c.args.above c.args.last c.in_ok-rows.rows.items (shows it.0) whole
    (rw (c.text.ensures, c.as_str.ensures.value, c.capped.ensures, c.serial.ensures) at it.1) in
    c.all_plans.ensures _ (c.deref.ensures.value ∙ rows) (planned_in_form b c.args.queue.now c.args.above c.args.last whole)
