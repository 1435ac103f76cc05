use Rattle.std.proofs.Common.{◌∙◌}
use Rattle.sqlite.specs.Held.{state}
use Rattle.gate_schema.specs.Schema.{gate_schema}
use Rattle.gate_build_queries.proofs.PlanReads.{jobs_found, jobs_in_form}
use Rattle.gate_build_queries.proofs.PlanTexts.{jobs_asks}
use Rattle.gate_build_queries.proofs.plans.jobs.Goals as goal

pub returns-in_err-rows-clause-only_reads : goal.returns-in_err-rows-clause-only_reads
returns-in_err-rows-clause-only_reads g c = c.read_rows.ensures.only_reads gate_schema jobs_asks.0.1

pub returns-clause-only_reads : goal.returns-clause-only_reads
returns-clause-only_reads g c = c.read_rows.ensures.only_reads gate_schema jobs_asks.0.1

pub returns-clause-found : goal.returns-clause-found
returns-clause-found g c clean b shows whole =
    let old = state g.S.Store c.args.conn.now in
    let it = c.in_ok-rows.ensures.finds clean in
    let rows = jobs_found old b c.args.number c.in_ok-rows.rows.items (shows it.0) whole (rw c.serial.ensures at it.1) in
    c.all_jobs.ensures _ (c.deref.ensures.value ∙ rows) (jobs_in_form c.args.number b whole)
