use Rattle.std.proofs.Common.{◌∙◌}
use Rattle.sqlite.specs.Held.{state}
use Rattle.gate_schema.specs.Schema.{gate_schema}
use Rattle.gate_found_rows.proofs.GreatestLemmas.{answers_greatest}
use Rattle.gate_queue_queries.proofs.QueueReads.{report_found}
use Rattle.gate_queue_queries.proofs.QueueTexts.{report_asks}
use Rattle.gate_queue_queries.proofs.queues.reports.Goals as goal

pub returns-in_err-rows-clause-only_reads : goal.returns-in_err-rows-clause-only_reads
returns-in_err-rows-clause-only_reads g c = c.read_rows.ensures.only_reads gate_schema report_asks.0.1

pub returns-clause-only_reads : goal.returns-clause-only_reads
returns-clause-only_reads g c = c.read_rows.ensures.only_reads gate_schema report_asks.0.1

pub returns-clause-found : goal.returns-clause-found
returns-clause-found g c clean b shows whole =
    let old = state g.S.Store c.args.conn.now in
    let it = c.in_ok-rows.ensures.finds clean in
    let best = report_found old b c.args.queue.now c.in_ok-rows.rows.items (shows it.0) (rw (c.text.ensures, c.as_str.ensures.value) at it.1) in
    answers_greatest _ c.in_ok-rows.rows.items c.first_number.result best (λ ns is. c.first_number.ensures ns (c.deref.ensures.value ∙ is))
