use Rattle.std.proofs.Common.{◌∙◌}
use Rattle.sqlite.specs.Held.{state}
use Rattle.gate_schema.specs.Schema.{gate_schema}
use Rattle.gate_types.specs.Names.{same_name}
use Rattle.gate_schema.specs.Rows.{QueueRow}
use Rattle.gate_queue_queries.proofs.QueueReads.{window_found, windows_in_form}
use Rattle.gate_queue_queries.proofs.QueueTexts.{window_asks}
use Rattle.gate_found_rows.proofs.ShownLemmas.{answers_told}
use Rattle.gate_queue_queries.proofs.queues.window.Goals as goal

pub returns-in_err-rows-clause-only_reads : goal.returns-in_err-rows-clause-only_reads
returns-in_err-rows-clause-only_reads g c = c.read_rows.ensures.only_reads gate_schema window_asks.0.1

pub returns-clause-only_reads : goal.returns-clause-only_reads
returns-clause-only_reads g c = c.read_rows.ensures.only_reads gate_schema window_asks.0.1

pub returns-clause-found : goal.returns-clause-found
returns-clause-found g c clean b shows whole =
    let old = state g.S.Store c.args.conn.now in
    let it = c.in_ok-rows.ensures.finds clean in
    let rows = window_found old b c.args.queue.now c.in_ok-rows.rows.items (shows it.0) (rw (c.text.ensures, c.as_str.ensures.value) at it.1) in
    answers_told (λ (q : QueueRow). same_name q.name c.args.queue.now) (λ (q : QueueRow). q.window) b.queues c.first_window.result
    (c.first_window.ensures _ (c.deref.ensures.value ∙ rows) (windows_in_form c.args.queue.now b.queues whole.windows))
