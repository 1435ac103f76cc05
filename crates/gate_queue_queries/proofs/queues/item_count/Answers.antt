use Rattle.std.proofs.Common.{◌∷◌, [], ◌∙◌, ap, length}
use Rattle.sqlite.specs.Held.{state}
use Rattle.gate_schema.specs.Schema.{gate_schema}
use Rattle.gate_rows.specs.Matches.{items_of}
use Rattle.gate_queue_queries.proofs.CountReads.{counted_is}
use Rattle.gate_queue_queries.proofs.QueueReads.{count_found}
use Rattle.gate_queue_queries.proofs.QueueTexts.{count_asks}
use Rattle.gate_queue_queries.proofs.queues.item_count.Goals as goal

pub returns-in_err-rows-clause-only_reads : goal.returns-in_err-rows-clause-only_reads
returns-in_err-rows-clause-only_reads g c = c.read_rows.ensures.only_reads gate_schema count_asks.0.1

pub returns-clause-only_reads : goal.returns-clause-only_reads
returns-clause-only_reads g c = c.read_rows.ensures.only_reads gate_schema count_asks.0.1

pub returns-clause-found : goal.returns-clause-found
returns-clause-found g c clean b shows whole =
    let old = state g.S.Store c.args.conn.now in
    let it = c.in_ok-rows.ensures.finds clean in
    let rows = count_found old b c.args.queue.now c.in_ok-rows.rows.items (shows it.0) (rw (c.text.ensures, c.as_str.ensures.value) at it.1) in
    let many = length (items_of c.args.queue.now b.items) in
    c.first_number.ensures (length (items_of c.args.queue.now b.items) ∷ []) (c.deref.ensures.value ∙ rows ∙ ap (λ r. r ∷ []) (counted_is _ (whole.items_are_few c.args.queue.now)))
