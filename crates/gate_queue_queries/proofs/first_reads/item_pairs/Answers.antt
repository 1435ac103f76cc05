use Rattle.std.proofs.lemmas.Result.{IfOk-weaker}
use Rattle.sqlite.specs.Held.{state}
use Rattle.gate_queue_queries.specs.First.{first_schema}
use Rattle.gate_queue_queries.proofs.FirstReads.{item_pairs_asks, item_pairs_found}
use Rattle.gate_queue_queries.proofs.first_reads.item_pairs.Goals as goal

pub returns-clause-only_reads : goal.returns-clause-only_reads
returns-clause-only_reads g c = c.read_rows.ensures.only_reads first_schema item_pairs_asks.1

pub returns-clause-found : goal.returns-clause-found
returns-clause-found g c clean b shows =
    IfOk-weaker c.read_rows.result _ _ (λ rows it. item_pairs_found (state g.S.Store c.args.conn.now) b c.args.queue.now rows.items (shows it.0) (rw (c.text.ensures, c.as_str.ensures.value) at it.1)) (c.read_rows.ensures.finds clean)
