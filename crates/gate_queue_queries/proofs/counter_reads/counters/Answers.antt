use Rattle.std.proofs.Common.{◌∙◌}
use Rattle.sqlite.specs.Held.{state}
use Rattle.gate_schema.specs.Schema.{gate_schema}
use Rattle.gate_queue_queries.proofs.CounterReads.{counters_found, counters_is}
use Rattle.gate_queue_queries.proofs.counter_reads.counters.Goals as goal

pub returns-in_err-rows-clause-only_reads : goal.returns-in_err-rows-clause-only_reads
returns-in_err-rows-clause-only_reads g c = c.read_rows.ensures.only_reads gate_schema counters_is.0.1

pub returns-clause-only_reads : goal.returns-clause-only_reads
returns-clause-only_reads g c = c.read_rows.ensures.only_reads gate_schema counters_is.0.1

pub returns-clause-found : goal.returns-clause-found
returns-clause-found g c clean b shows whole =
    let found = c.in_ok-rows.ensures.finds clean in
    c.counters_in.ensures b.counters
    (c.deref.ensures.value ∙ counters_found (state g.S.Store c.args.conn.now) b c.in_ok-rows.rows.items (shows found.0) found.1) whole.counters
