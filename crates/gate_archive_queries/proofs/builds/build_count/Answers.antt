use Rattle.std.proofs.Common.{◌∙◌}
use Rattle.sqlite.specs.Held.{state}
use Rattle.gate_schema.specs.Schema.{gate_schema}
use Rattle.gate_archive_queries.proofs.BuildReads.{count_asks, count_found}
use Rattle.gate_archive_queries.proofs.builds.build_count.Goals as goal

pub returns-in_err-rows-clause-only_reads : goal.returns-in_err-rows-clause-only_reads
returns-in_err-rows-clause-only_reads g c = c.read_rows.ensures.only_reads gate_schema count_asks.0.1

pub returns-clause-only_reads : goal.returns-clause-only_reads
returns-clause-only_reads g c = c.read_rows.ensures.only_reads gate_schema count_asks.0.1

pub returns-clause-found : goal.returns-clause-found
returns-clause-found g c clean b shows whole =
    let old = state g.S.Store c.args.conn.now in
    let it = c.in_ok-rows.ensures.finds clean in
    let rows = count_found old b c.args.of c.in_ok-rows.rows.items (shows it.0) whole (rw c.serial.ensures at it.1) in
    c.count_in.ensures _ (c.deref.ensures.value ∙ rows)
