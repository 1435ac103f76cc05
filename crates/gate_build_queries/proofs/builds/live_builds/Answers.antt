use Rattle.std.proofs.Common.{◌∙◌}
use Rattle.sqlite.specs.Held.{state}
use Rattle.gate_schema.specs.Schema.{gate_schema}
use Rattle.gate_found_rows.specs.Whole.{is_build_row_in_form}
use Rattle.gate_build_queries.proofs.BuildReads.{live_found}
use Rattle.gate_build_queries.proofs.BuildTexts.{live_asks}
use Rattle.gate_found_rows.proofs.ShownLemmas.{pass_filter}
use Rattle.gate_build_queries.proofs.builds.live_builds.Goals as goal

pub returns-in_err-rows-clause-only_reads : goal.returns-in_err-rows-clause-only_reads
returns-in_err-rows-clause-only_reads g c = c.read_rows.ensures.only_reads gate_schema live_asks.0.1

pub returns-clause-only_reads : goal.returns-clause-only_reads
returns-clause-only_reads g c = c.read_rows.ensures.only_reads gate_schema live_asks.0.1

pub returns-clause-found : goal.returns-clause-found
returns-clause-found g c clean b shows whole =
    let old = state g.S.Store c.args.conn.now in
    let it = c.in_ok-rows.ensures.finds clean in
    let rows = live_found old b c.args.serial c.in_ok-rows.rows.items (shows it.0) (rw c.serial.ensures at it.1) in
    c.all_builds.ensures _ (c.deref.ensures.value ∙ rows) (pass_filter is_build_row_in_form _ b.builds whole.builds)
