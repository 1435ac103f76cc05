use Rattle.std.proofs.Common.{◌∙◌, eqb}
use Rattle.sqlite.specs.Held.{state}
use Rattle.gate_schema.specs.Schema.{gate_schema}
use Rattle.gate_schema.specs.Rows.{QueueReport}
use Rattle.gate_found_rows.proofs.ShownLemmas.{answers_told, pass_filter}
use Rattle.gate_archive_queries.specs.Asked.{is_left_in_form, left_row}
use Rattle.gate_archive_queries.proofs.LeftReads.{left_asks, left_found}
use Rattle.gate_archive_queries.proofs.left_reads.left.Goals as goal

pub returns-in_err-rows-clause-only_reads : goal.returns-in_err-rows-clause-only_reads
returns-in_err-rows-clause-only_reads g c = c.read_rows.ensures.only_reads gate_schema left_asks.0.1

pub returns-clause-only_reads : goal.returns-clause-only_reads
returns-clause-only_reads g c = c.read_rows.ensures.only_reads gate_schema left_asks.0.1

pub returns-clause-found : goal.returns-clause-found
returns-clause-found g c clean b shows form =
    let old = state g.S.Store c.args.conn.now in
    let it = c.in_ok-rows.ensures.finds clean in
    let rows = left_found old b c.args.serial c.in_ok-rows.rows.items (shows it.0) (rw c.serial.ensures at it.1) in
    answers_told (λ (l : QueueReport). eqb l.row.report.serial c.args.serial) left_row b.reports c.first_left.result
    (c.first_left.ensures _ (c.deref.ensures.value ∙ rows) (pass_filter is_left_in_form _ b.reports form))
