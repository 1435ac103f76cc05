use Rattle.std.proofs.Common.{◌∙◌, subst}
use Rattle.sqlite.specs.Held.{state}
use Rattle.gate_schema.specs.Schema.{gate_schema}
use Rattle.gate_book_trait.specs.Reads.{Answers}
use Rattle.gate_archive.specs.ItemText.{summary_of}
use Rattle.gate_archive_queries.specs.Asked.{stored_builds_of}
use Rattle.gate_archive_queries.proofs.BuildReads.{last_asks, last_found, last_in_form, last_turned}
use Rattle.gate_archive_queries.proofs.builds.last_builds.Goals as goal

pub returns-in_err-rows-clause-only_reads : goal.returns-in_err-rows-clause-only_reads
returns-in_err-rows-clause-only_reads g c = c.read_rows.ensures.only_reads gate_schema last_asks.0.1

pub returns-clause-only_reads : goal.returns-clause-only_reads
returns-clause-only_reads g c = c.read_rows.ensures.only_reads gate_schema last_asks.0.1

pub returns-clause-found : goal.returns-clause-found
returns-clause-found g c clean b shows whole =
    let old = state g.S.Store c.args.conn.now in
    let it = c.in_ok-rows.ensures.finds clean in
    let rows = last_found old b c.args.of c.args.most c.in_ok-rows.rows.items (shows it.0) (rw (c.serial.ensures, c.number.ensures, c.from.ensures) at it.1) in
    subst (λ l. Answers l c.summaries_back.result) (last_turned summary_of c.args.most (stored_builds_of b c.args.of))
    (c.summaries_back.ensures _ (c.deref.ensures.value ∙ rows) (last_in_form b c.args.of c.args.most whole))
