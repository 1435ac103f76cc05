use Rattle.std.proofs.Common.{◌∙◌, eqb}
use Rattle.sqlite.specs.Held.{state}
use Rattle.gate_schema.specs.Schema.{gate_schema}
use Rattle.gate_schema.specs.Rows.{build_key}
use Rattle.gate_found_rows.specs.Whole.{is_build_row_in_form}
use Rattle.gate_build_queries.proofs.BuildReads.{build_found}
use Rattle.gate_build_queries.proofs.BuildTexts.{build_asks}
use Rattle.gate_found_rows.proofs.ShownLemmas.{answers_found, pass_filter}
use Rattle.gate_build_queries.proofs.builds.build.Goals as goal

pub returns-in_err-rows-clause-only_reads : goal.returns-in_err-rows-clause-only_reads
returns-in_err-rows-clause-only_reads g c = c.read_rows.ensures.only_reads gate_schema build_asks.0.1

pub returns-clause-only_reads : goal.returns-clause-only_reads
returns-clause-only_reads g c = c.read_rows.ensures.only_reads gate_schema build_asks.0.1

pub returns-clause-found : goal.returns-clause-found
returns-clause-found g c clean b shows whole =
    let old = state g.S.Store c.args.conn.now in
    let it = c.in_ok-rows.ensures.finds clean in
    let rows = build_found old b c.args.number c.in_ok-rows.rows.items (shows it.0) (rw c.build.ensures at it.1) in
    answers_found (λ y. eqb (build_key y) c.args.number) b.builds c.first_build.result
    (c.first_build.ensures _ (c.deref.ensures.value ∙ rows) (pass_filter is_build_row_in_form _ b.builds whole.builds))
