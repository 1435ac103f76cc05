use Rattle.std.proofs.Common.{◌∙◌}
use Rattle.sqlite.specs.Held.{state}
use Rattle.gate_schema.specs.Schema.{gate_schema}
use Rattle.gate_found_rows.specs.Asked.{AreReadyByApproval}
use Rattle.gate_change_queries.proofs.ReadyReads.{answers_so, list_is_ready, ready_found, ready_in_form, ready_is}
use Rattle.gate_change_queries.proofs.ReadyReads.{ready_list}
use Rattle.gate_change_queries.proofs.ready_reads.ready.Goals as goal

pub returns-in_err-rows-clause-only_reads : goal.returns-in_err-rows-clause-only_reads
returns-in_err-rows-clause-only_reads g c = c.read_rows.ensures.only_reads gate_schema ready_is.0.1

pub returns-clause-only_reads : goal.returns-clause-only_reads
returns-clause-only_reads g c = c.read_rows.ensures.only_reads gate_schema ready_is.0.1

pub returns-clause-found : goal.returns-clause-found
returns-clause-found g c clean b shows whole =
    let found = c.in_ok-rows.ensures.finds clean in
    let rows = ready_found (state g.S.Store c.args.conn.now) b c.in_ok-rows.rows.items (shows found.0) whole found.1 in
    answers_so (ready_list b) (AreReadyByApproval b) c.all_ready.result (list_is_ready b whole)
    (c.all_ready.ensures (ready_list b) (c.deref.ensures.value ∙ rows) (ready_in_form b whole))
