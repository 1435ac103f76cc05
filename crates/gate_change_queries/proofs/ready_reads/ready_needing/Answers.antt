use Rattle.std.proofs.Common.{◌∙◌}
use Rattle.sqlite.specs.Held.{state}
use Rattle.gate_schema.specs.Schema.{gate_schema}
use Rattle.gate_found_rows.specs.Asked.{AreReadyNeeding}
use Rattle.gate_change_queries.proofs.ReadyNeedingReads.{list_is_needing, needing_found, needing_in_form, needing_is}
use Rattle.gate_change_queries.proofs.ReadyNeedingReads.{needing_list}
use Rattle.gate_change_queries.proofs.ReadyReads.{answers_so}
use Rattle.gate_change_queries.proofs.ready_reads.ready_needing.Goals as goal

pub returns-in_err-needing-clause-only_reads : goal.returns-in_err-needing-clause-only_reads
returns-in_err-needing-clause-only_reads g c = c.read_rows.ensures.only_reads gate_schema needing_is.0.1

pub returns-clause-only_reads : goal.returns-clause-only_reads
returns-clause-only_reads g c = c.read_rows.ensures.only_reads gate_schema needing_is.0.1

pub returns-clause-found : goal.returns-clause-found
returns-clause-found g c clean b shows whole =
    let found = c.in_ok-needing.ensures.finds clean in
    let needed = c.args.needed in
    let rows = needing_found b whole needed (state g.S.Store c.args.conn.now) c.in_ok-needing.needing.items (shows found.0)
    (rw c.change.ensures at found.1) in
    answers_so (needing_list b needed) (AreReadyNeeding b needed) c.all_ready.result (list_is_needing b needed whole)
    (c.all_ready.ensures (needing_list b needed) (c.deref.ensures.value ∙ rows) (needing_in_form b needed whole))
