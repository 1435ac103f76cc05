use Rattle.std.proofs.Common.{◌∙◌}
use Rattle.sqlite.specs.Held.{state}
use Rattle.gate_schema.specs.Schema.{gate_schema}
use Rattle.gate_change_queries.proofs.ChangeReads.{needs_found, needs_in_form}
use Rattle.gate_change_queries.proofs.ChangeTexts.{needs_asks}
use Rattle.gate_change_queries.proofs.changes.needs.Goals as goal

pub returns-in_err-rows-clause-only_reads : goal.returns-in_err-rows-clause-only_reads
returns-in_err-rows-clause-only_reads g c = c.read_rows.ensures.only_reads gate_schema needs_asks.0.1

pub returns-clause-only_reads : goal.returns-clause-only_reads
returns-clause-only_reads g c = c.read_rows.ensures.only_reads gate_schema needs_asks.0.1

pub returns-clause-found : goal.returns-clause-found
returns-clause-found g c clean b shows whole =
    let old = state g.S.Store c.args.conn.now in
    let it = c.in_ok-rows.ensures.finds clean in
    let rows = needs_found old b c.args.number c.in_ok-rows.rows.items (shows it.0) whole (rw c.change.ensures at it.1) in
    c.all_needs.ensures _ (c.deref.ensures.value ∙ rows) (needs_in_form c.args.number b.changes whole.changes)
