use Rattle.std.proofs.Common.{◌∙◌}
use Rattle.sqlite.specs.Held.{state}
use Rattle.gate_schema.specs.Schema.{gate_schema}
use Rattle.gate_types.specs.Names.{same_name}
use Rattle.gate_types.specs.declared.records.Kept.{Kept}
use Rattle.gate_change_queries.proofs.DeliveryReads.{delivery_found, delivery_asks, kept_as}
use Rattle.gate_found_rows.proofs.ShownLemmas.{answers_found}
use Rattle.gate_change_queries.proofs.deliveries.delivery.Goals as goal

pub returns-in_err-rows-clause-only_reads : goal.returns-in_err-rows-clause-only_reads
returns-in_err-rows-clause-only_reads g c = c.read_rows.ensures.only_reads gate_schema delivery_asks.0.1

pub returns-clause-only_reads : goal.returns-clause-only_reads
returns-clause-only_reads g c = c.read_rows.ensures.only_reads gate_schema delivery_asks.0.1

pub returns-clause-found : goal.returns-clause-found
returns-clause-found g c clean b shows whole =
    let old = state g.S.Store c.args.conn.now in
    let it = c.in_ok-rows.ensures.finds clean in
    let rows = delivery_found old b c.args.id.now c.in_ok-rows.rows.items (shows it.0) whole (rw c.bytes.ensures at it.1) in
    answers_found (λ (k : Kept). same_name k.id.0 c.args.id.now.0) b.kept c.first_kept.result
    (c.first_kept.ensures _ (c.deref.ensures.value ∙ rows) (kept_as c.args.id.now b.kept whole.kept))
