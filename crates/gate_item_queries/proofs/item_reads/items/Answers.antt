use Rattle.std.proofs.Common.{◌∙◌, filter}
use Rattle.sqlite.specs.Held.{state}
use Rattle.gate_schema.specs.Schema.{gate_schema}
use Rattle.gate_types.specs.Names.{same_name}
use Rattle.gate_item_queries.proofs.ItemReads.{items_found}
use Rattle.gate_item_queries.proofs.ItemTexts.{items_is}
use Rattle.gate_item_queries.proofs.item_reads.items.Goals as goal

pub returns-in_err-rows-clause-only_reads : goal.returns-in_err-rows-clause-only_reads
returns-in_err-rows-clause-only_reads g c = c.read_rows.ensures.only_reads gate_schema items_is.0.1

pub returns-clause-only_reads : goal.returns-clause-only_reads
returns-clause-only_reads g c = c.read_rows.ensures.only_reads gate_schema items_is.0.1

pub returns-clause-found : goal.returns-clause-found
returns-clause-found g c clean b shows whole =
    let found = c.in_ok-rows.ensures.finds clean in
    let name = c.args.queue.now in
    let shown = items_found (state g.S.Store c.args.conn.now) b name c.in_ok-rows.rows.items (shows found.0) whole (rw (c.text.ensures, c.as_str.ensures.value) at found.1) in
    c.all_items.ensures (filter (λ i. same_name i.queue name) b.items) (c.deref.ensures.value ∙ shown.shown) shown.in_form
