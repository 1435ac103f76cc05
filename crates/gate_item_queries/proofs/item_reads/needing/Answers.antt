use Rattle.std.proofs.Common.{◌∙◌, ◌&&◌, filter, ltb, subst, sym}
use Rattle.sqlite.specs.Held.{state}
use Rattle.gate_schema.specs.Schema.{gate_schema}
use Rattle.gate_book_trait.specs.Reads.{Answers}
use Rattle.gate_types.specs.Names.{same_name}
use Rattle.gate_types.specs.declared.records.Item.{Item}
use Rattle.gate_schema.specs.Rows.{ItemRow}
use Rattle.gate_schema.specs.Shown.{needs_among}
use Rattle.gate_item_queries.proofs.ItemTexts.{needing_is}
use Rattle.gate_found_rows.proofs.ListFacts.{filter_in}
use Rattle.gate_item_queries.proofs.NeedingReads.{is_needing, needing_found}
use Rattle.gate_item_queries.proofs.item_reads.needing.Goals as goal

pub returns-in_err-rows-clause-only_reads : goal.returns-in_err-rows-clause-only_reads
returns-in_err-rows-clause-only_reads g c = c.read_rows.ensures.only_reads gate_schema needing_is.0.1

pub returns-clause-only_reads : goal.returns-clause-only_reads
returns-clause-only_reads g c = c.read_rows.ensures.only_reads gate_schema needing_is.0.1

pub returns-clause-found : goal.returns-clause-found
returns-clause-found g c clean b shows whole =
    let found = c.in_ok-rows.ensures.finds clean in
    let name = c.args.queue.now in
    let needed = c.args.needed in
    let above = c.args.above in
    let shown = needing_found (state g.S.Store c.args.conn.now) b name needed above c.in_ok-rows.rows.items (shows found.0) whole
    (rw (c.text.ensures, c.as_str.ensures.value, c.capped.ensures, c.change.ensures) at found.1) in
    subst (λ is. Answers is c.all_items.result)
    (sym (filter_in (λ (i : ItemRow). same_name i.queue name) (λ (i : Item). ltb above i.serial && needs_among b.needs needed i.change) (λ (i : ItemRow). i.item) b.items))
    (c.all_items.ensures (filter (is_needing b name needed above) b.items) (c.deref.ensures.value ∙ shown.shown) shown.in_form)
