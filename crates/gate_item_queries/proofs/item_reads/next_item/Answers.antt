use Rattle.std.proofs.Common.{◌∙◌, ◌<◌, ltb}
use Rattle.sqlite.specs.Held.{state}
use Rattle.gate_schema.specs.Schema.{gate_schema}
use Rattle.gate_types.specs.Names.{same_name}
use Rattle.gate_types.specs.declared.records.Item.{Item}
use Rattle.gate_schema.specs.Rows.{ItemRow}
use Rattle.gate_item_queries.proofs.ItemTexts.{next_is}
use Rattle.gate_found_rows.proofs.ListFacts.{found_in}
use Rattle.gate_item_queries.proofs.NextReads.{first_answers, next_found, next_is_above}
use Rattle.gate_item_queries.proofs.item_reads.next_item.Goals as goal

pub returns-in_err-rows-clause-only_reads : goal.returns-in_err-rows-clause-only_reads
returns-in_err-rows-clause-only_reads g c = c.read_rows.ensures.only_reads gate_schema next_is.0.1

pub returns-clause-only_reads : goal.returns-clause-only_reads
returns-clause-only_reads g c = c.read_rows.ensures.only_reads gate_schema next_is.0.1

pub returns-clause-found : goal.returns-clause-found
returns-clause-found g c clean b shows whole =
    let found = c.in_ok-rows.ensures.finds clean in
    let name = c.args.queue.now in
    let above = c.args.above in
    let leads = next_found (state g.S.Store c.args.conn.now) b name above c.in_ok-rows.rows.items (shows found.0) whole
    (rw (c.text.ensures, c.as_str.ensures.value, c.capped.ensures) at found.1) in
    first_answers c.in_ok-rows.rows.items _ (λ (i : ItemRow). above < i.item.serial) _ c.first_above.result leads
    (found_in (λ (i : ItemRow). same_name i.queue name) (λ (i : Item). ltb above i.serial) (λ (i : ItemRow). i.item) b.items)
    (next_is_above name above b.items) (λ is shown. c.first_above.ensures.found is (c.deref.ensures.value ∙ shown))
