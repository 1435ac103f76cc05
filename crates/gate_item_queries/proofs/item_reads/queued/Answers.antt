use Rattle.std.proofs.Common.{◌∙◌, eqb, filter, subst}
use Rattle.sqlite.specs.Held.{state}
use Rattle.gate_schema.specs.Schema.{gate_schema}
use Rattle.gate_book_trait.specs.Reads.{Answers}
use Rattle.gate_schema.specs.Rows.{ItemRow}
use Rattle.gate_found_rows.specs.Asked.{queued_item_of}
use Rattle.gate_item_queries.proofs.ItemReads.{first_is, queued_found}
use Rattle.gate_item_queries.proofs.ItemTexts.{queued_is}
use Rattle.gate_item_queries.proofs.item_reads.queued.Goals as goal

pub returns-in_err-rows-clause-only_reads : goal.returns-in_err-rows-clause-only_reads
returns-in_err-rows-clause-only_reads g c = c.read_rows.ensures.only_reads gate_schema queued_is.0.1

pub returns-clause-only_reads : goal.returns-clause-only_reads
returns-clause-only_reads g c = c.read_rows.ensures.only_reads gate_schema queued_is.0.1

pub returns-clause-found : goal.returns-clause-found
returns-clause-found g c clean b shows whole =
    let found = c.in_ok-rows.ensures.finds clean in
    let n = c.args.number in
    let shown = queued_found (state g.S.Store c.args.conn.now) b n c.in_ok-rows.rows.items (shows found.0) whole (rw c.change.ensures at found.1) in
    subst (λ v. Answers v c.first_queued.result) (first_is queued_item_of (λ (i : ItemRow). eqb i.item.change n) b.items)
    (c.first_queued.ensures (filter (λ (i : ItemRow). eqb i.item.change n) b.items) (c.deref.ensures.value ∙ shown.shown) shown.in_form)
