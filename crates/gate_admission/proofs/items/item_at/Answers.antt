use Rattle.std.proofs.Common.{◌∙◌, ap, sym, rules}
use Rattle.std.proofs.lemmas.Result.{IfOk-weaker}
use Rattle.gate_book_trait.specs.Reads.{items_in}
use Rattle.gate_book_trait.proofs.ReadingLemmas.{is_read}
use Rattle.gate_admission.specs.Seen.{row_of_serial, by_fate}
use Rattle.gate_admission.proofs.Rows.{item_by_fate}
use Rattle.gate_admission.proofs.items.item_at.Goals as goal

pub returns-in-Stays : goal.returns-in-Stays
returns-in-Stays g c = is_read (λ trusted s x holds lawful.
    let rows = items_in s x.state c.args.queue.now in
    IfOk-weaker c.stored_item.result _ _
    (λ found e. e ∙ ap (by_fate (row_of_serial c.args.serial rows)) (sym c.in-Stays.is ∙ c.made_of.ensures)
    ∙ item_by_fate c.args.queue.now c.args.serial rows c.args.edits.now)
    (c.stored_item.ensures.found trusted s x holds lawful))
    (search rules) (search rules)

pub returns-in-Put : goal.returns-in-Put
returns-in-Put g c = is_read (λ trusted s x holds lawful.
    let rows = items_in s x.state c.args.queue.now in
    ap (by_fate (row_of_serial c.args.serial rows)) (sym c.in-Put.is ∙ c.made_of.ensures)
    ∙ item_by_fate c.args.queue.now c.args.serial rows c.args.edits.now)
    (search rules) (search rules)

pub returns-in-Dropped : goal.returns-in-Dropped
returns-in-Dropped g c = is_read (λ trusted s x holds lawful.
    let rows = items_in s x.state c.args.queue.now in
    ap (by_fate (row_of_serial c.args.serial rows)) (sym c.in-Dropped.is ∙ c.made_of.ensures)
    ∙ item_by_fate c.args.queue.now c.args.serial rows c.args.edits.now)
    (search rules) (search rules)
