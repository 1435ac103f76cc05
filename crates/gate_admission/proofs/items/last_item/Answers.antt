use Rattle.std.proofs.Common.{◌∙◌, ap, rules}
use Rattle.std.proofs.lemmas.Result.{IfOk-weaker}
use Rattle.gate_book_trait.specs.Reads.{last_item_below, items_in}
use Rattle.gate_book_trait.proofs.ReadingLemmas.{is_read}
use Rattle.gate_admission.specs.Seen.{items_after}
use Rattle.gate_admission.proofs.LedItems.{last_led}
use Rattle.gate_admission.proofs.items.last_item.Goals as goal

pub returns : goal.returns
returns g c = is_read (λ trusted s x holds lawful v led there next.
    let all = items_after c.args.queue.now (items_in s x.state c.args.queue.now) c.args.edits.now in
    IfOk-weaker c.last_below.result _ _ (λ found e. e ∙ ap (λ n. last_item_below n all) (c.get.ensures.value ∙ next)
    ∙ last_led s x c.args.edits.now v c.args.queue.now led there)
    (c.last_below.ensures.found trusted s x holds lawful))
    (search rules) (search rules)
