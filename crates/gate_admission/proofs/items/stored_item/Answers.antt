use Rattle.std.proofs.Common.{◌∙◌, sym, ap, rules}
use Rattle.std.specs.Prelude.{option_and_then, ◌-◌}
use Rattle.gate_book_trait.specs.Reads.{first_above, items_in}
use Rattle.gate_book_trait.proofs.ReadingLemmas.{is_read}
use Rattle.gate_admission.specs.Seen.{if_at}
use Rattle.gate_admission.proofs.QueueItems.{at_by_above}
use Rattle.gate_admission.proofs.Standing.{items_rise}
use Rattle.gate_admission.proofs.items.stored_item.Goals as goal

pub returns : goal.returns
returns g c = is_read (λ trusted s x holds lawful.
    let rows = items_in s x.state c.args.queue.now in
    c.at_serial.ensures
    ∙ ap (option_and_then (if_at c.args.serial)) (c.in_ok-next_item.ensures.reads.found trusted s x holds lawful
    ∙ ap (λ n. first_above (n - 1) rows) c.get.ensures.value)
    ∙ sym (at_by_above c.args.serial rows c.get.ensures.range.0
    (items_rise s x.state c.args.queue.now lawful.lawful.sound)))
    (search rules) (search rules)
