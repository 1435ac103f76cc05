use Rattle.std.proofs.Common.{[], map, ap, ◌∙◌, rules}
use Rattle.std.specs.Prelude.{nat_le, string_bytes}
use Rattle.gate_types.specs.JsonText.{joined}
use Rattle.gate_archive.specs.ChangeText.{need_piece}
use Rattle.gate_book_trait.proofs.ReadingLemmas.{is_read}
use Rattle.gate_texts.specs.Changes.{change_told}
use Rattle.gate_texts.proofs.ChangeTexts.{change_is}
use Rattle.gate_texts.proofs.change.text_in.Goals as goal
use Rattle.gate_types.specs.Limits.{most_items}

pub returns : goal.returns
returns g c = is_read (λ trusted config x holds lawful.
    let k = c.args.change.now in
    let w = c.in_ok-standing.standing in
    let full = nat_le most_items c.in_ok-full.field-0 in
    let two = c.in_ok-needs.ensures.kept.trusted_before trusted in
    let one = c.in_ok-full.ensures.kept.trusted_before two in
    let at_one = c.in_ok-standing.ensures.kept.holds_on one config x holds in
    let at_two = c.in_ok-full.ensures.kept.holds_on two config x at_one in
    change_is config x.state k c.args.queue.now w full (string_bytes c.in_ok-needs.needs) c.new.result
    (c.in_ok-standing.ensures.found one config x holds lawful)
    (ap (nat_le most_items) (c.in_ok-full.ensures.found two config x at_one lawful))
    (c.in_ok-needs.ensures.found trusted config x at_two lawful
    ∙ ap (λ ns. joined (map (need_piece config x.state) ns) []) c.as_slice.ensures)
    (c.new.ensures ∙ c.in_ok-text.ensures
    ∙ (λ i. change_told k w (c.as_str-queue.ensures.value i) full (c.as_str.ensures.value i) [])))
    (search rules) (search rules)
