use Rattle.std.proofs.Common.{◌∙◌, sym, ap, rules}
use Rattle.std.specs.Prelude.{string_bytes}
use Rattle.gate_book_trait.proofs.ReadingLemmas.{is_read_under}
use Rattle.gate_texts.specs.declared.item.WrittenItem.{WrittenItem}
use Rattle.gate_texts.proofs.ItemTexts.{queued_told, left_told}
use Rattle.gate_texts.proofs.item.told_item.Goals as goal

pub returns-in-Some : goal.returns-in-Some
returns-in-Some g c = is_read_under (λ trusted x holds lawful.
    let config = c.args.config.now in
    let before = c.in_ok-jobs.ensures.kept.trusted_before trusted in
    let held = c.in_ok-queued.ensures.kept.holds_on before config x holds in
    let told = c.of_queued.ensures in
    queued_told config x c.show_sound.ensures lawful
    c.args.serial c.in-Some.queued c.of_queued.result
    (sym c.in-Some.is ∙ c.in_ok-queued.ensures.found before config x holds lawful)
    (ap (λ (t : WrittenItem). t.queue) told) (ap (λ (t : WrittenItem). t.change) told)
    (ap (λ (t : WrittenItem). t.revision) told) (ap (λ (t : WrittenItem). t.verdict) told)
    (ap (λ (t : WrittenItem). string_bytes t.jobs) told ∙ c.in_ok-jobs.ensures.found trusted config x held lawful))
    (search rules) (search rules)

pub returns-in_ok-from_str-in-Some-2 : goal.returns-in_ok-from_str-in-Some-2
returns-in_ok-from_str-in-Some-2 g c = is_read_under (λ trusted x holds lawful.
    let config = c.args.config.now in
    let before = c.in_ok-left.ensures.kept.trusted_before trusted in
    let held = c.in_ok-queued.ensures.kept.holds_on before config x holds in
    let told = c.of_left.ensures in
    left_told config x.state c.args.serial c.in-Some-2.left c.of_left.result
    (sym c.in_default.is ∙ c.in_ok-queued.ensures.found before config x holds lawful)
    (sym c.in-Some-2.is ∙ c.in_ok-left.ensures.found trusted config x held lawful)
    (ap (λ (t : WrittenItem). t.queue) told) (ap (λ (t : WrittenItem). t.change) told)
    (ap (λ (t : WrittenItem). t.revision) told) (ap (λ (t : WrittenItem). t.verdict) told)
    (ap (λ (t : WrittenItem). string_bytes t.jobs) told ∙ c.in_ok-from_str-in-Some-2.ensures.ok))
    (search rules) (search rules)
