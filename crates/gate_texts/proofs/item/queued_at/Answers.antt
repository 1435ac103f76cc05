use Rattle.std.proofs.Common.{◌∙◌, sym, rules}
use Rattle.gate_book_trait.proofs.ReadingLemmas.{is_read}
use Rattle.gate_texts.proofs.ItemTexts.{by_change}
use Rattle.gate_texts.proofs.item.queued_at.Goals as goal

pub returns-in_ok-queued-in-Some : goal.returns-in_ok-queued-in-Some
returns-in_ok-queued-in-Some g c = is_read (λ trusted config x holds lawful.
    let before = c.in_ok-queued-in-Some.ensures.kept.trusted_before trusted in
    let held = c.in_ok-item.ensures.kept.holds_on before config x holds in
    c.in_ok-queued-in-Some.ensures.found trusted config x held lawful
    ∙ by_change config x.state lawful.lawful.sound c.args.serial c.in-Some.item
    (sym c.in-Some.is ∙ c.in_ok-item.ensures.found before config x holds lawful))
    (search rules) (search rules)
