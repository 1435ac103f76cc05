use Rattle.std.proofs.Common.{[], ◌∙◌, rules}
use Rattle.gate_book_trait.proofs.ReadingLemmas.{is_read}
use Rattle.gate_texts.specs.Listed.{order_piece}
use Rattle.gate_texts.proofs.Listed.{order_told}
use Rattle.gate_texts.proofs.orders.order_text.Goals as goal

pub returns : goal.returns
returns g c = is_read (λ trusted config x holds lawful o at.
    c.new.ensures ∙ c.in_ok-text.ensures
    ∙ (λ k. order_piece c.args.item.now (c.project_of.ensures k) (c.as_str.ensures.value k) [])
    ∙ order_told config x.state c.args.queue.now c.args.item.now o c.in_ok-known.known at
    (c.in_ok-known.ensures.found trusted config x holds lawful))
    (search rules) (search rules)
