use Rattle.std.proofs.Common.{◌∙◌, sym, rules}
use Rattle.gate_book_trait.proofs.ReadingLemmas.{is_read}
use Rattle.gate_admission.proofs.Spans.{no_first, no_last, most}
use Rattle.gate_admission.proofs.room.most_items.Goals as goal

pub returns-in_default : goal.returns-in_default
returns-in_default g c = is_read (λ trusted s x holds lawful.
    no_first s x c.args.queue.now lawful
    (sym (c.in_ok-first.ensures.reads.found trusted s x holds lawful) ∙ c.in_default.is))
    (search rules) (search rules)

pub returns-in_default-2 : goal.returns-in_default-2
returns-in_default-2 g c = is_read (λ trusted s x holds lawful.
    let one = c.in_ok-last.ensures.reads.kept.trusted_before trusted in
    let next = c.in_ok-first.ensures.reads.kept.holds_on one s x holds in
    no_last s x c.args.queue.now lawful
    (sym (c.in_ok-last.ensures.reads.found trusted s x next lawful) ∙ c.in_default-2.is))
    (search rules) (search rules)

pub returns : goal.returns
returns g c = is_read (λ trusted s x holds lawful.
    let one = c.in_ok-last.ensures.reads.kept.trusted_before trusted in
    let next = c.in_ok-first.ensures.reads.kept.holds_on one s x holds in
    most s x c.args.queue.now lawful c.in-Some.first c.in-Some-2.last c.serials_between.result
    (sym (c.in_ok-first.ensures.reads.found one s x holds lawful) ∙ c.in-Some.is)
    (sym (c.in_ok-last.ensures.reads.found trusted s x next lawful) ∙ c.in-Some-2.is)
    c.serials_between.ensures)
    (search rules) (search rules)
