use Rattle.std.proofs.Common.{◌∙◌, ◌-◌, cond, sym, ap, rules}
use Rattle.gate_book_trait.specs.Reads.{items_in, first_above}
use Rattle.gate_book_trait.proofs.ReadingLemmas.{is_read}
use Rattle.gate_settling.proofs.WantedLemmas.{touched_first}
use Rattle.gate_settling.proofs.wanted.first_wanted.Goals as goal

pub returns-then-not-is_out-clause-reads : goal.returns-then-not-is_out-clause-reads
returns-then-not-is_out-clause-reads g c = is_read (λ trusted s x holds lawful h.
    touched_first h (sym c.is_out.ensures ∙ c.if-not-is_out.true))
    (search rules) (search rules)

pub returns-clause-reads : goal.returns-clause-reads
returns-clause-reads g c = is_read (λ trusted s x holds lawful h.
    let k = c.args.touched.now in
    c.in_ok-row.ensures.reads.found trusted s x holds lawful
    ∙ ap (λ n. first_above n (items_in s x.state k.queue)) c.get.ensures.value
    ∙ ap (λ b. first_above (cond b k.item.serial (k.item.serial - 1)) (items_in s x.state k.queue))
    (sym (sym c.is_out.ensures ∙ c.if-not-is_out.false)))
    (search rules) (search rules)
