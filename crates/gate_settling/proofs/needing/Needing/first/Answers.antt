use Rattle.std.proofs.Common.{◌∙◌, ap}
use Rattle.gate_book_trait.specs.Reads.{items_in, first_above}
use Rattle.gate_settling.proofs.NeedingLemmas.{first_needing, above_rises}
use Rattle.gate_settling.proofs.needing.Needing.first.Goals as goal

pub returns-clause-row : goal.returns-clause-row
returns-clause-row g c trusted s x holds lawful known =
    let all = c.in_ok-ask.ensures.reads.found trusted s x holds lawful known in
    let found = c.copied.ensures ∙ c.first_above.ensures in
    found ∙ ap (first_above c.args.above) (c.as_slice.ensures.value ∙ all)
    ∙ first_needing x.state c.args.gone.now c.args.above (items_in s x.state c.args.queue.now)

pub returns-clause-rises : goal.returns-clause-rises
returns-clause-rises g c =
    above_rises c.args.above c.as_slice.result.now c.copied.result (c.copied.ensures ∙ c.first_above.ensures)
