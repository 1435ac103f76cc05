use Rattle.std.proofs.Common.{rules}
use Rattle.gate_walk.specs.UnderWay.{Starts}
use Rattle.gate_settling.specs.Touching.{delivered}
use Rattle.gate_settling.proofs.KeptLemmas.{at_some, at_none}
use Rattle.gate_book_trait.proofs.ReadingLemmas.{is_read_under}
use Rattle.gate_settling.proofs.settle.edits_of_walk.Goals as goal

pub returns-in_ok-walked-in-Some : goal.returns-in_ok-walked-in-Some
returns-in_ok-walked-in-Some g c = is_read_under (λ trusted x holds lawful h.
    let starts = at_some ⊥ (λ w. Starts (delivered h) w) c.in_ok-walk.field-0 c.in-Some.walk c.in-Some.is
    (c.in_ok-walk.ensures x h) in
    record {
      walk = c.in_ok-walked-in-Some.field-0;
      walked = c.in_ok-walked-in-Some.ensures.found trusted x holds lawful h starts;
      told = c.into_edits.ensures;
    })
    (search rules) (search rules)

pub returns-in-None : goal.returns-in-None
returns-in-None g c = is_read_under (λ trusted x holds lawful h.
    absurd (at_none ⊥ (λ w. Starts (delivered h) w) c.in_ok-walk.field-0 c.in-None.is (c.in_ok-walk.ensures x h)))
    (search rules) (search rules)
