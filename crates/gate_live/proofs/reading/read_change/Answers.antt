use Rattle.std.proofs.Common.{sym, subst}
use Rattle.gate_types.specs.State.{known_change}
use Rattle.gate_book_trait.specs.Reads as read
use Rattle.gate_live.proofs.reading.read_change.Goals as goal

pub returns-clause-agrees : goal.returns-clause-agrees
returns-clause-agrees g c trusted k x holds lawful agrees =
    let found = subst (λ r. read.Answers (known_change x.state c.args.number) r) (sym c.in_ok-found.ensures.same)
    (c.change.ensures.found trusted k x holds lawful) in
    c.hold_change.ensures c.args.number k x found (c.in_ok-found.ensures.agrees k x agrees)
