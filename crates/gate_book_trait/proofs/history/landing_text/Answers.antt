use Rattle.std.proofs.Common.{rules}
use Rattle.gate_book_trait.proofs.Padding.{right_in}
use Rattle.gate_book_trait.proofs.history.landing_text.Goals as goal

pub returns-in-Landed : goal.returns-in-Landed
returns-in-Landed c = rw (c.in-Landed.is, right_in 6) (search rules)
