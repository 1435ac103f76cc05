use Rattle.std.proofs.Common.{rules}
use Rattle.gate_book_trait.proofs.Padding.{right_in}
use Rattle.gate_texts.proofs.lines.ahead_text.Goals as goal

pub returns-in-Some : goal.returns-in-Some
returns-in-Some c = rw (c.in-Some.is, right_in 6) (search rules)
