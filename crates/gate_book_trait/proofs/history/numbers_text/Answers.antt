use Rattle.std.proofs.Common.{rules}
use Rattle.std.specs.Prelude.{decimal}
use Rattle.gate_book_trait.proofs.Padding.{right_in}
use Rattle.gate_book_trait.proofs.history.numbers_text.Goals as goal

pub returns : goal.returns
returns c =
    rw (right_in 6 (decimal c.args.place), right_in 6 (decimal c.args.report.now.serial), right_in 9, right_in 4)
    (search rules)
