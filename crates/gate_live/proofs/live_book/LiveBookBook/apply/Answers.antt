use Rattle.gate_live.proofs.BookLemmas.{applied_told, unchanged_told}
use Rattle.gate_live.proofs.live_book.LiveBookBook.apply.Goals as goal

pub returns-clause-applied : goal.returns-clause-applied
returns-clause-applied g c trusted k x held lawful y after leads =
    let old = c.args.self.now in
    let agrees = held.agrees lawful in
    let made = c.apply_over-applied in
    applied_told k x y c.args.edits.now old (record old { book = made.new.book; live = c.told.new.live }) made.new.self made.result c.told.result
    c.told.ensures.same (λ z. c.told.ensures.agrees k z) (made.ensures.edited k x y lawful agrees leads)
    (made.ensures.applied trusted k x held.below lawful y after leads)

pub returns-clause-unchanged : goal.returns-clause-unchanged
returns-clause-unchanged g c trusted k x held lawful =
    let old = c.args.self.now in
    let made = c.apply_over-applied in
    unchanged_told g.B.Book.Holds k x old (record old { book = made.new.book; live = c.told.new.live }) made.new.self made.result c.told.result
    c.told.ensures.same (λ z. c.told.ensures.agrees k z) made.ensures.same (held.agrees lawful)
    (made.ensures.unchanged trusted k x held.below lawful)
