use Rattle.std.proofs.Common.{◌∙◌, subst}
use Rattle.gate_book_trait.specs.Reads as read
use Rattle.gate_live.proofs.BothLemmas.{both_read}
use Rattle.gate_live.proofs.live_book.LiveBookBook.builds_between.Goals as goal

pub returns-in-Some-clause-reads : goal.returns-in-Some-clause-reads
returns-in-Some-clause-reads g c =
    let done = c.read_builds_between in
    both_read c.args.self.now (record c.args.self.now { book = done.new.book; live = done.new.live }) _ done.result
    done.ensures.reads.kept done.ensures.agrees done.ensures.reads.fault
    (λ trusted k x holds lawful agrees.
    let items = c.as_slice.ensures ∙ c.in-Some.ensures k x agrees in
    subst (λ is. read.Answers (read.builds_of_items x.state is) done.result) items
    (done.ensures.reads.found trusted k x holds lawful agrees items))
