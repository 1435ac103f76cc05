use Rattle.std.proofs.Common.{sym, subst, rules}
use Rattle.gate_book_trait.specs.Reads as read
use Rattle.gate_book_trait.proofs.KeptLemmas.{then}
use Rattle.gate_book_trait.proofs.ReadingLemmas.{is_read}
use Rattle.gate_live.proofs.reading.read_builds_between.Goals as goal

pub returns-in-Some-clause-reads : goal.returns-in-Some-clause-reads
returns-in-Some-clause-reads g c = is_read (λ trusted k x holds lawful before items.
    c.in-Some.ensures k x (c.in_ok-read_builds_of.ensures.agrees trusted k x holds lawful before))
    (search rules) (search rules)

pub returns-clause-reads : goal.returns-clause-reads
returns-clause-reads g c = is_read (λ trusted k x holds lawful before items.
    let early = c.builds_between.ensures.kept.trusted_before trusted in
    let between = c.in_ok-read_builds_of.ensures.reads.kept.holds_on early k x holds in
    subst (read.Answers (read.builds_of_items x.state c.args.items.now)) (sym c.told.ensures.same)
    (subst (λ is. read.Answers (read.builds_of_items x.state is) c.builds_between.result) (sym items)
    (c.builds_between.ensures.found trusted k x between lawful)))
    (then c.in_ok-read_builds_of.ensures.reads.kept c.builds_between.ensures.kept) (search rules)

pub returns-clause-agrees : goal.returns-clause-agrees
returns-clause-agrees g c trusted k x holds lawful before =
    let early = c.builds_between.ensures.kept.trusted_before trusted in
    c.told.ensures.agrees k x (c.in_ok-read_builds_of.ensures.agrees early k x holds lawful before)
