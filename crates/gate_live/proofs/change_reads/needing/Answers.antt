use Rattle.std.proofs.Common.{◌∙◌, ap, rules}
use Rattle.gate_types.specs.Tables.{tables}
use Rattle.gate_book_trait.specs.Reads as read
use Rattle.gate_book_trait.specs.RowReads.{needing_in}
use Rattle.gate_book_trait.proofs.ReadLemmas.{needing_are}
use Rattle.gate_book_trait.proofs.ReadingLemmas.{is_read}
use Rattle.gate_live.proofs.change_reads.needing.Goals as goal

pub returns-in-Some-clause-reads : goal.returns-in-Some-clause-reads
returns-in-Some-clause-reads g c = is_read (λ trusted k x holds lawful before items.
    let n = c.args.change in
    let above = c.args.above in
    c.in-Some.ensures (tables k x).changes before
    ∙ ap (needing_in (tables k x).changes n above) items ∙ needing_are k x n above (read.items_in k x.state c.args.queue.now))
    (search rules) (search rules)

pub returns-in-Some-needing_held-clause-reads : goal.returns-in-Some-needing_held-clause-reads
returns-in-Some-needing_held-clause-reads g c = is_read (λ trusted k x holds lawful before items.
    let n = c.args.change in
    let above = c.args.above in
    c.in-Some-needing_held.ensures (tables k x).changes (c.in_ok-hold_changes.ensures.rows trusted k x holds lawful before)
    ∙ ap (needing_in (tables k x).changes n above) items ∙ needing_are k x n above (read.items_in k x.state c.args.queue.now))
    (search rules) (search rules)
