use Rattle.std.proofs.Common.{◌≡◌, ◌∙◌, Some, sym}
use Rattle.gate_types.specs.Tables.{tables, change_in}
use Rattle.gate_book_trait.proofs.ReadLemmas.{change_is}
use Rattle.gate_live.specs.HeldChanges.{changes_held}
use Rattle.gate_live.proofs.ChangeEditLemmas.{held_read}
use Rattle.gate_live.proofs.change_reads.hold_change.Goals as goal

pub returns-clause-rows : goal.returns-clause-rows
returns-clause-rows g c trusted k x holds lawful before =
    let all = (tables k x).changes in
    let n = c.args.number in
    let known : Some c.in-Some.change ≡ change_in all n = sym c.in-Some.is ∙ c.in_ok-change.ensures.found trusted k x holds lawful ∙ sym (change_is k x n) in
    held_read (changes_held c.args.held.now) (changes_held c.hold.new.self) all n c.in-Some.change c.hold.result c.hold.ensures.rows c.hold.ensures.same
    (sym c.has.ensures ∙ c.if-has.false) known before
