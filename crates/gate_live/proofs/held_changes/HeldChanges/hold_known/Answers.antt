use Rattle.std.proofs.Common.{◌≡◌, ◌∙◌, false, sym}
use Rattle.gate_live.specs.HeldChanges.{changes_held}
use Rattle.gate_live.proofs.ChangeEditLemmas.{held_read}
use Rattle.gate_live.proofs.held_changes.HeldChanges.hold_known.Goals as goal

pub returns-then-not-has-clause-held : goal.returns-then-not-has-clause-held
returns-then-not-has-clause-held c all known held =
    let k = c.args.change.now in
    let none : c.has.result ≡ false = c.if-not-has.true in
    held_read (changes_held c.args.self.now) (changes_held c.hold_copy-held.new.self) all k.number k c.hold_copy-held.result
    c.hold_copy-held.ensures.rows c.hold_copy-held.ensures.same (sym c.has.ensures ∙ none) known held
