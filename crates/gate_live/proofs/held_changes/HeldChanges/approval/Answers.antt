use Rattle.std.proofs.Common.{◌∙◌}
use Rattle.gate_live.specs.HeldChanges.{changes_held}
use Rattle.gate_live.proofs.HeldChangeLemmas.{approval_held}
use Rattle.gate_live.proofs.held_changes.HeldChanges.approval.Goals as goal

pub returns : goal.returns
returns c all held = c.approval.ensures ∙ approval_held (changes_held c.args.self.now) all c.args.number held
