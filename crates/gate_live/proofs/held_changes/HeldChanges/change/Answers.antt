use Rattle.gate_live.specs.HeldChanges.{changes_held}
use Rattle.gate_live.proofs.HeldChangeLemmas.{change_there, change_read}
use Rattle.gate_live.proofs.held_changes.HeldChanges.change.Goals as goal

pub returns-clause-held : goal.returns-clause-held
returns-clause-held c = change_there (changes_held c.args.self.now) c.args.number c.get.result c.get.ensures

pub returns-clause-found : goal.returns-clause-found
returns-clause-found c = change_read (changes_held c.args.self.now) c.args.number c.get.result c.get.ensures
