use Rattle.gate_types.specs.Keys.{number_of_change}
use Rattle.gate_memory.proofs.ChangeLemmas.{in_order_rises}
use Rattle.gate_live.specs.HeldChanges.{changes_held}
use Rattle.gate_live.proofs.HeldChangeLemmas.{ready_read}
use Rattle.gate_live.proofs.held_changes.HeldChanges.ready.Goals as goal

pub returns : goal.returns
returns c = ready_read (changes_held c.args.self.now) c.ready.result (in_order_rises number_of_change c.args.self.now.table.rows.items) c.ready.ensures
