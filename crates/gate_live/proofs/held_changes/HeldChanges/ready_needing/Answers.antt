use Rattle.gate_types.specs.Keys.{number_of_change}
use Rattle.gate_memory.proofs.ChangeLemmas.{in_order_rises}
use Rattle.gate_live.specs.HeldChanges.{changes_held}
use Rattle.gate_live.proofs.HeldChangeLemmas.{ready_needing_read}
use Rattle.gate_live.proofs.held_changes.HeldChanges.ready_needing.Goals as goal

pub returns : goal.returns
returns c = ready_needing_read (changes_held c.args.self.now) c.args.change c.ready_needing.result (in_order_rises number_of_change c.args.self.now.table.rows.items) c.ready_needing.ensures
