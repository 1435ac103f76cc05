use Rattle.gate_live.proofs.HeldLemmas.{table_edited}
use Rattle.gate_live.proofs.held_queue.HeldQueueHoldsQueue.apply.Goals as goal

pub returns-in_default : goal.returns-in_default
returns-in_default c = record {
  rows = table_edited c.args.edit.now c.args.self.now c.apply.new.self c.apply.ensures.rows c.in_default.not-PutLanding c.in_default.not-PutReport;
  kept = c.apply.ensures.kept;
  room = c.apply.ensures.room;
}
