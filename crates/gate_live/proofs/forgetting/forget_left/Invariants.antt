use Rattle.std.proofs.Common.{◌≡◌, drop, map}
use Rattle.std.specs.Prelude.{fold}
use Rattle.gate_live.specs.Held.{queue_of}
use Rattle.gate_live.specs.HeldChanges.{AreKeptChanges, changes_held, without_left}
use Rattle.gate_live.proofs.forgetting.forget_left.Given as goal

abbrev pub invariant-loop-edit : goal.invariant-loop-edit
invariant-loop-edit l = record {
  kept : AreKeptChanges l.held;
  rest : fold (without_left (map queue_of l.queues)) (changes_held l.held) (drop l.edit-index l.edits)
      ≡ fold (without_left (map queue_of l.queues)) (changes_held l.fn.held) l.edits;
}
