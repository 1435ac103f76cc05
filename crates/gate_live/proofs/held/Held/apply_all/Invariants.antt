use Rattle.std.proofs.Common.{◌≡◌, length, drop}
use Rattle.gate_live.specs.Live.{fold_live}
use Rattle.gate_live.specs.Held.{HasRoomInEach, AreKeptQueues, live_of}
use Rattle.gate_live.proofs.held.Held.apply_all.Given as goal

abbrev pub invariant-loop-edit : goal.invariant-loop-edit
invariant-loop-edit l = record {
  kept : AreKeptQueues l.self;
  room : HasRoomInEach (length (drop l.edit-index l.edits)) l.self;
  rest : fold_live (live_of l.self) (drop l.edit-index l.edits) ≡ fold_live (live_of l.fn.self) l.edits;
}
