use Rattle.std.proofs.Common.{◌≡◌, length}
use Rattle.std.specs.Vec.Iter.{into_iter_items}
use Rattle.gate_memory.specs.Needs.{needs_of_all}
use Rattle.gate_live.specs.HeldChanges.{AreKeptChanges, HasRoomFor, changes_held, fold_rows}
use Rattle.gate_live.proofs.held_changes.HeldChanges.apply_all.Given as goal

abbrev pub invariant-loop-edit : goal.invariant-loop-edit
invariant-loop-edit l = record {
  kept : AreKeptChanges l.self;
  room : HasRoomFor (length (into_iter_items l.edit-iterator)) (needs_of_all (into_iter_items l.edit-iterator)) l.self;
  rest : fold_rows (changes_held l.self) (into_iter_items l.edit-iterator) ≡ fold_rows (changes_held l.fn.self) (into_iter_items l.initial.edit-iterator);
}
