use Rattle.std.proofs.Common.{◌≡◌, length}
use Rattle.std.specs.Vec.Iter.{into_iter_items}
use Rattle.gate_types.specs.Tables.{fold_all}
use Rattle.gate_memory.specs.Needs.{needs_of_all}
use Rattle.gate_book.specs.Memory.{AreKeptTables, HasRoomInAll, tables_of}
use Rattle.gate_book.proofs.tables.MemTables.apply_all.Given as goal

abbrev pub invariant-loop-edit : goal.invariant-loop-edit
invariant-loop-edit l = record {
  kept : AreKeptTables l.self;
  room : HasRoomInAll (length (into_iter_items l.edit-iterator)) (needs_of_all (into_iter_items l.edit-iterator)) l.self;
  rest : fold_all (tables_of l.self) (into_iter_items l.edit-iterator) ≡ fold_all (tables_of l.fn.self) (into_iter_items l.initial.edit-iterator);
}
