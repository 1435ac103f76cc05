use Rattle.std.proofs.Common.{◌≡◌, [], take}
use Rattle.sqlite.specs.State.{HasCleanDisk}
use Rattle.sqlite.specs.Held.{state}
use Rattle.gate_rows.specs.Writes.{LeavesNothing}
use Rattle.gate_schema.specs.Rows.{Stored}
use Rattle.gate_file_changes.specs.Making.{IsFilled, IsInside, KeepsInside, first_queue_rows, with_rows}
use Rattle.gate_file_changes.proofs.filling.add_queues.Given as goal

abbrev pub invariant-loop-index : goal.invariant-loop-index
invariant-loop-index g l =
    let old = state g.S.Store l.fn.tx.conn.now in
    let new = state g.S.Store l.tx.conn.now in
    record {
      same_reference : l.tx.conn.ghost_name ≡ l.fn.tx.conn.ghost_name;
      made : (b : Stored) → HasCleanDisk new → IsFilled (with_rows [] b) old →
          IsFilled (with_rows (first_queue_rows 0 (take l.index l.queues)) b) new;
      inside : HasCleanDisk new → IsInside old → IsInside new;
      kept : KeepsInside old new;
      crash : LeavesNothing old new;
    }
