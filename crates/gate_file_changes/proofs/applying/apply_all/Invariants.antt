use Rattle.std.proofs.Common.{◌≡◌, take}
use Rattle.sqlite.specs.Held.{state}
use Rattle.sqlite.specs.State.{HasCleanDisk}
use Rattle.gate_schema.specs.Rows.{IsReady}
use Rattle.gate_rows.specs.Writes.{Keeps, LeavesNothing}
use Rattle.gate_file_changes.specs.Applies.{Steps}
use Rattle.gate_file_changes.proofs.applying.apply_all.Given as goal

abbrev pub invariant-loop-edit : goal.invariant-loop-edit
invariant-loop-edit g l = record {
  same_reference : l.tx.conn.ghost_name ≡ l.fn.tx.conn.ghost_name;
  steps : HasCleanDisk (state g.S.Store l.tx.conn.now) → IsReady (state g.S.Store l.fn.tx.conn.now) → Steps (state g.S.Store l.fn.tx.conn.now) (state g.S.Store l.tx.conn.now) (take l.edit-index l.edits);
  kept : Keeps (state g.S.Store l.fn.tx.conn.now) (state g.S.Store l.tx.conn.now);
  crash : LeavesNothing (state g.S.Store l.fn.tx.conn.now) (state g.S.Store l.tx.conn.now);
}
