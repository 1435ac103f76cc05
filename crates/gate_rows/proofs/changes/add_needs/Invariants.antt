use Rattle.std.proofs.Common.{◌≡◌, take}
use Rattle.sqlite.specs.State.{HasCleanDisk, KeepsCommit, Survives}
use Rattle.sqlite.specs.Held.{state}
use Rattle.gate_schema.specs.Rows.{IsReady, Changes}
use Rattle.gate_schema.specs.Edits.{need_rows, add_needs}
use Rattle.gate_rows.proofs.changes.add_needs.Given as goal

abbrev pub invariant-loop-index : goal.invariant-loop-index
invariant-loop-index g l = record {
  same_reference : l.tx.conn.ghost_name ≡ l.fn.tx.conn.ghost_name;
  changes : HasCleanDisk (state g.S.Store l.tx.conn.now) → IsReady (state g.S.Store l.fn.tx.conn.now) → Changes (state g.S.Store l.fn.tx.conn.now) (state g.S.Store l.tx.conn.now) (add_needs (need_rows l.fn.n 0 (take l.index l.needs)));
  kept : HasCleanDisk (state g.S.Store l.tx.conn.now) → IsReady (state g.S.Store l.fn.tx.conn.now) → KeepsCommit (state g.S.Store l.fn.tx.conn.now) (state g.S.Store l.tx.conn.now);
  crash : Survives (state g.S.Store l.fn.tx.conn.now) (state g.S.Store l.tx.conn.now) (λ _. ⊥);
}
