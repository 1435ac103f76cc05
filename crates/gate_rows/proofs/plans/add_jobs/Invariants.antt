use Rattle.std.proofs.Common.{◌≡◌, ◌<◌, take}
use Rattle.sqlite.specs.State.{HasCleanDisk, KeepsCommit, Survives}
use Rattle.sqlite.specs.Held.{state}
use Rattle.gate_schema.specs.Rows.{AreNamed, Changes, IsReady, Stands, Stored}
use Rattle.gate_schema.specs.Edits.{job_rows, add_jobs}
use Rattle.gate_rows.specs.Matches.{IsFree}
use Rattle.gate_rows.proofs.plans.add_jobs.Given as goal

abbrev pub invariant-loop-index : goal.invariant-loop-index
invariant-loop-index g l = record {
  same_reference : l.tx.conn.ghost_name ≡ l.fn.tx.conn.ghost_name;
  changes : HasCleanDisk (state g.S.Store l.tx.conn.now) → IsReady (state g.S.Store l.fn.tx.conn.now) → Changes (state g.S.Store l.fn.tx.conn.now) (state g.S.Store l.tx.conn.now) (add_jobs (job_rows l.fn.n 0 (take l.index l.jobs)));
  free : HasCleanDisk (state g.S.Store l.tx.conn.now) → IsReady (state g.S.Store l.fn.tx.conn.now) → (b : Stored) → AreNamed b → Stands (state g.S.Store l.fn.tx.conn.now).now.trees b → 0 < l.index → IsFree l.fn.n 0 b;
  kept : HasCleanDisk (state g.S.Store l.tx.conn.now) → IsReady (state g.S.Store l.fn.tx.conn.now) → KeepsCommit (state g.S.Store l.fn.tx.conn.now) (state g.S.Store l.tx.conn.now);
  crash : Survives (state g.S.Store l.fn.tx.conn.now) (state g.S.Store l.tx.conn.now) (λ _. ⊥);
}
