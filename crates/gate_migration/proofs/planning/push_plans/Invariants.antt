use Rattle.std.proofs.Common.{◌≡◌, ◌++◌, ℕ, List, map, take}
use Rattle.sqlite.specs.Held.{state}
use Rattle.sqlite.specs.State.{HasCleanDisk}
use Rattle.gate_types.specs.State.{State}
use Rattle.gate_types.specs.Tables.{change_row}
use Rattle.gate_schema.specs.Rows.{Stored}
use Rattle.gate_queue_queries.specs.First.{ShowsFirstIfOpen, pair_shown}
use Rattle.gate_found_rows.specs.Reads.{IsOnlyRead}
use Rattle.gate_migration.specs.Migrates.{plan_for, puts}
use Rattle.gate_migration.proofs.planning.push_plans.Given as goal

abbrev pub invariant-loop-row : goal.invariant-loop-row
invariant-loop-row g l = record {
  only_reads : IsOnlyRead (state g.S.Store l.fn.conn) (state g.S.Store l.conn);
  found : HasCleanDisk (state g.S.Store l.conn) → (b : Stored) (s : State) → ShowsFirstIfOpen (state g.S.Store l.fn.conn) b → b.changes ≡ map (change_row s.ready) s.changes
      → (pairs : List (ℕ × ℕ)) → l.rows ≡ map (λ (p : ℕ × ℕ). pair_shown p.0 p.1) pairs
      → l.edits.items ≡ l.fn.edits.items ++ puts (map (plan_for l.fn.config s l.fn.may_fail_fast) (take l.row-index pairs));
}
