use Rattle.std.proofs.Common.{◌≡◌, ◌++◌, List, drop, map}
use Rattle.std.specs.Prelude.{flat_map}
use Rattle.std.specs.List.{AllByRecursion}
use Rattle.sqlite.specs.Held.{state}
use Rattle.sqlite.specs.State.{HasCleanDisk}
use Rattle.gate_types.specs.Migrate.{plans_of_queue}
use Rattle.gate_types.specs.State.{Queue, State}
use Rattle.gate_types.specs.declared.config.Queue.{Queue as QueueSetting}
use Rattle.gate_schema.specs.Rows.{Stored}
use Rattle.gate_queue_queries.specs.First.{ShowsFirstIfOpen}
use Rattle.gate_found_rows.specs.Reads.{IsOnlyRead}
use Rattle.gate_migration.specs.Migrates.{TellsQueue, TellsState, puts}
use Rattle.gate_migration.proofs.planning.first_plans.Given as goal

abbrev pub invariant-loop-queue : goal.invariant-loop-queue
invariant-loop-queue g l = record {
  only_reads : IsOnlyRead (state g.S.Store l.fn.conn) (state g.S.Store l.conn);
  found : HasCleanDisk (state g.S.Store l.conn) → (b : Stored) (s : State) → ShowsFirstIfOpen (state g.S.Store l.fn.conn) b → TellsState b l.fn.config s
      → (rest : List Queue) × (map (λ (q : Queue). q.name) rest ≡ map (λ (q : QueueSetting). q.name) (drop l.queue-index l.fn.config.queues)) × AllByRecursion (TellsQueue b) rest
      × (l.edits.items ++ puts (flat_map (plans_of_queue l.fn.config s) rest) ≡ puts (flat_map (plans_of_queue l.fn.config s) s.queues));
}
