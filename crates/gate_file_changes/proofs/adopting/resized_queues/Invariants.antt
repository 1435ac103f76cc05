use Rattle.std.proofs.Common.{◌≡◌, ◌≤◌, length, map, take}
use Rattle.std.specs.Prelude.{vec_len, vec_capacity}
use Rattle.sqlite.specs.Held.{state}
use Rattle.sqlite.specs.State.{HasCleanDisk}
use Rattle.gate_found_rows.specs.Reads.{IsOnlyRead, Shows}
use Rattle.gate_found_rows.specs.Whole.{IsWhole}
use Rattle.gate_schema.specs.Rows.{Stored}
use Rattle.gate_file_changes.specs.Adopts.{resized_setting}
use Rattle.gate_file_changes.proofs.adopting.resized_queues.Given as goal

abbrev pub invariant-loop-queue : goal.invariant-loop-queue
invariant-loop-queue g l =
    let old = state g.S.Store l.fn.conn in
    let new = state g.S.Store l.conn in
    record {
      len : vec_len l.found ≡ l.queue-index;
      room : length l.queues ≤ vec_capacity l.found;
      found : HasCleanDisk new → (b : Stored) → Shows old b → IsWhole b →
          l.found.items ≡ map (resized_setting l.held b.queues) (take l.queue-index l.queues);
      only_reads : IsOnlyRead old new;
    }
