use Rattle.std.proofs.Common.{◌≡◌, [], ℕ, List, false}
use Rattle.sqlite.specs.Given.{HasGiven}
use Rattle.sqlite.specs.Held.{state}
use Rattle.sqlite.specs.Order.{Row}
use Rattle.sqlite.specs.State.{HasCleanDisk, IsUnchanged, Survives}
use Rattle.gate_types.specs.Tap.{has_failed}
use Rattle.gate_archive_queries.specs.Deliveries.{accepted_shown, accepted_line}
use Rattle.gate_queue_queries.specs.Streamed.{StreamsRows}
use Rattle.gate_archive_queries.specs.declared.delivery_rows.Accepted.{Accepted}
use Rattle.gate_queue_queries.proofs.StreamLemmas.{IsWriting}
use Rattle.gate_archive_queries.proofs.delivery_reads.write_lines.Given as goal

abbrev pub invariant-loop-count : goal.invariant-loop-count
invariant-loop-count g l =
    let old = state g.S.Store l.fn.rows.conn.now in
    let now = state g.S.Store l.rows.conn.now in
    record {
      same_reference : l.rows.conn.ghost_name ≡ l.fn.rows.conn.ghost_name;
      unfailed : has_failed l.w ≡ false;
      same : HasCleanDisk now → IsUnchanged old now;
      crash : Survives old now (λ _. ⊥);
      writing : HasCleanDisk now → (sql : List ℕ) (params : Row) → HasGiven g.S.Store sql params l.fn.rows.conn.now [] → (told : List Accepted) → StreamsRows sql params old accepted_shown told →
          IsWriting g.S.Store sql params accepted_shown accepted_line l.front g.W.Write.contents l.fn.w l.w l.rows.conn.now l.count l.next told;
    }
