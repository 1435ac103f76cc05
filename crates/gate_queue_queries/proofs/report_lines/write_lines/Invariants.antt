use Rattle.std.proofs.Common.{◌≡◌, ◌++◌, [], ℕ, List, false}
use Rattle.sqlite.specs.Given.{HasGiven}
use Rattle.sqlite.specs.Held.{state}
use Rattle.sqlite.specs.Order.{Row}
use Rattle.sqlite.specs.State.{HasCleanDisk, IsUnchanged, Survives}
use Rattle.gate_types.specs.Tap.{has_failed}
use Rattle.gate_types.specs.declared.records.Report.{Report}
use Rattle.gate_book_trait.specs.Text.{first_line}
use Rattle.gate_queue_queries.specs.History.{report_shown}
use Rattle.gate_queue_queries.specs.Streamed.{StreamsRows, line_from}
use Rattle.gate_queue_queries.proofs.StreamLemmas.{IsWriting}
use Rattle.gate_queue_queries.proofs.report_lines.write_lines.Given as goal

abbrev pub invariant-loop-step : goal.invariant-loop-step
invariant-loop-step g l =
    let old = state g.S.Store l.fn.rows.conn.now in
    let now = state g.S.Store l.rows.conn.now in
    record {
      same_reference : l.rows.conn.ghost_name ≡ l.fn.rows.conn.ghost_name;
      unfailed : has_failed l.w ≡ false;
      same : HasCleanDisk now → IsUnchanged old now;
      crash : Survives old now (λ _. ⊥);
      writing : HasCleanDisk now → (sql : List ℕ) (params : Row) → HasGiven g.S.Store sql params l.fn.rows.conn.now [] → (rs : List Report) → StreamsRows sql params old report_shown rs →
          IsWriting g.S.Store sql params report_shown (line_from l.first) (l.front ++ first_line l.queue) g.W.Write.contents l.fn.w l.w l.rows.conn.now l.step l.next rs;
    }
