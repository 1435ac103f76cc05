use Rattle.std.proofs.Common.{◌∙◌, ap}
use Rattle.gate_types.specs.Tables.{Tables}
use Rattle.gate_memory.specs.Queues.{rows_of_table}
use Rattle.gate_book_trait.specs.RowReads.{rows_named}
use Rattle.gate_book.proofs.HistoryLemmas.{of_rows, not_there}
use Rattle.gate_book.proofs.memory.MemBookBook.history.Goals as goal
use Rattle.gate_book.specs.Memory.{Held}
use Rattle.gate_book.proofs.memory.MemBookBook.history.Goals.{in-Some, in-None}

pub returns-clause-found : goal.returns-clause-found
returns-clause-found g c _ s x held lawful =
    let name = c.args.queue.now in
    let rows = ap (λ (t : Tables). rows_named t.queues name) (ap (λ (m : Held). m.tables) (c.self.view_is ∙ held)) in
    elim c.match-queue_called.branch [
      | in-Some w ↦ rw (w.w-is, w.result-is) (of_rows g.W.Write.contents c.args.w.now w.write_history.new.w s x name
          c.args.front.now (rows_of_table w.in-Some.found.now) w.write_history.result (w.in-Some.ensures.found ∙ rows)
          (rw (w.name.ensures, w.report_rows.ensures) at w.write_history.ensures))
      | in-None w ↦ rw (w.w-is, w.result-is) (not_there s x name (w.in-None.ensures.found ∙ rows))
    ]
