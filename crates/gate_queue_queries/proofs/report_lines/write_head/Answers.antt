use Rattle.gate_book_trait.specs.Text.{first_line}
use Rattle.gate_queue_queries.proofs.HistoryLemmas.{written_head}
use Rattle.gate_queue_queries.proofs.report_lines.write_head.Goals as goal

pub returns-clause-taken : goal.returns-clause-taken
returns-clause-taken g c =
    written_head g.W.Write.contents c.args.w.now c.write_text.new.w c.write_text-2.new.w c.args.front.now (first_line c.args.queue.now) c.write_text-2.result
    c.in_ok-write_text.ensures.taken (rw (c.as_bytes.ensures.value, c.in-Ok.ensures) at c.write_text-2.ensures)
