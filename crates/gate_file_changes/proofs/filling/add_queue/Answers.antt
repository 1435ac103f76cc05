use Rattle.sqlite.specs.Held.{state}
use Rattle.gate_file_changes.specs.Making.{queue_row_at}
use Rattle.gate_file_changes.proofs.FillLemmas.{adds_queue}
use Rattle.gate_file_changes.proofs.filling.add_queue.Goals as goal

pub returns-clause-made : goal.returns-clause-made
returns-clause-made g c b clean had =
    let done = adds_queue (queue_row_at c.args.index c.args.queue.now) (state g.S.Store c.args.tx.now.conn.now) (state g.S.Store c.execute.new.self.conn.now) _ had.ready
    (rw (c.to_sql.ensures, c.as_str.ensures.value, c.at_index.ensures, c.to_sql-2.ensures) at (c.in_ok-execute.ensures.runs clean had.ready.inside)) in
    record { ready = done.0; stands = done.1 b had.stands }
