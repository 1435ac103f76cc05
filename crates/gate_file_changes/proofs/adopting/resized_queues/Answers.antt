use Rattle.std.proofs.Common.{◌∙◌, ◌++◌, ◌∷◌, [], ap, arith, map, take}
use Rattle.sqlite.specs.Held.{state}
use Rattle.sqlite.specs.State.{HasCleanDisk}
use Rattle.gate_found_rows.specs.Reads.{Shows}
use Rattle.gate_found_rows.proofs.ReadLemmas.{only_read_then, shown_still}
use Rattle.gate_file_changes.specs.Adopts.{resized_setting}
use Rattle.gate_file_changes.proofs.AdoptLemmas.{map_more}
use Rattle.gate_file_changes.proofs.adopting.resized_queues.Goals as goal

pub loop-queue-preserved : goal.loop-queue-preserved
loop-queue-preserved g c =
    let first = state g.S.Store c.args.conn.now in
    let old = state g.S.Store c.loop-queue.conn in
    let new = state g.S.Store c.resized_queue.new.conn in
    let was = c.loop-queue.invariant in
    let k = c.loop-queue.queue-index in
    record {
      len = omega (arith, c.push_reserved.ensures.len, was.len);
      room = omega (arith, c.push_reserved.ensures.capacity, was.room);
      found = λ clean b shows whole.
          let early : HasCleanDisk old = c.resized_queue.ensures.only_reads.clean clean in
          let still : Shows old b = shown_still first old b (was.only_reads.stays early) shows in
          c.push_reserved.ensures.items
          ∙ ap (λ l. l ++ c.in_ok-next.next ∷ []) (was.found early b shows whole)
          ∙ ap (λ x. map (resized_setting c.args.held.now b.queues) (take k c.args.queues.now) ++ x ∷ []) (c.in_ok-next.ensures.found clean b still whole)
          ∙ map_more (resized_setting c.args.held.now b.queues) c.args.queues.now k c.queue-item.result (omega arith) c.queue-item.is;
      only_reads = only_read_then first old new was.only_reads c.resized_queue.ensures.only_reads;
    }
