use Rattle.std.proofs.Common.{◌∙◌, map, ap, sym}
use Rattle.std.proofs.lemmas.Simd.{map-map}
use Rattle.gate_types.specs.Tables.{edited_queue}
use Rattle.gate_memory.specs.HeldQueues.{edited_whole, whole_queue}
use Rattle.gate_book.proofs.MemoryLemmas.{rows_held, whole_rows}
use Rattle.gate_book.proofs.tables.apply_in.Goals as goal

pub returns-clause-rows : goal.returns-clause-rows
returns-clause-rows c =
    let e = c.args.edit.now in
    let held = map whole_queue c.args.queues.now.items in
    sym (whole_rows c.apply_to_queues.new.queues.items) ∙ ap (map rows_held) c.apply_to_queues.ensures.rows
    ∙ map-map rows_held (edited_whole e) held ∙ sym (map-map (edited_queue e) rows_held held)
    ∙ ap (map (edited_queue e)) (whole_rows c.args.queues.now.items)
