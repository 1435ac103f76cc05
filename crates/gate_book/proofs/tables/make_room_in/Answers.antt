use Rattle.std.proofs.Common.{◌∙◌, map, ap, sym}
use Rattle.gate_book.proofs.MemoryLemmas.{rows_held, whole_rows}
use Rattle.gate_book.proofs.tables.make_room_in.Goals as goal

pub returns-clause-rows : goal.returns-clause-rows
returns-clause-rows c =
    sym (whole_rows c.make_queues_room.new.queues.items) ∙ ap (map rows_held) c.make_queues_room.ensures.rows
    ∙ whole_rows c.args.queues.now.items
