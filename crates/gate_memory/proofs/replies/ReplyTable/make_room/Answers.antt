use Rattle.gate_memory.proofs.ReplyLemmas.{Finds, finds_same}
use Rattle.gate_memory.proofs.replies.ReplyTable.make_room.Goals as goal

pub returns-clause-kept : goal.returns-clause-kept
returns-clause-kept c =
    let old = c.args.self.now in
    let finds : Finds c.reserve-2.new.self old.rows.items = finds_same old.positions c.reserve-2.new.self old.rows.items c.reserve-2.ensures.entries.2 c.requires.finds in
    record { finds = rw c.reserve.ensures.items finds }
