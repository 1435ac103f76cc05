use Rattle.std.proofs.Common.{rules, ◌∷◌, [], ◌++◌}
use Rattle.gate_memory.proofs.ReplyLemmas.{Finds, finds_push}
use Rattle.gate_memory.proofs.replies.ReplyTable.keep.Goals as goal

pub returns-clause-kept : goal.returns-clause-kept
returns-clause-kept c =
    let old = c.args.self.now in
    let finds : Finds c.note_position.new.positions (old.rows.items ++ c.args.kept ∷ []) =
    finds_push old.positions c.note_position.new.positions old.rows.items c.args.kept c.len.result (search rules) c.note_position.ensures.noted c.requires.kept.finds in
    record { finds = rw c.push_reserved.ensures.items finds }
