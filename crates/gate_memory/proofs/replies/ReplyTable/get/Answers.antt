use Rattle.std.proofs.Common.{◌≡◌, ◌∙◌, ap, List}
use Rattle.std.specs.Prelude.{slice_get}
use Rattle.gate_types.specs.declared.records.Kept.{Kept}
use Rattle.gate_types.specs.Once.{kept_for}
use Rattle.gate_memory.specs.Replies.{has_id}
use Rattle.gate_memory.proofs.ReplyLemmas.{kept_at, at_position}
use Rattle.gate_memory.proofs.replies.ReplyTable.get.Goals as goal

pub returns-in-Some : goal.returns-in-Some
returns-in-Some c =
    let ks : List Kept = c.args.self.now.rows.items in
    let e : slice_get ks c.in-Some.position.now ≡ kept_for c.args.id.now ks = ap (at_position ks) (c.in-Some.ensures.value ∙ c.requires.finds c.args.id.now.0) ∙ kept_at (has_id c.args.id.now.0) ks in
    rw (c.deref.ensures.value, e) at c.copy_at.ensures

pub returns-in-None : goal.returns-in-None
returns-in-None c =
    let ks : List Kept = c.args.self.now.rows.items in
    ap (at_position ks) (c.in-None.ensures.value ∙ c.requires.finds c.args.id.now.0) ∙ kept_at (has_id c.args.id.now.0) ks
