use Rattle.std.proofs.Common.{◌≡◌, ◌∙◌, ◌+◌, suc, drop, List, Some, ap, sym, arith}
use Rattle.std.specs.Prelude.{option_map}
use Rattle.gate_types.specs.declared.records.Kept.{Kept}
use Rattle.gate_memory.specs.Replies.{has_id}
use Rattle.gate_memory.proofs.ReplyLemmas.{position_within, behind_is}
use Rattle.gate_memory.proofs.replies.ReplyTable.behind.Goals as goal

pub behind_position-requires : goal.behind_position-requires
behind_position-requires c =
    let ks = c.args.self.now.rows.items in
    let within = position_within (has_id c.args.id.now.0) ks c.in-Some.position.now (c.in-Some.ensures.value ∙ c.requires.finds c.args.id.now.0) in
    rw c.deref.ensures.value within

pub returns-in-Some-clause-there : goal.returns-in-Some-clause-there
returns-in-Some-clause-there c =
    let ks : List Kept = c.args.self.now.rows.items in
    let step : suc c.in-Some.position.now ≡ c.in-Some.position.now + 1 = omega arith in
    behind_is c.args.id.now ks
    ∙ ap (option_map (λ i. drop (suc i) ks)) (sym (c.in-Some.ensures.value ∙ c.requires.finds c.args.id.now.0))
    ∙ ap (λ n. Some (drop n ks)) step ∙ ap (λ l. Some l) (sym (rw c.deref.ensures.value at c.behind_position.ensures))

pub returns-in-None-clause-missing : goal.returns-in-None-clause-missing
returns-in-None-clause-missing c =
    let ks : List Kept = c.args.self.now.rows.items in
    behind_is c.args.id.now ks
    ∙ ap (option_map (λ i. drop (suc i) ks)) (sym (c.in-None.ensures.value ∙ c.requires.finds c.args.id.now.0))
