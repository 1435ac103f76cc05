use Rattle.std.proofs.Common.{◌∙◌, sym, subst, rules}
use Rattle.std.proofs.lemmas.Result.{IfOk-weaker}
use Rattle.gate_book_trait.proofs.ReadingLemmas.{is_read}
use Rattle.gate_admission.specs.Candidates.{AreToLookAt}
use Rattle.gate_admission.proofs.LetIn.{let_in_are_all, all_are_there}
use Rattle.gate_admission.proofs.candidates.to_look_at.Goals as goal

pub returns-then-branch : goal.returns-then-branch
returns-then-branch g c = is_read (λ trusted s x holds lawful v led enters.
    let one = c.ready_list.ensures.kept.trusted_before trusted in
    let next = c.in_ok-make_room.ensures.kept.holds_on one s x holds in
    IfOk-weaker c.ready_list.result _ _ (λ rows is. subst (AreToLookAt s v) (sym is) (all_are_there s v))
    (c.ready_list.ensures.found trusted s x next lawful v led))
    (search rules) (search rules)

pub returns-else-branch : goal.returns-else-branch
returns-else-branch g c = is_read (λ trusted s x holds lawful v led enters.
    let one = c.let_in.ensures.kept.trusted_before trusted in
    let next = c.in_ok-make_room.ensures.kept.holds_on one s x holds in
    IfOk-weaker c.let_in.result _ _ (λ rows is. subst (AreToLookAt s v) (sym is)
    (let_in_are_all s x c.args.edits.now v lawful.lawful.sound led enters
    (sym (c.in_ok-make_room.ensures.found one s x holds lawful) ∙ c.if-branch.false)))
    (c.let_in.ensures.found trusted s x next lawful))
    (search rules) (search rules)
