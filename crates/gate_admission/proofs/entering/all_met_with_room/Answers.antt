use Rattle.std.proofs.Common.{◌∙◌, sym, subst, rules}
use Rattle.gate_book_trait.specs.Reads.{items_in}
use Rattle.gate_book_trait.proofs.ReadingLemmas.{is_read}
use Rattle.gate_admission.specs.Enters.{AreMetBy}
use Rattle.gate_admission.proofs.MetByRows.{none_there, all_there}
use Rattle.gate_admission.proofs.entering.all_met_with_room.Goals as goal

pub returns-in_default : goal.returns-in_default
returns-in_default g c = is_read (λ trusted s x holds lawful v led there.
    none_there s v c.args.queue.now c.args.needs.now there
    (subst (AreMetBy (items_in s v c.args.queue.now) c.args.needs.now) c.in_default.is
    (c.in_ok-fine.ensures.found trusted s x holds lawful v led there)))
    (search rules) (search rules)

pub returns-then-not-branch : goal.returns-then-not-branch
returns-then-not-branch g c = is_read (λ trusted s x holds lawful v led there.
    let one = c.in_ok-has_room.ensures.kept.trusted_before trusted in
    let next = c.in_ok-fine.ensures.kept.holds_on one s x holds in
    let met = subst (AreMetBy (items_in s v c.args.queue.now) c.args.needs.now) c.in-Some.is
    (c.in_ok-fine.ensures.found one s x holds lawful v led there) in
    sym (all_there s v c.args.queue.now c.args.needs.now met.0)
    ∙ sym (c.in_ok-has_room.ensures.found trusted s x next lawful v led there) ∙ c.if-not-branch.true)
    (search rules) (search rules)

pub returns : goal.returns
returns g c = is_read (λ trusted s x holds lawful v led there.
    let one = c.in_ok-has_room.ensures.kept.trusted_before trusted in
    let next = c.in_ok-fine.ensures.kept.holds_on one s x holds in
    let met = subst (AreMetBy (items_in s v c.args.queue.now) c.args.needs.now) c.in-Some.is
    (c.in_ok-fine.ensures.found one s x holds lawful v led there) in (
      sym (all_there s v c.args.queue.now c.args.needs.now met.0)
          ∙ sym (c.in_ok-has_room.ensures.found trusted s x next lawful v led there) ∙ c.if-not-branch.false,
      met.1,
    ))
    (search rules) (search rules)
