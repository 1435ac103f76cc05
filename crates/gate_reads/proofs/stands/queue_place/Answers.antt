use Rattle.std.proofs.Common.{◌∙◌, sym, ap, rules}
use Rattle.std.specs.Prelude.{◌==◌, is_some}
use Rattle.gate_book_trait.specs.declared.rows.QueuedItem.{QueuedItem}
use Rattle.gate_laws.proofs.Members.{found}
use Rattle.gate_book_trait.proofs.ReadingLemmas.{is_read_under}
use Rattle.gate_reads.proofs.Found.{none_before, some_before, some_then}
use Rattle.gate_reads.proofs.Stood.{stood, queued_as, change_of, queued_is, at_stood}
use Rattle.gate_reads.proofs.ShownOrders.{shows, if_shown, submitting_is}
use Rattle.gate_reads.proofs.Told.{queued_so, not_queued}
use Rattle.gate_reads.proofs.stands.queue_place.Goals as goal

pub returns-in_default : goal.returns-in_default
returns-in_default g c = is_read_under (λ trusted x holds lawful.
    let s = x.state in
    let config = c.args.config.now in
    let nowhere = sym (c.in_ok-queued.ensures.found trusted _ x holds lawful) ∙ c.in_default.is in
    let none = none_before (queued_as s) _ (sym (queued_is config s c.args.change) ∙ nowhere) in (
      submitting_is config s lawful.lawful.sound c.args.change ∙ ap (λ o. is_some (if_shown s o)) none,
      not_queued config s c.args.change nowhere,
    ))
    (search rules) (search rules)

pub returns-then-is_some : goal.returns-then-is_some
returns-then-is_some g c = is_read_under (λ trusted x holds lawful.
    let s = x.state in
    let config = c.args.config.now in
    let two = c.in_ok-plan.ensures.kept.trusted_before trusted in
    let one = c.in_ok-builds.ensures.kept.trusted_before two in
    let at_one = c.in_ok-queued.ensures.kept.holds_on one _ x holds in
    let at_two = c.in_ok-builds.ensures.kept.holds_on two _ x at_one in
    let it = some_before (queued_as s) _ c.in-Some.queued (sym (queued_is config s c.args.change)
    ∙ sym (c.in_ok-queued.ensures.found one _ x holds lawful) ∙ c.in-Some.is) in
    let there = found (λ y. change_of y == c.args.change) (stood config s) it.0 it.1 in
    let at = at_stood config s it.0 c.in-Some.queued.item there.0 (sym (ap (λ (k : QueuedItem). k.item) it.2)) in
    let builds = c.as_slice.ensures ∙ c.in_ok-builds.ensures.found two _ x at_one lawful in
    submitting_is config s lawful.lawful.sound c.args.change ∙ ap (λ o. is_some (if_shown s o)) it.1
    ∙ some_then (shows s it.0) it.0 ∙ sym (c.in_ok-plan.ensures.shown trusted x at_two lawful it.0.place at builds)
    ∙ sym c.is_some.ensures ∙ c.if-is_some.true)
    (search rules) (search rules)

pub returns : goal.returns
returns g c = is_read_under (λ trusted x holds lawful.
    let s = x.state in
    let config = c.args.config.now in
    let two = c.in_ok-plan.ensures.kept.trusted_before trusted in
    let one = c.in_ok-builds.ensures.kept.trusted_before two in
    let at_one = c.in_ok-queued.ensures.kept.holds_on one _ x holds in
    let at_two = c.in_ok-builds.ensures.kept.holds_on two _ x at_one in
    let known = sym (c.in_ok-queued.ensures.found one _ x holds lawful) ∙ c.in-Some.is in
    let it = some_before (queued_as s) _ c.in-Some.queued (sym (queued_is config s c.args.change) ∙ known) in
    let there = found (λ y. change_of y == c.args.change) (stood config s) it.0 it.1 in
    let at = at_stood config s it.0 c.in-Some.queued.item there.0 (sym (ap (λ (k : QueuedItem). k.item) it.2)) in
    let live = c.in_ok-builds.ensures.found two _ x at_one lawful in (
      submitting_is config s lawful.lawful.sound c.args.change ∙ ap (λ o. is_some (if_shown s o)) it.1
          ∙ some_then (shows s it.0) it.0
          ∙ sym (c.in_ok-plan.ensures.shown trusted x at_two lawful it.0.place at (c.as_slice.ensures ∙ live))
          ∙ sym c.is_some.ensures ∙ c.if-is_some.false,
      record {
        row = queued_so config s c.show_sound.ensures lawful.lawful.sound c.args.change c.in-Some.queued known;
        builds = live;
      },
    ))
    (search rules) (search rules)
