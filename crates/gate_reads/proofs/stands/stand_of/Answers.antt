use Rattle.std.proofs.Common.{◌∙◌, sym, ap, rules}
use Rattle.std.specs.Prelude.{is_some}
use Rattle.gate_book_trait.proofs.ReadingLemmas.{is_read_under}
use Rattle.gate_reads.proofs.Told.{queued_so, not_queued, ready_so}
use Rattle.gate_reads.proofs.stands.stand_of.Goals as goal

pub returns-in-Some : goal.returns-in-Some
returns-in-Some g c = is_read_under (λ trusted x holds lawful.
    queued_so c.args.config.now x.state c.show_sound.ensures
    lawful.lawful.sound c.args.change c.in-Some.queued
    (sym (c.in_ok-queued.ensures.found trusted _ x holds lawful) ∙ c.in-Some.is))
    (search rules) (search rules)

pub returns-in-Some-2 : goal.returns-in-Some-2
returns-in-Some-2 g c = is_read_under (λ trusted x holds lawful.
    let before = c.in_ok-approval.ensures.kept.trusted_before trusted in
    let held = c.in_ok-queued.ensures.kept.holds_on before _ x holds in (
      not_queued c.args.config.now x.state c.args.change
          (sym (c.in_ok-queued.ensures.found before _ x holds lawful) ∙ c.in_default.is),
      ready_so x.state c.args.change
          ∙ ap is_some (sym (c.in_ok-approval.ensures.found trusted _ x held lawful) ∙ c.in-Some-2.is),
    ))
    (search rules) (search rules)

pub returns-in-None : goal.returns-in-None
returns-in-None g c = is_read_under (λ trusted x holds lawful.
    let before = c.in_ok-approval.ensures.kept.trusted_before trusted in
    let held = c.in_ok-queued.ensures.kept.holds_on before _ x holds in (
      not_queued c.args.config.now x.state c.args.change
          (sym (c.in_ok-queued.ensures.found before _ x holds lawful) ∙ c.in_default.is),
      ready_so x.state c.args.change
          ∙ ap is_some (sym (c.in_ok-approval.ensures.found trusted _ x held lawful) ∙ c.in-None.is),
    ))
    (search rules) (search rules)
