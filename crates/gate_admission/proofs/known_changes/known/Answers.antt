use Rattle.std.proofs.Common.{◌∙◌, Some, ap, rules}
use Rattle.std.specs.Option.{option_or}
use Rattle.gate_types.specs.State.{known_change}
use Rattle.gate_book_trait.proofs.ReadingLemmas.{is_read}
use Rattle.gate_admission.specs.Seen.{at_last, last_stage}
use Rattle.gate_admission.proofs.Led.{known_led}
use Rattle.gate_admission.proofs.known_changes.known.Goals as goal

pub returns-in_ok-copy-in-Some : goal.returns-in_ok-copy-in-Some
returns-in_ok-copy-in-Some g c = is_read (λ trusted s x holds lawful v led.
    c.at_last.ensures
    ∙ (λ i. at_last (c.last_stage-stage.ensures i) (Some (c.in_ok-copy-in-Some.ensures i)))
    ∙ ap (λ o. at_last (last_stage c.args.number c.args.edits.now) (option_or o (known_change x.state c.args.number)))
    c.in-Some.ensures
    ∙ known_led s x c.args.edits.now v c.args.number led)
    (search rules) (search rules)

pub returns-in_ok-stored-in-None : goal.returns-in_ok-stored-in-None
returns-in_ok-stored-in-None g c = is_read (λ trusted s x holds lawful v led.
    c.at_last-in-None.ensures
    ∙ (λ i. at_last (c.last_stage-stage.ensures i) (c.in_ok-stored-in-None.ensures.found trusted s x holds lawful i))
    ∙ ap (λ o. at_last (last_stage c.args.number c.args.edits.now) (option_or o (known_change x.state c.args.number)))
    c.in-None.ensures
    ∙ known_led s x c.args.edits.now v c.args.number led)
    (search rules) (search rules)
