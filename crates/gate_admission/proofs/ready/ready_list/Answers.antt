use Rattle.std.proofs.Common.{◌∙◌, ap, fold, rules}
use Rattle.gate_book_trait.proofs.ReadingLemmas.{is_read}
use Rattle.gate_admission.specs.Seen.{ready_after}
use Rattle.gate_admission.proofs.ReadyList.{ready_led}
use Rattle.gate_admission.proofs.ready.ready_list.Goals as goal

pub returns : goal.returns
returns g c = is_read (λ trusted s x holds lawful v led.
    c.in_ok-after_all.ensures
    ∙ ap (λ l. fold ready_after l c.args.edits.now)
    (c.into_vec-stored.ensures ∙ c.in_ok-ready.ensures.found trusted s x holds lawful)
    ∙ ready_led s x c.args.edits.now v lawful.lawful.sound led)
    (search rules) (search rules)
