use Rattle.std.proofs.Common.{◌∙◌, ap, fold, rules}
use Rattle.gate_types.specs.Tables.{edited_counters}
use Rattle.gate_book_trait.proofs.ReadingLemmas.{is_read}
use Rattle.gate_admission.proofs.Led.{counters_led}
use Rattle.gate_admission.proofs.counted.last_drawn.Goals as goal

pub returns : goal.returns
returns g c = is_read (λ trusted s x holds lawful v led.
    c.after_all.ensures
    ∙ ap (λ d. fold edited_counters d c.args.edits.now)
    (c.counters-2.view_is ∙ c.in_ok-counters.ensures.found trusted s x holds lawful)
    ∙ counters_led s x c.args.edits.now v led)
    (search rules) (search rules)
