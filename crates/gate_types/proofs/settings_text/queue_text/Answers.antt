use Rattle.std.proofs.Common.{[], not, ap, ◌∙◌, codes}
use Rattle.gate_types.specs.JsonText.{leading, member, plain}
use Rattle.gate_types.specs.Settings.{pace_word}
use Rattle.gate_types.specs.SettingsText.{unless}
use Rattle.gate_types.proofs.SettingsTextLemmas.{queue_told}
use Rattle.gate_types.proofs.settings_text.queue_text.Goals as goal

pub returns : goal.returns
returns c =
    let r = c.args.queue.now.rule in
    (rw c.as_str-name.ensures.value at c.in_ok-text.ensures.ok) ∙ queue_told c.args.queue.now _ _ _ _
    (c.in_ok-decrease.ensures ∙ ap (λ t. leading (unless (not t) (member (codes "decrease") (plain (pace_word r.decrease)))) []) c.is_linear.ensures)
    c.in_ok-decrease_by.ensures
    (c.in_ok-increase.ensures ∙ ap (λ t. leading (unless t (member (codes "increase") (plain (pace_word r.increase)))) []) c.is_linear-2.ensures)
    c.in_ok-increase_by.ensures
