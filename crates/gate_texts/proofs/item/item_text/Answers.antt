use Rattle.std.proofs.Common.{[], ◌∙◌, subst, rules}
use Rattle.std.specs.Prelude.{string_bytes}
use Rattle.gate_book_trait.proofs.ReadingLemmas.{is_read_under}
use Rattle.gate_texts.specs.Items.{TellsItem, item_told}
use Rattle.gate_texts.proofs.ItemTexts.{item_is_told}
use Rattle.gate_texts.proofs.item.item_text.Goals as goal

pub returns : goal.returns
returns g c = is_read_under (λ trusted x holds lawful.
    let config = c.args.config.now in
    let t = c.in-Some.item in
    let kept = c.in_ok-kept.kept in
    let builds = string_bytes c.in_ok-builds.builds in
    let two = c.in_ok-last.ensures.kept.trusted_before trusted in
    let one = c.in_ok-kept.ensures.kept.trusted_before two in
    let at_one = c.in_ok-item.ensures.kept.holds_on one config x holds in
    let at_two = c.in_ok-kept.ensures.kept.holds_on two config x at_one in
    item_is_told config x.state c.args.serial t c.as_slice.result.now builds c.new.result kept
    (subst (TellsItem config x.state c.args.serial) c.in-Some.is (c.in_ok-item.ensures.found one x holds lawful))
    (c.as_slice.ensures ∙ c.in_ok-last.ensures.found trusted config x at_two lawful)
    c.in_ok-builds.ensures (c.in_ok-kept.ensures.found two config x at_one lawful)
    (c.new.ensures ∙ c.in_ok-text.ensures ∙ (λ i. item_told c.args.serial t (c.as_str.ensures.value i) kept [])))
    (search rules) (search rules)
