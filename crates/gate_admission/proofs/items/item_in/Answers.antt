use Rattle.std.proofs.Common.{◌∙◌, sym, ap, rules}
use Rattle.std.specs.Option.{option_or}
use Rattle.std.proofs.lemmas.Result.{IfOk-weaker}
use Rattle.gate_book_trait.specs.Reads.{items_in, queued_of}
use Rattle.gate_book_trait.proofs.ReadingLemmas.{is_read}
use Rattle.gate_admission.specs.Seen.{items_after, item_left}
use Rattle.gate_admission.proofs.LedItems.{change_led}
use Rattle.gate_admission.proofs.items.item_in.Goals as goal

pub returns-in-Some : goal.returns-in-Some
returns-in-Some g c = is_read (λ trusted s x holds lawful v led there.
    let n = c.args.change in
    let all = items_after c.args.queue.now (items_in s x.state c.args.queue.now) c.args.edits.now in
    ap (λ o. option_or o (item_left n (queued_of s x.state n) all))
    (sym c.in-Some.is ∙ c.in_ok-item.ensures.found trusted s x holds lawful)
    ∙ change_led s x c.args.edits.now v c.args.queue.now n lawful.lawful.sound led there)
    (search rules) (search rules)

pub returns-in-None : goal.returns-in-None
returns-in-None g c = is_read (λ trusted s x holds lawful v led there.
    let n = c.args.change in
    let all = items_after c.args.queue.now (items_in s x.state c.args.queue.now) c.args.edits.now in
    let before = c.item_left.ensures.kept.trusted_before trusted in
    let at = c.in_ok-item.ensures.kept.holds_on before s x holds in
    IfOk-weaker c.item_left.result _ _ (λ found e. e
    ∙ ap (λ o. option_or o (item_left n (queued_of s x.state n) all))
    (sym c.in-None.is ∙ c.in_ok-item.ensures.found before s x holds lawful)
    ∙ change_led s x c.args.edits.now v c.args.queue.now n lawful.lawful.sound led there)
    (c.item_left.ensures.found trusted s x at lawful))
    (search rules) (search rules)
