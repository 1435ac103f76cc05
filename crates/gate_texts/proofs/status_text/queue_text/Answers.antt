use Rattle.std.proofs.Common.{◌++◌, ◌∙◌, [], length, sym, ap, rules}
use Rattle.std.specs.Prelude.{option_map}
use Rattle.std.specs.Option.{option_map_or}
use Rattle.std.proofs.lemmas.Option.{same_Some}
use Rattle.gate_types.specs.State.{Queue}
use Rattle.gate_book_trait.proofs.ReadingLemmas.{is_read_under}
use Rattle.gate_reads.proofs.KnownPlaces.{named_is}
use Rattle.gate_texts.specs.Lines.{queue_line}
use Rattle.gate_texts.proofs.status_text.queue_text.Goals as goal

pub returns : goal.returns
returns g c = is_read_under (λ trusted x holds lawful q named.
    let two = c.in_ok-items.ensures.kept.trusted_before trusted in
    let one = c.in_ok-landings.ensures.kept.trusted_before two in
    let at_one = c.in_ok-window.ensures.kept.holds_on one _ x holds in
    let at_two = c.in_ok-landings.ensures.kept.holds_on two _ x at_one in
    let window = same_Some c.in-Some.window q.window
    (sym c.in-Some.is ∙ c.in_ok-window.ensures.found one _ x holds lawful
    ∙ ap (option_map (λ (z : Queue). z.window)) named) in
    let landings = c.in_ok-landings.ensures.found two _ x at_one lawful
    ∙ ap (λ o. length (option_map_or (λ (z : Queue). z.landings) o [])) named in
    let name = c.as_str.ensures.value ∙ sym (named_is x.state c.args.queue.now q named) in
    let line = c.in_ok-line.ensures ∙ (λ k. queue_line (name k) (window k) (landings k)) in
    let items = c.in_ok-items.ensures.found trusted x at_two lawful q named in
    c.in_ok-text.ensures.ok ∙ (λ k. line k ++ items k))
    (search rules) (search rules)
