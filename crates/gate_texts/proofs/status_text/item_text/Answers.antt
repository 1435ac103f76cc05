use Rattle.std.proofs.Common.{◌∙◌, ap, not, rules}
use Rattle.gate_book_trait.proofs.ReadingLemmas.{is_read_under}
use Rattle.gate_texts.proofs.Shown.{item_told}
use Rattle.gate_texts.proofs.status_text.item_text.Goals as goal

pub returns : goal.returns
returns g c = is_read_under (λ trusted x holds lawful name q p at.
    let third = c.in_ok-builds.ensures.kept.trusted_before trusted in
    let second = c.in_ok-plan.ensures.kept.trusted_before third in
    let first = c.in_ok-needs.ensures.kept.trusted_before second in
    let held = c.in_ok-known.ensures.kept.holds_on first _ x holds in
    let needed = c.in_ok-needs.ensures.kept.holds_on second _ x held in
    let planned = c.in_ok-plan.ensures.kept.holds_on third _ x needed in
    c.in_ok-item_line.ensures
    ∙ item_told lawful.lawful at c.in_ok-known.known c.deref.result.now c.as_slice.result.now c.in_ok-plan.plan
    c.as_slice-jobs.result.now
    (not c.are_met_among-blocked.result) c.is_cut-cut.result (c.in_ok-known.ensures.found first _ x holds lawful)
    (c.deref.ensures.value ∙ c.in_ok-needs.ensures.found second _ x held lawful)
    (c.as_slice.ensures ∙ c.in_ok-builds.ensures.found trusted _ x planned lawful)
    (c.in_ok-plan.ensures.found third _ x needed lawful) c.as_slice-jobs.ensures
    (ap not c.are_met_among-blocked.ensures) c.is_cut-cut.ensures)
    (search rules) (search rules)
