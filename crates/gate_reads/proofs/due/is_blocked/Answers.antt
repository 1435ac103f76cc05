use Rattle.std.proofs.Common.{◌∙◌, not, ap, rules}
use Rattle.gate_book_trait.proofs.ReadingLemmas.{is_read_under}
use Rattle.gate_reads.specs.Places.{are_met_among}
use Rattle.gate_reads.proofs.KnownPlaces.{blocked_at}
use Rattle.gate_reads.proofs.due.is_blocked.Goals as goal

pub returns : goal.returns
returns g c = is_read_under (λ trusted x holds lawful q p at.
    let before = c.in_ok-needs.ensures.kept.trusted_before trusted in
    let held = c.in_ok-known.ensures.kept.holds_on before _ x holds in
    ap not (c.are_met_among.ensures ∙ ap (λ a. are_met_among a c.deref.result.now) c.as_slice.ensures)
    ∙ blocked_at at c.in_ok-known.known c.deref.result.now (c.in_ok-known.ensures.found before _ x holds lawful)
    (c.deref.ensures.value ∙ c.in_ok-needs.ensures.found trusted _ x held lawful))
    (search rules) (search rules)
