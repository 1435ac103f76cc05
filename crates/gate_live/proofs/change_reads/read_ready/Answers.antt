use Rattle.std.proofs.Common.{◌∙◌, rules}
use Rattle.gate_book_trait.proofs.KeptLemmas.{then}
use Rattle.gate_book_trait.proofs.ReadingLemmas.{is_read}
use Rattle.gate_live.proofs.change_reads.read_ready.Goals as goal

pub returns-clause-reads : goal.returns-clause-reads
returns-clause-reads g c = is_read (λ trusted k x holds lawful.
    let early = c.in_ok-held.ensures.reads.kept.trusted_before trusted in
    let held = c.in_ok-list.ensures.kept.holds_on early k x holds in
    c.in_ok-held.ensures.reads.found trusted k x held lawful
    (c.as_slice.ensures ∙ c.in_ok-list.ensures.found early k x holds lawful))
    (then c.in_ok-list.ensures.kept c.in_ok-held.ensures.reads.kept) (search rules)
