use Rattle.std.proofs.Common.{sym, subst, rules}
use Rattle.gate_book_trait.proofs.ReadingLemmas.{is_read}
use Rattle.gate_live.specs.Parts.{Agrees, Parts}
use Rattle.gate_live.proofs.live.Live.needing_over.Goals as goal

pub returns-clause-reads : goal.returns-clause-reads
returns-clause-reads g c = is_read (λ trusted k x holds lawful agrees.
    let old = subst (λ (p : Parts). Agrees p k x) (sym c.self.view_is) agrees in
    c.needing_over.ensures.reads.found trusted k x holds lawful old.tables old.changes)
    (search rules) (search rules)

pub returns-clause-agrees : goal.returns-clause-agrees
returns-clause-agrees g c trusted k x holds lawful agrees =
    let old = subst (λ (p : Parts). Agrees p k x) (sym c.self.view_is) agrees in
    record { tables = old.tables; builds = old.builds; plans = old.plans; changes = c.needing_over.ensures.rows trusted k x holds lawful old.changes }
