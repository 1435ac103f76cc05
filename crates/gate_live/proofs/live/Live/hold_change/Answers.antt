use Rattle.std.proofs.Common.{◌∙◌, sym, subst}
use Rattle.gate_types.specs.Tables.{tables}
use Rattle.gate_book_trait.proofs.ReadLemmas.{change_is}
use Rattle.gate_live.specs.Parts.{Agrees, Parts}
use Rattle.gate_live.proofs.live.Live.hold_change.Goals as goal

pub returns : goal.returns
returns c n k x found agrees =
    let old = subst (λ (p : Parts). Agrees p k x) (sym c.self.view_is) agrees in
    record { tables = old.tables; builds = old.builds; plans = old.plans; changes = c.hold_found.ensures.held n (tables k x).changes (found ∙ sym (change_is k x n)) old.changes }
