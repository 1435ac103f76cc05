use Rattle.std.proofs.Common.{◌∙◌, ap}
use Rattle.gate_types.specs.Tables.{tables}
use Rattle.gate_book_trait.proofs.ReadLemmas.{approval_is}
use Rattle.gate_live.specs.Parts.{Parts}
use Rattle.gate_live.proofs.LiveChangeLemmas.{rows_are}
use Rattle.gate_live.proofs.live.Live.approval.Goals as goal

pub returns-in-Some : goal.returns-in-Some
returns-in-Some c k x lawful agrees =
    c.approval.ensures (tables k x).changes (rows_are k x c.args.self.now.changes c.self.inside.changes _ (ap (λ (p : Parts). p.changes) c.self.view_is) c.in-Some.is agrees.changes)
    ∙ approval_is k x c.args.change lawful
