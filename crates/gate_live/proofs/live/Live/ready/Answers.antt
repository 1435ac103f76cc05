use Rattle.std.proofs.Common.{ap}
use Rattle.gate_types.specs.Tables.{tables}
use Rattle.gate_book_trait.proofs.ReadLemmas.{ready_are}
use Rattle.gate_live.specs.Parts.{Parts}
use Rattle.gate_live.proofs.LiveChangeLemmas.{rows_are}
use Rattle.gate_live.proofs.live.Live.ready.Goals as goal

pub returns-in-Ok : goal.returns-in-Ok
returns-in-Ok c k x lawful agrees =
    c.in-Ok.ensures (tables k x).changes (rows_are k x c.args.self.now.changes c.self.inside.changes _ (ap (λ (p : Parts). p.changes) c.self.view_is) c.in-Some.is agrees.changes)
    x.state.ready (ready_are k x lawful)
