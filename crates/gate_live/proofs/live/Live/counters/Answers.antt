use Rattle.std.proofs.Common.{◌∙◌, ap}
use Rattle.gate_types.specs.Counters.{capped}
use Rattle.gate_live.specs.Live.{LiveTables}
use Rattle.gate_live.specs.Parts.{Parts}
use Rattle.gate_live.proofs.BookLemmas.{held_is, capped_form}
use Rattle.gate_live.proofs.live.Live.counters.Goals as goal

pub returns-in-Some : goal.returns-in-Some
returns-in-Some c k x lawful agrees =
    c.counters.ensures
    ∙ ap (λ (l : LiveTables). capped l.counters) (held_is k x c.args.self.now c.self.inside.held _ (ap (λ (p : Parts). p.tables) c.self.view_is) c.in-Some.is agrees)
    ∙ capped_form x.state.counters lawful.in_form.state.counters
