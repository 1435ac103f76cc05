use Rattle.std.proofs.Common.{sym, subst}
use Rattle.gate_live.specs.Parts.{Agrees, Parts}
use Rattle.gate_live.proofs.RisingLemmas.{builds_rise}
use Rattle.gate_live.proofs.live.Live.hold_builds.Goals as goal

pub returns-then-holds_item : goal.returns-then-holds_item
returns-then-holds_item c k x lawful found agrees =
    let old = subst (λ (p : Parts). Agrees p k x) (sym c.self.view_is) agrees in
    record {
      tables = old.tables;
      builds = c.hold.ensures.held x.state.builds (builds_rise k x lawful) found old.builds;
      plans = old.plans;
      changes = old.changes;
    }
