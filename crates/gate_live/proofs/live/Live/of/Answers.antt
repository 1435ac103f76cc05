use Rattle.std.proofs.Common.{List, sym, subst}
use Rattle.gate_types.specs.declared.records.Plan.{Plan}
use Rattle.gate_live.specs.HeldBuilds.{AreBuildsOf, KnownBuilds}
use Rattle.gate_live.specs.HeldPlans.{ArePlansOf}
use Rattle.gate_live.proofs.HeldBuildLemmas.{none_held}
use Rattle.gate_live.proofs.live.Live.of.Goals as goal

pub returns-clause-agrees : goal.returns-clause-agrees
returns-clause-agrees c k x live changes = record {
  tables = live;
  builds = subst (λ (h : KnownBuilds). AreBuildsOf h x.state.builds) (sym c.new.ensures.rows) (none_held x.state.builds);
  plans = subst (λ (rows : List Plan). ArePlansOf rows x.state.plans) (sym c.new-2.ensures.rows) tt;
  changes = changes;
}
