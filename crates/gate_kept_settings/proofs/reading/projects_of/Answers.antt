use Rattle.serde_json.specs.View.{view}
use Rattle.gate_kept_settings.specs.Reading.{project_at}
use Rattle.gate_kept_settings.proofs.ListLemmas.{reads_one}
use Rattle.gate_kept_settings.proofs.ReadingLemmas.{list_stops}
use Rattle.gate_kept_settings.proofs.reading.projects_of.Goals as goal

pub returns-in_err-project_of : goal.returns-in_err-project_of
returns-in_err-project_of c =
    list_stops (λ projects. projects.items) _ _ project_at view _ _ _ _ c.loop-value.invariant c.loop-value-test.true c.value-item.is c.from_residual.ensures.1 c.in_err-project_of.ensures

pub loop-value-preserved : goal.loop-value-preserved
loop-value-preserved c =
    reads_one project_at view _ _ _ _ _ _ c.loop-value.invariant c.loop-value-test.true c.value-item.is c.in_ok-project_of.ensures c.in_ok-push.ensures
