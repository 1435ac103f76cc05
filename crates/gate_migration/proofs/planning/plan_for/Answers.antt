use Rattle.std.proofs.Common.{◌≡◌, ◌∙◌, ◌&&◌, Some, find}
use Rattle.gate_types.specs.Names.{same_name}
use Rattle.gate_types.specs.declared.config.Project.{Project}
use Rattle.gate_migration.proofs.PlanningLemmas.{project_is}
use Rattle.gate_migration.proofs.planning.plan_for.Goals as goal

pub returns-in-Some-clause-found : goal.returns-in-Some-clause-found
returns-in-Some-clause-found g c clean b s shows are =
    let k = c.args.config.now in
    let project = c.in-Some.project.now in
    let found : Some project ≡ find (λ (p : Project). same_name p.name c.in_ok-name.name) k.projects = rw c.as_str.ensures.value at c.in-Some.ensures in
    let same = project_is k s b c.args.change c.in_ok-name.name project are (c.in_ok-name.ensures.found clean b shows) found in
    c.in_ok-plan_by-in-Some.ensures ∙ (λ i. record { serial = c.args.serial; jobs = (same i).jobs; fast = c.args.may_fail_fast && (same i).fail_fast })
