use Rattle.std.proofs.Common.{◌≡◌, take}
use Rattle.gate_types.proofs.config.copied_projects.Given as goal

abbrev pub invariant-loop-project : goal.invariant-loop-project
invariant-loop-project l = l.copies.items ≡ take l.project-index l.projects
