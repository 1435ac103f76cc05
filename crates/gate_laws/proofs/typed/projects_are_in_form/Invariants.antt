use Rattle.std.proofs.Common.{◌≡◌, true, take}
use Rattle.std.specs.List.{list_all}
use Rattle.gate_types.specs.Forms.{is_project_in_form}
use Rattle.gate_laws.proofs.typed.projects_are_in_form.Given as goal

abbrev pub invariant-loop-project : goal.invariant-loop-project
invariant-loop-project l = list_all (is_project_in_form) (take l.project-index l.projects) ≡ true
