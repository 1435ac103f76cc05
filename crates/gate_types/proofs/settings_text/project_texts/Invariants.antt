use Rattle.std.proofs.Common.{◌≡◌, map, take}
use Rattle.std.specs.Prelude.{string_bytes}
use Rattle.gate_types.specs.SettingsText.{project_text}
use Rattle.gate_types.proofs.settings_text.project_texts.Given as goal

abbrev pub invariant-loop-project : goal.invariant-loop-project
invariant-loop-project l = map string_bytes l.texts.items ≡ map project_text (take l.project-index l.projects)
