use Rattle.std.proofs.Common.{◌≡◌, map, take}
use Rattle.std.specs.Prelude.{string_bytes}
use Rattle.gate_types.specs.SettingsText.{job_text}
use Rattle.gate_types.proofs.settings_text.job_texts.Given as goal

abbrev pub invariant-loop-job : goal.invariant-loop-job
invariant-loop-job l = map string_bytes l.texts.items ≡ map job_text (take l.job-index l.jobs)
