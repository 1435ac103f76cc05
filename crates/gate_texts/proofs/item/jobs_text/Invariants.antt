use Rattle.std.proofs.Common.{◌≡◌, take}
use Rattle.std.specs.Prelude.{string_bytes}
use Rattle.gate_texts.specs.Items.{jobs_told}
use Rattle.gate_texts.proofs.item.jobs_text.Given as goal

abbrev pub invariant-loop-job : goal.invariant-loop-job
invariant-loop-job l = string_bytes l.list ≡ jobs_told l.cut l.builds (take l.job-index l.jobs)
