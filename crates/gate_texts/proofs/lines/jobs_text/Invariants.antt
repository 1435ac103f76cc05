use Rattle.std.proofs.Common.{◌≡◌, ◌∷◌, take}
use Rattle.std.specs.Prelude.{string_bytes, flat_map}
use Rattle.gate_texts.specs.Lines.{job_column_by}
use Rattle.gate_texts.proofs.lines.jobs_text.Given as goal

abbrev pub invariant-loop-job : goal.invariant-loop-job
invariant-loop-job l = string_bytes l.text ≡ flat_map (λ j. 32 ∷ job_column_by l.cut l.builds j) (take l.job-index l.jobs)
