use Rattle.std.proofs.Common.{◌≡◌, map, drop}
use Rattle.serde_json.specs.View.{view}
use Rattle.gate_kept_settings.specs.Reading.{each, job_at}
use Rattle.gate_kept_settings.proofs.ListLemmas.{more}
use Rattle.gate_kept_settings.proofs.reading.jobs_of.Given as goal

-- what all say is what was read and what the rest says
abbrev pub invariant-loop-value : goal.invariant-loop-value
invariant-loop-value l = each job_at (map view l.values) ≡ more l.jobs.items (each job_at (map view (drop l.value-index l.values)))
