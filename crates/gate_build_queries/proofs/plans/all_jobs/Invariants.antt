use Rattle.std.proofs.Common.{◌≡◌, ◌≤◌, List, map, take, length}
use Rattle.std.specs.List.{AllPass}
use Rattle.std.specs.Prelude.{vec_len, vec_capacity}
use Rattle.gate_types.specs.Names.{is_name}
use Rattle.gate_types.specs.declared.config.Job.{Job}
use Rattle.gate_found_rows.specs.Shown.{job_shown}
use Rattle.gate_build_queries.proofs.plans.all_jobs.Given as goal

abbrev pub invariant-loop-row : goal.invariant-loop-row
invariant-loop-row l =
    (vec_len l.jobs ≡ l.row-index) × (length l.rows ≤ vec_capacity l.jobs) ×
    ((js : List Job) → l.rows ≡ map job_shown js → AllPass (λ (j : Job). is_name j.name) js → l.jobs.items ≡ take l.row-index js)
