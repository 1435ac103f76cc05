use Rattle.std.proofs.Common.{map, codes, ap, ◌∙◌, arith}
use Rattle.std.proofs.lemmas.List.{take_all}
use Rattle.std.specs.Prelude.{string_bytes}
use Rattle.gate_types.specs.SettingsText.{job_text}
use Rattle.gate_types.proofs.JoinLemmas.{joined_as}
use Rattle.gate_types.proofs.settings_text.job_texts.Goals as goal

pub returns : goal.returns
returns c =
    let all = take_all c.loop-job.job-index c.args.jobs.now (omega arith) in
    (rw c.deref.ensures.value at c.in_ok-join.ensures.ok) ∙ joined_as string_bytes job_text (codes ",") _ _ (c.loop-job.invariant ∙ ap (map job_text) all)
