use Rattle.std.proofs.Common.{◌∙◌, ap}
use Rattle.std.specs.Prelude.{string_bytes}
use Rattle.gate_texts.specs.Listed.{with_entry}
use Rattle.gate_texts.proofs.Entries.{entries_next}
use Rattle.gate_texts.proofs.ItemTexts.{jobs_told_are}
use Rattle.gate_texts.proofs.item.jobs_text.Goals as goal

pub loop-job-preserved : goal.loop-job-preserved
loop-job-preserved c =
    entries_next (jobs_told_are c.args.cut c.args.builds.now) c.args.jobs.now c.loop-job.job-index c.job-item.result
    c.loop-job-test.true c.job-item.is (string_bytes c.loop-job.list) (string_bytes c.push_entry.new.list)
    (string_bytes c.in_ok-entry.entry) c.loop-job.invariant c.in_ok-entry.ensures
    (c.in_ok-push_entry.ensures ∙ ap (with_entry (string_bytes c.loop-job.list)) c.as_str.ensures.value)
