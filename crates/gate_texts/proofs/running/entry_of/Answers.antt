use Rattle.std.proofs.Common.{◌∙◌}
use Rattle.gate_texts.proofs.RunningBuilds.{running_grouped}
use Rattle.gate_texts.proofs.running.entry_of.Goals as goal

pub returns : goal.returns
returns c =
    let told = rw (
      c.get-number.ensures.value,
      c.get-change.ensures.value,
      c.as_str-job.ensures.value,
      c.get-order.ensures.value,
      c.as_str-queue.ensures.value,
      c.get-revision.ensures.value,
    ) at c.in_ok-text.ensures.ok in
    told ∙ running_grouped c.args.build.now
