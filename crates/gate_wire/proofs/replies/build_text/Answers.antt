use Rattle.std.proofs.Common.{◌∙◌, ap, map, []}
use Rattle.std.specs.Prelude.{string_bytes}
use Rattle.gate_types.specs.JsonText.{array, entry}
use Rattle.gate_wire.proofs.ReplyLemmas.{build_written}
use Rattle.gate_wire.proofs.replies.build_text.Goals as goal

pub returns : goal.returns
returns c =
    let ahead = c.in_ok-ahead.ensures ∙ ap (λ es. array (map entry es) []) c.as_slice.ensures in
    let begun = rw (c.as_str.ensures.value, c.get.ensures.value) at c.in_ok-front.ensures in
    let written = rw (c.get-change.ensures.value, c.get-revision.ensures.value, c.as_str-job.ensures.value, c.as_str-queue.ensures.value) at c.in_ok-text.ensures.ok in
    written ∙ build_written c.args.build.now (string_bytes c.in_ok-ahead.ahead) (string_bytes c.in_ok-front.front) ahead begun
