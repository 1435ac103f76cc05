use Rattle.std.proofs.Common.{◌++◌, ◌∷◌, [], map, ap, ◌∙◌}
use Rattle.std.specs.Prelude.{string_bytes, codes, decimal}
use Rattle.gate_types.specs.JsonText.{array, entry}
use Rattle.gate_texts.proofs.BuildLemmas.{build_written}
use Rattle.gate_texts.proofs.build.text_of.Goals as goal

pub returns : goal.returns
returns c =
    let b = c.args.build.now in
    let ahead = c.in_ok-ahead.ensures ∙ ap (λ es. array (map entry es) []) c.as_slice.ensures in
    let begun = rw (c.as_str.ensures.value, c.get.ensures.value) at c.in_ok-front.ensures in
    let back = rw (c.as_str-queue.ensures.value, c.get-revision.ensures.value) at c.in_ok-back.ensures in
    let written = rw (c.get-change.ensures.value, c.as_str-job.ensures.value) at c.in_ok-text.ensures.ok in
    written
    ∙ ap (λ l. string_bytes c.in_ok-front.front ++ (codes ",\"change\":" ++ (decimal b.change
    ++ (codes ",\"job\":\"" ++ (b.job ++ (34 ∷ l)))))) back
    ∙ build_written b (string_bytes c.in_ok-ahead.ahead) (string_bytes c.in_ok-front.front) ahead begun
