use Rattle.std.proofs.Common.{sym, ◌∙◌}
use Rattle.std.specs.Prelude.{decimal}
use Rattle.gate_texts.proofs.LineLemmas.{waiting_joined}
use Rattle.gate_texts.proofs.lines.waiting_line.Goals as goal

pub returns : goal.returns
returns c =
    let written = rw c.get-change.ensures.value at c.in_ok-text.ensures.ok in
    written ∙ sym (waiting_joined (decimal c.args.change) (decimal c.args.revision))
