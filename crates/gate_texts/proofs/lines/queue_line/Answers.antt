use Rattle.std.proofs.Common.{sym, ◌∙◌}
use Rattle.std.specs.Prelude.{decimal}
use Rattle.gate_texts.proofs.LineLemmas.{queue_joined}
use Rattle.gate_texts.proofs.lines.queue_line.Goals as goal

pub returns : goal.returns
returns c =
    c.in_ok-text.ensures.ok ∙ sym (queue_joined c.args.name.now (decimal c.args.window) (decimal c.args.landings))
