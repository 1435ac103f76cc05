use Rattle.std.proofs.Common.{◌∙◌, ◌+◌, ap}
use Rattle.gate_texts.proofs.RunningBuilds.{of_one_more}
use Rattle.gate_texts.proofs.running.push_running.Goals as goal

pub returns : goal.returns
returns c builds told =
    of_one_more c.args.running.now _ builds c.args.build.now told c.in_ok-push_listed.ensures.list
    (c.in-Some.ensures.1 ∙ ap (λ n. n + 1) c.in_ok-push_listed.ensures.count)
