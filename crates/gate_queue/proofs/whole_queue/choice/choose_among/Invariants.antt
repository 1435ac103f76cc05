use Rattle.std.proofs.Common.{◌≡◌, drop}
use Rattle.gate_queue.specs.WholeQueue.Waiting.{choice_by}
use Rattle.gate_queue.proofs.whole_queue.choice.choose_among.Given as goal

abbrev pub invariant-loop-index : goal.invariant-loop-index
invariant-loop-index l = choice_by l.builds l.items l.jobs ≡ choice_by l.builds (drop l.index l.items) (drop l.index l.jobs)
