use Rattle.std.proofs.Common.{subst, rules}
use Rattle.gate_reads.specs.Stands.{QueuesSo}
use Rattle.gate_ruling.proofs.GivenUp.{nothing_moves, unqueued}
use Rattle.gate_ruling.proofs.leaving.give_up_place.Goals as goal

pub returns-in_default : goal.returns-in_default
returns-in_default g c = record {
  moves = λ trusted x holds lawful n so free.
      nothing_moves x c.args.verdict n c.new.result.items c.new.ensures.items
      (unqueued c.args.config.now x.state n c.args.place c.in_default.not-Item so free);
  touched = λ trusted x holds lawful n so free.
      unqueued c.args.config.now x.state n c.args.place c.in_default.not-Item so free;
  kept = search rules;
  fault = tt;
}

pub returns-clause-moves : goal.returns-clause-moves
returns-clause-moves g c trusted x holds lawful n so free =
    c.leave_queue.ensures.moves trusted x holds lawful n
    (subst (QueuesSo c.args.config.now x.state n) c.in-Item.is so).1

pub returns-clause-touched : goal.returns-clause-touched
returns-clause-touched g c trusted x holds lawful n so free =
    c.leave_queue.ensures.touched trusted x holds lawful n
    (subst (QueuesSo c.args.config.now x.state n) c.in-Item.is so).1
