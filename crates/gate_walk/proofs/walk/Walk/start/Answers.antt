use Rattle.gate_types.specs.Window.{bounds_by}
use Rattle.gate_walk.proofs.UnderWay.{starts}
use Rattle.gate_walk.proofs.walk.Walk.start.Goals as goal

pub returns-clause-for_a_delivery : goal.returns-clause-for_a_delivery
returns-clause-for_a_delivery c =
    let queue = c.args.queue in
    let touched = c.args.touched in
    λ x f. starts x _ queue touched
    (λ k. record {
      name = c.in_ok-copy.ensures k;
      bounds = bounds_by queue.settings.now;
      touched = touched.serial;
      told = c.new-2.ensures.items k;
      carry = record {
        resets = c.changes_lines.ensures k;
        passes = c.passes_a_landing.ensures k;
        ahead = touched.ahead;
        gone = c.in_ok-gone_at_first.ensures k;
        marks = c.new.ensures.items k;
        reports = queue.reports;
        window = queue.window;
      };
    }) f
