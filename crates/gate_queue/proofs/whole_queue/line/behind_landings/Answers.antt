use Rattle.std.proofs.Common.{◌∙◌, ◌+◌, map, drop, sym, ap, arith, lt-ltb, le-ltb}
use Rattle.std.specs.Prelude.{filter, nat_lt}
use Rattle.gate_types.specs.Line.{landed_entry, ran_on}
use Rattle.gate_queue.specs.WholeQueue.Follows.{has_entry}
use Rattle.gate_queue.proofs.WholeQueue.FollowLemmas.{breaks, left_kept, goes_on_kept, goes_on_dropped}
use Rattle.gate_queue.proofs.whole_queue.line.behind_landings.Goals as goal
use Rattle.gate_queue.proofs.whole_queue.line.behind_landings.Goals.{then-get+else-not-has_entry, else-get}

pub returns-then-not-has_entry-clause-follows : goal.returns-then-not-has_entry-clause-follows
returns-then-not-has_entry-clause-follows c =
    breaks _ _ c.args.from c.loop-landing.n (landed_entry c.landing-item.result) _ (map landed_entry (filter (λ l. nat_lt l.serial c.args.serial) (drop (c.loop-landing.landing-index + 1) c.args.last.now)))
    (left_kept landed_entry (λ l. nat_lt l.serial c.args.serial) c.args.last.now c.loop-landing.landing-index c.landing-item.result (omega arith) c.landing-item.is (lt-ltb c.landing-item.result.serial c.args.serial (omega arith)))
    (ap (has_entry (ran_on c.args.landings.now c.args.build.now) c.loop-landing.n) (sym c.landed_entry.ensures) ∙ sym c.has_entry.ensures ∙ c.if-not-has_entry.true)
    c.loop-landing.invariant.1

pub loop-landing-preserved : goal.loop-landing-preserved
loop-landing-preserved c =
    elim c.if-get.branch [
      | then-get+else-not-has_entry w ↦ (
        omega arith,
        goes_on_kept landed_entry (λ l. nat_lt l.serial c.args.serial) c.args.last.now c.loop-landing.landing-index c.landing-item.result _ _ c.args.from c.loop-landing.n c.if-get.n (omega arith) c.landing-item.is (lt-ltb c.landing-item.result.serial c.args.serial (omega arith))
            (ap (has_entry (ran_on c.args.landings.now c.args.build.now) c.loop-landing.n) (sym w.landed_entry.ensures) ∙ sym w.has_entry.ensures ∙ w.if-not-has_entry.false) w.n-is c.loop-landing.invariant.1,
      )
      | else-get w ↦ (
        omega arith,
        goes_on_dropped landed_entry (λ l. nat_lt l.serial c.args.serial) c.args.last.now c.loop-landing.landing-index c.landing-item.result _ _ c.args.from c.loop-landing.n c.if-get.n (omega arith) c.landing-item.is (le-ltb c.landing-item.result.serial c.args.serial (omega arith)) w.n-is c.loop-landing.invariant.1,
      )
    ]
