use Rattle.std.proofs.Common.{sym, refl, arith, ap}
use Rattle.gate_types.specs.State.{Item}
use Rattle.gate_queue.specs.WholeQueue.Facts.{place_for_line}
use Rattle.gate_queue.proofs.WholeQueue.FollowLemmas.{on_line}
use Rattle.gate_queue.proofs.whole_queue.line.is_line.Goals as goal

pub returns-in-Some : goal.returns-in-Some
returns-in-Some c =
    on_line (place_for_line c.args.landings.now c.args.ahead.now c.args.item) c.args.build.now c.min-from.result c.args.shared c.item.inside.serial _ c.is_rest.result (omega arith) (omega arith) (omega arith) c.requires (ap (λ (i : Item). i.serial) c.item.view_is) c.in-Some.ensures.follows
    (sym c.is_rest.ensures)

pub returns-in-None : goal.returns-in-None
returns-in-None c =
    on_line (place_for_line c.args.landings.now c.args.ahead.now c.args.item) c.args.build.now c.min-from.result c.args.shared c.item.inside.serial _ _ (omega arith) (omega arith) (omega arith) c.requires (ap (λ (i : Item). i.serial) c.item.view_is) c.in-None.ensures.follows refl
