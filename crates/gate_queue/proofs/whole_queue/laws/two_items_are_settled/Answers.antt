use Rattle.std.proofs.Common.{refl}
use Rattle.gate_queue.proofs.whole_queue.laws.two_items_are_settled.Goals as goal

pub returns : goal.returns
returns c = record { first_fails = refl; first_goes = refl; both_go = refl; nobody_fails = refl }
