use Rattle.std.proofs.Common.{◌≡◌, ◌+◌, true, take}
use Rattle.std.specs.Prelude.{nat_lt}
use Rattle.std.specs.List.{list_all}
use Rattle.gate_queue.proofs.whole_queue.shared.shared_from.Given as goal

abbrev pub invariant-loop-landing : goal.invariant-loop-landing
invariant-loop-landing l =
    (l.shared ≡ l.initial.shared + l.landing-index) ×
    (list_all (λ x. nat_lt x.serial l.serial) (take l.shared l.landings) ≡ true)
