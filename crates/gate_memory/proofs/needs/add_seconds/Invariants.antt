use Rattle.std.proofs.Common.{ℕ, take}
use Rattle.std.specs.List.{AllByRecursion}
use Rattle.gate_types.specs.Rising.{In}
use Rattle.gate_memory.specs.Needs.{IsRising}
use Rattle.gate_memory.proofs.needs.add_seconds.Given as goal

abbrev pub invariant-loop-pair : goal.invariant-loop-pair
invariant-loop-pair l = record {
  rising : IsRising l.numbers.items;
  told : AllByRecursion (λ p. In p.second l.numbers.items) (take l.pair-index l.pairs);
  others : (n : ℕ) → In n l.fn.numbers.items → In n l.numbers.items;
}
