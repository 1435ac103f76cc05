use Rattle.std.proofs.Common.{take}
use Rattle.std.specs.List.{AllByRecursion}
use Rattle.gate_memory.specs.Needs.{IsRising, TellsSerials}
use Rattle.gate_memory.proofs.collecting.serials_of.Given as goal

abbrev pub invariant-loop-pair : goal.invariant-loop-pair
invariant-loop-pair l = record {
  rising : IsRising l.serials.items;
  told : AllByRecursion (λ p. TellsSerials p.second l.serials.items l.fn.queue.items.items) (take l.pair-index l.pairs);
}
