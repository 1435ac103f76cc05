use Rattle.std.proofs.Common.{◌≡◌, ◌≢◌, ◌≤◌, take}
use Rattle.std.specs.Prelude.{vec_len, vec_capacity}
use Rattle.gate_types.specs.Rising.{In}
use Rattle.gate_memory.specs.Needs.{AreInOrder, TellsNoneOf}
use Rattle.gate_memory.specs.declared.pairs.Pair.{Pair}
use Rattle.gate_memory.proofs.needs.forget_needs.Given as goal

abbrev pub invariant-loop-need : goal.invariant-loop-need
invariant-loop-need l = record {
  order : AreInOrder l.index.items;
  gone : TellsNoneOf l.index.items l.fn.number (take l.need-index l.needs);
  others : (p : Pair) → p.second ≢ l.fn.number → In p l.fn.index.items → In p l.index.items;
  back : (p : Pair) → In p l.index.items → In p l.fn.index.items;
  len : vec_len l.index ≤ vec_len l.fn.index;
  capacity : vec_capacity l.index ≡ vec_capacity l.fn.index;
}
