use Rattle.std.proofs.Common.{◌≡◌, ◌≤◌, ◌+◌, ◌⊎◌, take}
use Rattle.std.specs.Prelude.{vec_len, vec_capacity}
use Rattle.gate_types.specs.Rising.{In}
use Rattle.gate_memory.specs.Needs.{AreInOrder, TellsNeedsOf}
use Rattle.gate_memory.specs.declared.pairs.Pair.{Pair}
use Rattle.gate_memory.proofs.needs.note_needs.Given as goal

abbrev pub invariant-loop-need : goal.invariant-loop-need
invariant-loop-need l = record {
  order : AreInOrder l.index.items;
  told : TellsNeedsOf l.index.items l.fn.number (take l.need-index l.needs);
  others : (p : Pair) → In p l.fn.index.items → In p l.index.items;
  back : (p : Pair) → In p l.index.items → In p l.fn.index.items ⊎ ((p.second ≡ l.fn.number) × In p.first l.needs);
  len : vec_len l.index ≤ vec_len l.fn.index + l.need-index;
  capacity : vec_capacity l.index ≡ vec_capacity l.fn.index;
}
