use Rattle.std.proofs.Common.{◌≡◌, take}
use Rattle.gate_book_trait.specs.RowReads.{plans_of_rows}
use Rattle.gate_memory.proofs.collecting.plans_of.Given as goal

abbrev pub invariant-loop-item : goal.invariant-loop-item
invariant-loop-item l = l.found ≡ plans_of_rows l.fn.plans.rows.items (take l.item-index l.items)
