use Rattle.std.proofs.Common.{◌≡◌, take}
use Rattle.gate_memory.specs.TableReads.{builds_of_rows}
use Rattle.gate_memory.proofs.collecting.builds_of.Given as goal

abbrev pub invariant-loop-item : goal.invariant-loop-item
invariant-loop-item l = l.found ≡ builds_of_rows l.fn.builds.rows.items (take l.item-index l.items)
