use Rattle.std.proofs.Common.{◌≡◌, take}
use Rattle.std.specs.List.{filter_map}
use Rattle.gate_types.specs.Keys.{serial_of_item}
use Rattle.gate_memory.specs.Changes.{changes_of}
use Rattle.gate_memory.specs.Sorted.{passing_at}
use Rattle.gate_book_trait.specs.RowReads.{is_needing_in}
use Rattle.gate_memory.proofs.collecting.needing_at.Given as goal

abbrev pub invariant-loop-serial : goal.invariant-loop-serial
invariant-loop-serial l =
    l.found ≡ filter_map (passing_at serial_of_item (is_needing_in (changes_of l.fn.changes) l.fn.change l.fn.above) l.fn.items) (take l.serial-index l.serials)
