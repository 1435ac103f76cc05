-- The last numbers drawn, as a book in memory keeps them.
use Rattle.gate_types.specs.Counters.{Drawn}
use Rattle.gate_memory.specs.declared.drawn.LastNumbers.{LastNumbers}

-- as counters
abbrev pub drawn_of : LastNumbers → Drawn
drawn_of d = record { approval = d.approval; build = d.build; order = d.order }
