-- Which faults are answered.
use Rattle.std.specs.Prelude.{◌≡◌, ◌⊎◌}
use Rattle.gate_book_trait.specs.declared.fault.BookFault.{BookFault}
use Rattle.gate_book_trait.specs.declared.fault.BookFault.TheVariants as fault

-- one that the book may answer, or want of memory
abbrev pub MayAnswer : (BookFault → Type 0) → BookFault → Type 0
MayAnswer may f = may f ⊎ (f ≡ fault.NoMemory)
