-- Which faults are answered.
use Rattle.std.specs.Prelude.{◌≡◌, ◌⊎◌}
use Rattle.gate_book_trait.specs.declared.fault.BookFault.{BookFault}
use Rattle.gate_book_trait.specs.declared.fault.BookFault.TheVariants as fault
use Rattle.gate_book_trait.specs.Faults.{MayAnswer}

-- one that the book may answer, want of memory, or that a row which another row names isn't there
abbrev pub MayRule : (BookFault → Type 0) → BookFault → Type 0
MayRule may f = MayAnswer may f ⊎ (f ≡ fault.Damaged)
