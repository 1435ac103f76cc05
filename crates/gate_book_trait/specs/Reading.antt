-- What calls that only read a book promise.
use Rattle.std.specs.Prelude.{List, Result, IfErr}
use Rattle.gate_types.specs.Settings.{Settings}
use Rattle.gate_types.specs.Once.{Content}
use Rattle.gate_book_trait.specs.declared.fault.BookFault.{BookFault}
use Rattle.gate_book_trait.specs.Kept.{OfHeld, OfHeldUnder, IsKept}

-- a read tells this of each lawful content that the book held, keeps the book, and answers no faults but these
pub record IsRead {B T : Type 0} (trusted : B → Type 0) (holds : B → Settings → Content → Type 0)
    (leaves : B → Settings → List Content → Type 0) (may : BookFault → Type 0) (old new : B)
    (tells : Settings → Content → Type 0) (result : Result T BookFault) : Type 0 where
  pub found : OfHeld trusted holds old new tells
  pub kept : IsKept trusted holds leaves old new
  pub fault : IfErr result may

-- the same under these settings
pub record IsReadUnder {B T : Type 0} (trusted : B → Type 0) (holds : B → Settings → Content → Type 0)
    (leaves : B → Settings → List Content → Type 0) (may : BookFault → Type 0) (old new : B) (c : Settings)
    (tells : Content → Type 0) (result : Result T BookFault) : Type 0 where
  pub found : OfHeldUnder trusted holds old new c tells
  pub kept : IsKept trusted holds leaves old new
  pub fault : IfErr result may
