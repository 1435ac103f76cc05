-- What calls leave of a book.
use Rattle.std.specs.Prelude.{◌≢◌, ◌<◌, List, [], ◌∷◌, ◌++◌, length, Result, OnOk, IfErr}
use Rattle.gate_types.specs.Settings.{Settings}
use Rattle.gate_types.specs.Once.{Content}
use Rattle.gate_types.specs.Forms.{IsLawfulContent}
use Rattle.gate_types.specs.declared.edits.Edit.{Edit}
use Rattle.gate_book_trait.specs.declared.fault.BookFault.{BookFault}
use Rattle.gate_book_trait.specs.declared.fault.BookFault.TheVariants as fault

-- what is so of each lawful content that the book held, if it is trusted as the call ends
abbrev pub OfHeld : {B : Type 0} → (B → Type 0) → (B → Settings → Content → Type 0) → B → B →
    (Settings → Content → Type 0) → Type 0
OfHeld trusted holds old new P =
    trusted new → (c : Settings) (x : Content) → holds old c x → IsLawfulContent c x → P c x

-- the same under these settings
abbrev pub OfHeldUnder : {B : Type 0} → (B → Type 0) → (B → Settings → Content → Type 0) → B → B → Settings →
    (Content → Type 0) → Type 0
OfHeldUnder trusted holds old new c P =
    trusted new → (x : Content) → holds old c x → IsLawfulContent c x → P x

-- after a call that only reads, the book is trusted only if it was, holds what it held, and leaves what it left
pub record IsKept {B : Type 0} (trusted : B → Type 0) (holds : B → Settings → Content → Type 0)
    (leaves : B → Settings → List Content → Type 0) (old new : B) : Type 0 where
  pub trusted_before : trusted new → trusted old
  pub holds_on : trusted new → (c : Settings) (x : Content) → holds old c x → holds new c x
  pub leaves_on : trusted new → (c : Settings) (x : Content) → holds old c x →
      (ys : List Content) → leaves old c ys → leaves new c ys

-- after edits that lead from x to y, the book holds y, unless there was a fault; a crash then leaves y, after a fault
-- what it could leave before, or y
pub record IsApplied {B : Type 0} (holds : B → Settings → Content → Type 0)
    (leaves : B → Settings → List Content → Type 0) (old new : B) (c : Settings) (x : Content) (edits : List Edit)
    (y : Content) (result : Result (Unit {0}) BookFault) : Type 0 where
  pub ok : OnOk result (holds new c y)
  pub undamaged : IfErr result (λ f. f ≢ fault.Damaged)
  pub settled : OnOk result (0 < length edits → leaves new c (y ∷ []))
  pub crash : (ys : List Content) → leaves old c ys → leaves new c (ys ++ y ∷ [])
