-- When a book over another one holds a content, and what its calls promise.
use Rattle.std.specs.Prelude.{◌≡◌, List, Result}
use Rattle.gate_types.specs.Settings.{Settings}
use Rattle.gate_types.specs.Once.{Content}
use Rattle.gate_types.specs.Forms.{IsLawfulContent}
use Rattle.gate_book_trait.specs.declared.fault.BookFault.{BookFault}
use Rattle.gate_book_trait.specs.Faults.{MayAnswer}
use Rattle.gate_book_trait.specs.Kept.{OfHeld, IsKept}
use Rattle.gate_book_trait.specs.Reading.{IsRead}
use Rattle.gate_book_trait.specs.Reads.{Answers}
use Rattle.gate_live.specs.Parts.{Agrees, nothing}
use Rattle.gate_live.specs.declared.live_book.LiveBook.{LiveBook}

-- the book below holds the content, and the rows held in memory agree with it if it is lawful
pub record HoldsBoth {B : Type 0} (holds : B → Settings → Content → Type 0) (b : LiveBook B) (c : Settings)
    (x : Content) : Type 0 where
  pub below : holds b.book c x
  pub agrees : IsLawfulContent c x → Agrees b.live c x

-- a book trusted after reading live rows under c was trusted before, and still holds and leaves what it did
pub record IsKeptUnder {B : Type 0} (trusted : B → Type 0) (holds : B → Settings → Content → Type 0)
    (leaves : B → Settings → List Content → Type 0) (c : Settings) (old new : LiveBook B) : Type 0 where
  pub trusted_before : trusted new.book → trusted old.book
  pub holds_on : trusted new.book → (x : Content) → HoldsBoth holds old c x → HoldsBoth holds new c x
  pub leaves_on : trusted new.book → (x : Content) → HoldsBoth holds old c x →
      (ys : List Content) → leaves old.book c ys → leaves new.book c ys

-- no row is held in memory
abbrev pub HoldsNothing : {B : Type 0} → LiveBook B → Type 0
HoldsNothing b = b.live ≡ nothing

-- ---- what calls promise, by the words of the book below

-- what is so of each lawful content that the book held, if the book below is trusted as the call ends
abbrev pub OfBoth : {B : Type 0} → (B → Type 0) → (B → Settings → Content → Type 0) → LiveBook B → LiveBook B →
    (Settings → Content → Type 0) → Type 0
OfBoth trusted holds old new P = OfHeld (λ r. trusted r.book) (λ r c x. HoldsBoth holds r c x) old new P

-- a call that only reads keeps what the book holds and leaves
abbrev pub AreBothKept : {B : Type 0} → (B → Type 0) → (B → Settings → Content → Type 0) →
    (B → Settings → List Content → Type 0) → LiveBook B → LiveBook B → Type 0
AreBothKept trusted holds leaves old new =
    IsKept (λ r. trusted r.book) (λ r c x. HoldsBoth holds r c x) (λ r c ys. leaves r.book c ys) old new

-- a read answers this of each lawful content that is held, and keeps them; its faults are those of the book below, or
-- want of memory
abbrev pub IsReadOfBoth : {B T : Type 0} → (B → Type 0) → (B → Settings → Content → Type 0) →
    (B → Settings → List Content → Type 0) → (BookFault → Type 0) → LiveBook B → LiveBook B →
    (Settings → Content → T) → Result T BookFault → Type 0
IsReadOfBoth trusted holds leaves may old new told result =
    IsRead (λ r. trusted r.book) (λ r c x. HoldsBoth holds r c x) (λ r c ys. leaves r.book c ys) (MayAnswer may) old new
    (λ c x. Answers (told c x) result) result
