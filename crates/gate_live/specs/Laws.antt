-- What is true of each read by its contract (`IsReadOfBoth`) alone.
use Rattle.std.specs.Prelude.{◌≢◌, List, Result, IsErr}
use Rattle.gate_types.specs.Settings.{Settings}
use Rattle.gate_types.specs.Once.{Content}
use Rattle.gate_types.specs.Forms.{IsLawfulContent}
use Rattle.gate_book_trait.specs.declared.fault.BookFault.{BookFault}
use Rattle.gate_live.specs.Both.{HoldsBoth, HoldsNothing, IsReadOfBoth}
use Rattle.gate_live.specs.declared.live_book.LiveBook.{LiveBook}

-- once nothing is held in memory, the book holds each content that the book below holds
abbrev pub HoldsWhatIsBelow : {B : Type 0} → (B → Settings → Content → Type 0) → Type 0
HoldsWhatIsBelow {B} holds = (b : LiveBook B) (c : Settings) (x : Content) →
    HoldsNothing b → holds b.book c x → HoldsBoth holds b c x

-- the book holds two lawful contents at once
pub record HoldsTwo {B : Type 0} (holds : B → Settings → Content → Type 0) (b : LiveBook B) (c : Settings)
    (x y : Content) : Type 0 where
  pub first_lawful : IsLawfulContent c x
  pub second_lawful : IsLawfulContent c y
  pub first : HoldsBoth holds b c x
  pub second : HoldsBoth holds b c y

-- if two contents that are held have different answers to a read, the read fails, and the book still holds both
abbrev pub FailsBetweenTwo : {B : Type 0} → Type 0 → (B → Type 0) → (B → Settings → Content → Type 0) →
    (B → Settings → List Content → Type 0) → (BookFault → Type 0) → Type 0
FailsBetweenTwo {B} T trusted holds leaves may = (old new : LiveBook B) (told : Settings → Content → T)
    (result : Result T BookFault) (c : Settings) (x y : Content) →
    IsReadOfBoth trusted holds leaves may old new told result → trusted new.book → HoldsTwo holds old c x y →
    told c x ≢ told c y → IsErr result × HoldsTwo holds new c x y
