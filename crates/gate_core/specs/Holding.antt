-- When a gate holds a content, and what calls leave of it.
use Rattle.std.specs.Prelude.{List}
use Rattle.gate_types.specs.Forms.{IsLawfulContent}
use Rattle.gate_types.specs.Once.{Content, empty}
use Rattle.gate_types.specs.Settings.{Settings}
use Rattle.gate_book_trait.specs.Kept.{IsKept, OfHeldUnder}
use Rattle.gate_core.specs.declared.gate.Gate.{Gate}
use Rattle.gate_core.specs.declared.recent.Recent.{Recent}
use Rattle.gate_core.specs.Recent.{IsTrueOf, KeepsNothing}

-- the settings that a gate goes by
abbrev pub settings_of : {B : Type 0} → Gate B → Settings
settings_of g = g.config

-- the book that it asks and edits
abbrev pub book_of : {B : Type 0} → Gate B → B
book_of g = g.book

-- what it keeps of what it said
abbrev pub recent_of : {B : Type 0} → Gate B → Recent
recent_of g = g.recent

-- the gate's book holds the content under its settings, and what the gate keeps of what it said is true of it
pub record GateHolds {B : Type 0} (holds : B → Settings → Content → Type 0) (g : Gate B) (x : Content)
    : Type 0 where
  pub book : holds (book_of g) (settings_of g) x
  pub recent : IsLawfulContent (settings_of g) x → IsTrueOf (recent_of g) (settings_of g) x

-- a gate that was just made, over a book that holds no delivery
pub record IsNew {B : Type 0} (holds : B → Settings → Content → Type 0) (g : Gate B) : Type 0 where
  pub book : holds (book_of g) (settings_of g) (empty (settings_of g))
  pub recent : KeepsNothing (recent_of g)

-- what is so of each lawful content that the gate held, if its book is trusted as the call ends
abbrev pub OfGate : {B : Type 0} → (B → Type 0) → (B → Settings → Content → Type 0) → Gate B → Gate B →
    (Content → Type 0) → Type 0
OfGate trusted holds old new P =
    trusted (book_of new) → (x : Content) → GateHolds holds old x → IsLawfulContent (settings_of old) x → P x

-- what is so of each lawful content that its book held, whatever it keeps of what it said
abbrev pub OfBook : {B : Type 0} → (B → Type 0) → (B → Settings → Content → Type 0) → Gate B → Gate B →
    (Content → Type 0) → Type 0
OfBook trusted holds old new P = OfHeldUnder trusted holds (book_of old) (book_of new) (settings_of old) P

-- after a call that only reads, the book is as after one that does, and the gate holds what it held
pub record IsKeptGate {B : Type 0} (trusted : B → Type 0) (holds : B → Settings → Content → Type 0)
    (leaves : B → Settings → List Content → Type 0) (old new : Gate B) : Type 0 where
  pub book : IsKept trusted holds leaves (book_of old) (book_of new)
  pub holds_on : trusted (book_of new) → (x : Content) → GateHolds holds old x → GateHolds holds new x
