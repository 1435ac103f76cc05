-- What a gate comes to, by what it held.
use Rattle.std.specs.Prelude.{◌≡◌, ℕ, List, [], ◌∷◌, ◌++◌, length}
use Rattle.gate_types.specs.Settings.{Settings}
use Rattle.gate_types.specs.Once.{Content}
use Rattle.gate_types.specs.Forms.{IsLawfulContent}
use Rattle.gate_types.specs.Gated.{Gated}
use Rattle.gate_core.specs.declared.gate.Gate.{Gate}
use Rattle.gate_core.specs.Holding.{GateHolds, book_of, settings_of}
use Rattle.gate_core.specs.Left.{LeavesBy}
use Rattle.gate_core.specs.Replies.{Cut, Replayed, RepliedTo, calls_of_lines}

-- a gate over a book holds a lawful content, and is this gate
pub record IsOver {B : Type 0} (holds : B → Settings → Content → Type 0) (gate : Gate B) (g : Gated) : Type 0 where
  pub settings : g.settings ≡ settings_of gate
  pub held : GateHolds holds gate g.content
  pub lawful : IsLawfulContent (settings_of gate) g.content

-- a call leads from each gate that this one was to one that it is then, if the book is trusted as the call ends
abbrev pub Passes : {B : Type 0} → (B → Type 0) → (B → Settings → Content → Type 0) → Gate B → Gate B →
    (Gated → Gated → Type 0) → Type 0
Passes trusted holds old new P =
    trusted (book_of new) → (g : Gated) → IsOver holds old g → (after : Gated) × IsOver holds new after × P g after

-- a call that answers: its settings stay, and the book was trusted if it is
pub record Goes {B : Type 0} (trusted : B → Type 0) (holds : B → Settings → Content → Type 0) (old new : Gate B)
    (P : Gated → Gated → Type 0) : Type 0 where
  pub settings : settings_of new ≡ settings_of old
  pub trusted_before : trusted (book_of new) → trusted (book_of old)
  pub passes : Passes trusted holds old new P

-- a gate over a book answers a line by a text, and a crash leaves what the line's call leaves
abbrev pub ToldOver : {B : Type 0} → (B → Settings → List Content → Type 0) → Gate B → Gate B → List ℕ → List ℕ →
    Gated → Gated → Type 0
ToldOver leaves old new line text g after = (told : RepliedTo g line text after)
    × LeavesBy leaves old new g (calls_of_lines (record { line = line; unavailable = told.unavailable } ∷ []))

-- the same of lines
abbrev pub ReplayedOver : {B : Type 0} → (B → Settings → List Content → Type 0) → Gate B → Gate B → List (List ℕ) →
    List ℕ → Gated → Gated → Type 0
ReplayedOver leaves old new lines text g after = (told : Replayed g lines text after)
    × LeavesBy leaves old new g (calls_of_lines told.marked)

-- the same of lines of which so many were answered whole, and the next one's answer was cut
abbrev pub CutOver : {B : Type 0} → (B → Settings → List Content → Type 0) → Gate B → Gate B → List (List ℕ) →
    List ℕ → ℕ → Gated → Gated → Type 0
CutOver leaves old new lines text done g after = (cut : Cut g lines text after) × (length cut.done ≡ done)
    × LeavesBy leaves old new g (calls_of_lines (cut.done ++ cut.last ∷ []))

-- a line is answered by a text, and the gate is another one then
abbrev pub TellsLine : {B : Type 0} → (B → Type 0) → (B → Settings → Content → Type 0) →
    (B → Settings → List Content → Type 0) → Gate B → List ℕ → List ℕ → Gate B → Type 0
TellsLine trusted holds leaves old line text new = Goes trusted holds old new (ToldOver leaves old new line text)
