-- What a conversation over a file comes to.
use Rattle.std.specs.Prelude.{IsTrue, ⊤, ◌≡◌, ◌⊎◌, ℕ, true, Option, Some, None, Result, Ok, Err, List, [], ◌∷◌, ◌++◌}
use Rattle.std.specs.Prelude.{length}
use Rattle.sqlite.specs.State.{HasCleanDisk, State}
use Rattle.gate_types.specs.Adopt.{may_adopt, adopted_content}
use Rattle.gate_types.specs.Forms.{IsLawfulContent}
use Rattle.gate_types.specs.Once.{Call, Content}
use Rattle.gate_types.specs.Settings.{Settings, are_sound}
use Rattle.gate_types.specs.Gated.{Gated}
use Rattle.gate_rows.specs.Matches.{StandsFor}
use Rattle.gate_file_changes.specs.Adopts.{StandsForLawful}
use Rattle.gate_table_laws.specs.Held.{LeavesFor, ShowsFor}
use Rattle.gate_types.specs.declared.open_fault.OpenFault.{OpenFault}
use Rattle.gate_types.specs.declared.open_fault.OpenFault.TheVariants as open_fault
use Rattle.gate_core.specs.Left.{left_after}
use Rattle.gate_core.specs.Replies.{Cut, Replayed, calls_of_lines}
use Rattle.gate_http.specs.Connections.{IsCalled}
use Rattle.gated_cli.specs.Ending.{IsOfServing}
use Rattle.gated_cli.specs.declared.run.fault.Fault.{Fault}
use Rattle.gated_cli.specs.declared.run.fault.Fault.TheVariants as fault

-- the tables of an open file stand for the lawful content of this gate
pub record IsFileOf (s : State) (c : Settings) (g : Gated) : Type 0 where
  pub settings : g.settings ≡ c
  pub up : IsTrue s.is_open
  pub stands : StandsFor s.now.trees c g.content
  pub lawful : IsLawfulContent c g.content

-- they keep a lawful content under settings in whose place these may be taken, and this is the gate that it becomes
pub record IsAdoptedOf (s : State) (c : Settings) (g : Gated) : Type 0 where
  pub settings : g.settings ≡ c
  pub up : IsTrue s.is_open
  pub kept : Settings
  pub before : Content
  pub keeps : StandsForLawful s.now.trees kept before
  pub may : may_adopt kept c ≡ true
  pub becomes : g.content ≡ adopted_content kept c before

-- the gate over which an open file is opened with these settings
abbrev pub OpensTo : State → Settings → Gated → Type 0
OpensTo s c g = IsFileOf s c g ⊎ IsAdoptedOf s c g

-- while the file answers at all, its tables stand for the lawful content of this gate
pub record ShowsGate (s : State) (c : Settings) (g : Gated) : Type 0 where
  pub settings : g.settings ≡ c
  pub shows : ShowsFor s c g.content
  pub lawful : IsLawfulContent c g.content

-- a call leads from the gate over which the file is opened to one that the tables stand for then, if the disk has
-- returned what was written as the call ends
abbrev pub GoesOver : State → State → Settings → (Gated → Gated → Type 0) → Type 0
GoesOver old new c P =
    HasCleanDisk new → (g : Gated) → OpensTo old c g → (after : Gated) × ShowsGate new c after × P g after

-- a crash leaves one of the contents that these calls leave of the gate over which the file was opened
abbrev pub LeavesAfter : State → Settings → Gated → List Call → Type 0
LeavesAfter s c g ks = LeavesFor s c (left_after c g.content ks (g.content ∷ []))

-- lines are replied to, and a crash leaves what their calls leave
abbrev pub RepliesOver : State → Settings → List (List ℕ) → List ℕ → Gated → Gated → Type 0
RepliesOver s c lines text g after =
    (told : Replayed g lines text after) × LeavesAfter s c g (calls_of_lines told.marked)

-- the same of lines of which so many were answered whole, and the next one's answer was cut
abbrev pub BreaksOver : State → Settings → List (List ℕ) → List ℕ → ℕ → Gated → Gated → Type 0
BreaksOver s c lines text done g after = (cut : Cut g lines text after) × (length cut.done ≡ done)
    × LeavesAfter s c g (calls_of_lines (cut.done ++ cut.last ∷ []))

-- at most so many calls are answered, and a crash leaves what they leave
abbrev pub ServesOver : State → Settings → ℕ → Gated → Gated → Type 0
ServesOver s c most g after = (called : IsCalled most g after) × LeavesAfter s c g called.calls

-- a lawful content stays lawful where these settings are taken
abbrev pub StaysLawful : Settings → Type 0
StaysLawful d = (c : Settings) (x : Content) → are_sound c ≡ true → may_adopt c d ≡ true → IsLawfulContent c x →
    IsLawfulContent d (adopted_content c d x)

-- why the file wasn't opened, if it wasn't
abbrev pub file_fault : {T : Type 0} → Result T Fault → Option OpenFault
file_fault (Err (fault.File f)) = Some f
file_fault _ = None

-- what is answered of the file: that it is done, or why not
abbrev pub file_answer : {T : Type 0} → Result T Fault → Result T OpenFault
file_answer (Ok x) = Ok x
file_answer (Err (fault.File f)) = Err f
file_answer (Err f) = Err open_fault.Unavailable

-- a fault of serving over a file: of the file, or as over a gate
abbrev pub IsOfServingOver : Fault → Type 0
IsOfServingOver (fault.File f) = ⊤
IsOfServingOver f = IsOfServing f
