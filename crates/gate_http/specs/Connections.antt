-- What serving connections, one after another, comes to.
use Rattle.std.specs.Prelude.{ℕ, ◌≡◌, ◌≤◌, true, false, List, [], ◌∷◌, ◌++◌, length, Option, codes}
use Rattle.std.specs.List.{flat_map}
use Rattle.gate_types.specs.declared.tap.Tap.{Tap}
use Rattle.gate_types.specs.Tap.{has_failed, Took, TookFront}
use Rattle.gate_types.specs.Once.{Call, Content}
use Rattle.gate_types.specs.Settings.{Settings}
use Rattle.gate_types.specs.Gated.{Gated}
use Rattle.gate_http.specs.declared.request_fault.RequestFault.{RequestFault}
use Rattle.gate_http.specs.RequestFaults.{request_fault_text}
use Rattle.gate_core.specs.Left.{LeavesBy}
use Rattle.gate_core.specs.declared.gate.Gate.{Gate}
use Rattle.gate_http.specs.Answer.{gate_after}

-- the gate after some calls in turn, at most so many
pub record IsCalled (most : ℕ) (g after : Gated) : Type 0 where
  pub calls : List Call
  pub few : length calls ≤ most
  pub stands : after ≡ gate_after g calls

-- the same of a gate over a book, and a crash leaves what those calls leave
abbrev pub CalledOver : {B : Type 0} → (B → Settings → List Content → Type 0) → ℕ → Gate B → Gate B → Gated → Gated →
    Type 0
CalledOver leaves most old new g after =
    (called : IsCalled most g after) × LeavesBy leaves old new g called.calls

-- the line of a fault, by the fault's text
abbrev pub fault_line : List ℕ → List ℕ
fault_line text = codes "gated: " ++ (text ++ 10 ∷ [])

-- a line for each of these faults
abbrev pub fault_lines : List RequestFault → List ℕ
fault_lines faults = flat_map (λ f. fault_line (request_fault_text f)) faults

-- faults were told by a line each; of the lines a writer that failed took a beginning
pub record FaultsAreTold {T : Type 0} (held : T → Option (List ℕ)) (old new : Tap T) (faults : List RequestFault) :
    Type 0 where
  pub whole : has_failed new ≡ false → Took held old new (fault_lines faults)
  pub cut : has_failed new ≡ true → TookFront held old new (fault_lines faults)
