-- Settling ends every accepted delivery.
use Rattle.std.specs.Prelude.{◌≡◌}
use Rattle.gate_types.specs.Settings.{Settings}
use Rattle.gate_types.specs.State.{State}
use Rattle.gate_types.specs.Rebase.{rebase}
use Rattle.gate_types.specs.Sweep.{sweep}
use Rattle.gate_types.specs.Admit.{admit}

-- rebase, sweep, admit
abbrev pub settle : Settings → State → State
settle c s = admit c (sweep c (rebase c s))

-- nothing is left to do
abbrev pub IsSettled : Settings → State → Type 0
IsSettled c s = settle c s ≡ s
