-- The gate that a replay runs on.
use Rattle.std.specs.Prelude.{◌≡◌}
use Rattle.gate_types.specs.Settings.{Settings}
use Rattle.gate_types.specs.Once.{Content}
use Rattle.gate_types.specs.Gated.{Gated}
use Rattle.gate_book.specs.Memory.{Held, held}
use Rattle.gate_core.specs.declared.gate.Gate.{Gate}
use Rattle.gate_core.specs.Held.{IsOver}

-- a book in memory holds a content
abbrev pub Holds : Held → Settings → Content → Type 0
Holds book c x = book ≡ held c x

-- a gate over a book in memory is this one
abbrev pub IsGate : Gate Held → Gated → Type 0
IsGate gate g = IsOver Holds gate g
