use Rattle.std.proofs.Common.{◌≡◌, ◌++◌, map, take}
use Rattle.std.specs.Prelude.{filter}
use Rattle.gate_types.specs.Slot.{is_running}
use Rattle.gate_ruling.specs.Leaving.{stop_of}
use Rattle.gate_ruling.proofs.leaving.with_stops.Given as goal

abbrev pub invariant-loop-build : goal.invariant-loop-build
invariant-loop-build l =
    l.edits.items ≡ l.fn.edits.items ++ map stop_of (filter (λ b. is_running b.outcome) (take l.build-index l.builds))
