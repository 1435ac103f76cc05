-- What is left of a connection whose file isn't opened, or isn't made a gate's.
use Rattle.std.specs.Prelude.{◌≢◌}
use Rattle.sqlite.specs.State.{State}
use Rattle.gate_types.specs.declared.open_fault.OpenFault.{OpenFault}
use Rattle.gate_types.specs.declared.open_fault.OpenFault.TheVariants as fault
use Rattle.gate_rows.specs.Writes.{LeavesNothing}
use Rattle.gate_found_rows.specs.Finds.{Stays}

-- what the file shows stays; after any other fault than `Unavailable` a crash leaves what it left before, too, and
-- the connection is still open unless the disk failed
pub record IsRefused (old new : State) (f : OpenFault) : Type 0 where
  pub stays : Stays old new
  pub untouched : f ≢ fault.Unavailable → LeavesNothing old new
