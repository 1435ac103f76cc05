-- For the inside alone: the states to which the edits so far lead.
use Rattle.std.specs.Prelude.{List}
use Rattle.gate_types.specs.declared.edits.Edit.{Edit}
use Rattle.gate_types.specs.Settings.{Settings}
use Rattle.gate_types.specs.State.{State}
use Rattle.gate_types.specs.Once.{Content}
use Rattle.gate_types.specs.Lawful.{IsSound}
use Rattle.gate_types.specs.Tables.{Leads}
use Rattle.gate_reads.specs.Moves.{in_state}

-- the edits lead from the content to this sound state
pub record IsLed (c : Settings) (x : Content) (edits : List Edit) (v : State) : Type 0 where
  pub sound : IsSound c v
  pub leads : Leads c x edits (in_state x v)
