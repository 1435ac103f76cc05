-- The words of stages and of counters.
use Rattle.std.specs.Prelude.{ℕ, List, codes}
use Rattle.gate_types.specs.declared.edits.Counter.{Counter}
use Rattle.gate_types.specs.declared.edits.Counter.TheVariants as counter
use Rattle.gate_types.specs.declared.records.Stage.{Stage}
use Rattle.gate_types.specs.declared.records.Stage.TheVariants as stage

-- what has become of a change
abbrev pub stage_word : Stage → List ℕ
stage_word stage.Open = codes "open"
stage_word stage.Landed = codes "landed"
stage_word stage.Closed = codes "closed"

-- the name of a counter
abbrev pub counter_word : Counter → List ℕ
counter_word counter.Approval = codes "approval"
counter_word counter.Build = codes "build"
counter_word counter.Order = codes "order"
