-- For the inside alone: numbers past the last one.
use Rattle.std.specs.Prelude.{Bool, false, nat_lt}
use Rattle.gate_types.specs.declared.edits.Edit.{Edit}
use Rattle.gate_types.specs.declared.edits.Edit.TheVariants as edit
use Rattle.gate_types.specs.Counters.{last_number}

-- an edit sets a counter past 10^15
abbrev pub sets_past : Edit → Bool
sets_past (edit.SetCounter k n) = nat_lt last_number n
sets_past _ = false
