-- For the inside alone: where a change may be approved.
use Rattle.std.specs.Prelude.{Bool, true, false}
use Rattle.gate_reads.specs.declared.stands.Stand.{Stand}
use Rattle.gate_reads.specs.declared.stands.Stand.TheVariants as stand

-- it waits nowhere
abbrev pub is_nowhere : Stand → Bool
is_nowhere stand.Nowhere = true
is_nowhere _ = false
