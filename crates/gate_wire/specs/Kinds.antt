-- The kinds of deliveries, and the doors that they come in by.
use Rattle.std.specs.Prelude.{Bool, true, false, not, if◌then◌else◌, List, ℕ, codes, Option, Some, None}
use Rattle.std.specs.Str.{bytes_eq}
use Rattle.gate_wire.specs.declared.door.Door.{Door}
use Rattle.gate_wire.specs.declared.door.Kind.{Kind}
use Rattle.gate_wire.specs.declared.door.Door.TheVariants as door
use Rattle.gate_wire.specs.declared.door.Kind.TheVariants as kind

-- the kind of a word
abbrev pub kind_named : List ℕ → Option Kind
kind_named word =
    if bytes_eq word (codes "revision") then Some kind.Revision
    else if bytes_eq word (codes "approved") then Some kind.Approved
    else if bytes_eq word (codes "withdrawn") then Some kind.Withdrawn
    else if bytes_eq word (codes "closed") then Some kind.Closed
    else if bytes_eq word (codes "landed") then Some kind.Landed
    else if bytes_eq word (codes "refused") then Some kind.Refused
    else if bytes_eq word (codes "take") then Some kind.Take
    else if bytes_eq word (codes "result") then Some kind.Result
    else None

-- a worker says it, not the forge
abbrev pub is_of_worker : Kind → Bool
is_of_worker kind.Revision = false
is_of_worker kind.Approved = false
is_of_worker kind.Withdrawn = false
is_of_worker kind.Closed = false
is_of_worker kind.Landed = false
is_of_worker kind.Refused = false
is_of_worker kind.Take = true
is_of_worker kind.Result = true

-- a door is open to a kind
abbrev pub opens_to : Door → Kind → Bool
opens_to door.Forge k = not (is_of_worker k)
opens_to door.Worker k = is_of_worker k
opens_to door.Any k = true
