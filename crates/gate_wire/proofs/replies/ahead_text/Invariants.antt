use Rattle.std.proofs.Common.{◌≡◌, [], ◌∷◌, map, take}
use Rattle.std.specs.Prelude.{string_bytes}
use Rattle.gate_types.specs.JsonText.{entry, joined}
use Rattle.gate_wire.proofs.replies.ahead_text.Given as goal

abbrev pub invariant-loop-place : goal.invariant-loop-place
invariant-loop-place l = string_bytes l.text ≡ 91 ∷ joined (map entry (take l.place l.ahead)) []
