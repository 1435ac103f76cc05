use Rattle.std.proofs.Common.{◌≡◌, ◌∷◌, take, string_bytes, false}
use Rattle.gate_schema.specs.AheadText.{entries_text}
use Rattle.gate_rows.proofs.ahead.write_ahead.Given as goal

abbrev pub invariant-loop-place : goal.invariant-loop-place
invariant-loop-place l = string_bytes l.text ≡ 91 ∷ entries_text false (take l.place l.ahead)
