use Rattle.std.proofs.Common.{◌≡◌, ◌+◌, ◌-◌, ◌≤◌, ◌==◌, ◌||◌, length, drop}
use Rattle.std.specs.List.{prefix_len}
use Rattle.gate_wire.proofs.footers.trimmed_start.Given as goal

abbrev pub invariant-loop-start : goal.invariant-loop-start
invariant-loop-start l = record {
  inside : l.start ≤ length l.text;
  counted : prefix_len (λ b. b == 32 || b == 9) l.text ≡ l.start + prefix_len (λ b. b == 32 || b == 9) (drop l.start l.text);
}

abbrev pub decreases-loop-start : goal.decreases-loop-start
decreases-loop-start l = length l.text - l.start
