use Rattle.std.proofs.Common.{◌≡◌, ◌+◌, ◌≤◌, ◌==◌, ◌||◌, length, take}
use Rattle.std.specs.List.{suffix_len}
use Rattle.gate_wire.proofs.footers.trimmed_end.Given as goal

abbrev pub invariant-loop-end : goal.invariant-loop-end
invariant-loop-end l = record {
  inside : l.end ≤ length l.line;
  counted : l.end + suffix_len (λ b. b == 13 || b == 32 || b == 9) l.line ≡ length l.line + suffix_len (λ b. b == 13 || b == 32 || b == 9) (take l.end l.line);
}

abbrev pub decreases-loop-end : goal.decreases-loop-end
decreases-loop-end l = l.end
