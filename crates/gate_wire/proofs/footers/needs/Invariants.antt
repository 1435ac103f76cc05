use Rattle.std.proofs.Common.{◌≡◌, ◌≤◌, ◌==◌, length, take}
use Rattle.std.specs.List.{slice_split}
use Rattle.gate_types.specs.Limits.{most_needs}
use Rattle.gate_wire.proofs.FooterLemmas.{needs_in}
use Rattle.gate_wire.proofs.footers.needs.Given as goal

abbrev pub invariant-loop-line : goal.invariant-loop-line
invariant-loop-line l = record {
  so_far : l.found.items ≡ needs_in l.base (take (length l.yielded) (slice_split (λ b. b == 10) l.message));
  few : length l.found.items ≤ most_needs;
}
