-- What is written so far is the front of the bytes.
use Rattle.std.proofs.Common.{length, take, ◌-◌, ◌≡◌, ◌≤◌, false}
use Rattle.std.specs.Io.KnownBytes.{Appends}
use Rattle.gate_types.proofs.tap.Tap.write_all.Given as goal

abbrev pub invariant-loop-at : goal.invariant-loop-at
invariant-loop-at g l = record {
  within : l.at ≤ length l.bytes;
  unfailed : l.self.failed ≡ false;
  turns : l.self.turns ≡ l.fn.self.turns;
  written : Appends (g.W.Write.contents l.fn.self.inner) (g.W.Write.contents l.self.inner) (take l.at l.bytes);
}

abbrev pub decreases-loop-at : goal.decreases-loop-at
decreases-loop-at g l = length l.bytes - l.at
