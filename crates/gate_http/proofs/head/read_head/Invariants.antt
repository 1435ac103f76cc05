-- What is read so far has no head in it, and is all that was taken.
use Rattle.std.proofs.Common.{◌≡◌, ◌≤◌, false, vec_len, vec_capacity, ◌-◌}
use Rattle.std.specs.Io.KnownBytes.{Consumes}
use Rattle.gate_http.specs.Head.{head_limit}
use Rattle.gate_http.proofs.HeadLemmas.{IsOpen}
use Rattle.gate_http.proofs.head.read_head.Given as goal

abbrev pub invariant-loop-byte : goal.invariant-loop-byte
invariant-loop-byte g l = record {
  unfailed : l.reader.failed ≡ false;
  read : Consumes (g.R.Read.remaining l.fn.reader.inner) (g.R.Read.remaining l.reader.inner) l.head.items;
  no_head : IsOpen l.head.items;
  within : vec_len l.head ≤ head_limit;
  room : head_limit ≤ vec_capacity l.head;
}

abbrev pub decreases-loop-byte : goal.decreases-loop-byte
decreases-loop-byte g l = head_limit - vec_len l.head
