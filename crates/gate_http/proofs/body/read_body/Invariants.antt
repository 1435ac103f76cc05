-- What is read so far is all that was taken.
use Rattle.std.proofs.Common.{◌≡◌, ◌≤◌, false, vec_len, vec_capacity, ◌-◌}
use Rattle.std.specs.Io.KnownBytes.{Consumes}
use Rattle.gate_http.proofs.body.read_body.Given as goal

abbrev pub invariant-loop-bytes : goal.invariant-loop-bytes
invariant-loop-bytes g l = record {
  unfailed : l.reader.failed ≡ false;
  read : Consumes (g.R.Read.remaining l.fn.reader.inner) (g.R.Read.remaining l.reader.inner) l.body.items;
  within : vec_len l.body ≤ l.n;
  room : l.n ≤ vec_capacity l.body;
}

abbrev pub decreases-loop-bytes : goal.decreases-loop-bytes
decreases-loop-bytes g l = l.n - vec_len l.body
