use Rattle.std.proofs.Common.{◌≡◌, [], drop}
use Rattle.gate_build_queries.specs.declared.ahead.Progress.TheVariants.{Start}
use Rattle.gate_build_queries.specs.Ahead.{go}
use Rattle.gate_build_queries.proofs.ahead.read_entries.Given as goal

abbrev pub invariant-loop-byte : goal.invariant-loop-byte
invariant-loop-byte l = go l.progress l.entries.items (drop l.byte-index l.text) ≡ go Start [] l.text
