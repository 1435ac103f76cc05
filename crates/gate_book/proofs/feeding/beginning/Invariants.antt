use Rattle.std.proofs.Common.{◌≡◌, take}
use Rattle.std.specs.Prelude.{string_bytes}
use Rattle.gate_archive.specs.Feed.{feed_lines}
use Rattle.gate_book.proofs.feeding.beginning.Given as goal

abbrev pub invariant-loop-one : goal.invariant-loop-one
invariant-loop-one l = string_bytes l.text ≡ feed_lines (take l.one-index l.kept)
