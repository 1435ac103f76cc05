use Rattle.std.proofs.Common.{◌≡◌, [], map, take}
use Rattle.std.specs.Prelude.{string_bytes}
use Rattle.gate_types.specs.JsonText.{joined}
use Rattle.gate_archive.specs.ItemText.{summary_piece}
use Rattle.gate_texts.proofs.item.builds_text.Given as goal

abbrev pub invariant-loop-build : goal.invariant-loop-build
invariant-loop-build l = string_bytes l.list ≡ joined (map summary_piece (take l.build-index l.builds)) []
