use Rattle.std.proofs.Common.{◌≡◌, take}
use Rattle.std.specs.Prelude.{◌==◌, find, option_map}
use Rattle.std.specs.List.{filter_map}
use Rattle.gate_archive.specs.ItemText.{summary_of}
use Rattle.gate_memory.proofs.telling.summaries.Given as goal

abbrev pub invariant-loop-pair : goal.invariant-loop-pair
invariant-loop-pair l =
    l.found ≡ filter_map (λ p. option_map summary_of (find (λ b. b.number == p.second) l.rows)) (take l.pair-index l.pairs)
