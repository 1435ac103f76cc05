use Rattle.std.proofs.Common.{ap, ◌∙◌}
use Rattle.std.specs.Prelude.{take}
use Rattle.gate_memory.proofs.SortedLemmas.{up_to_is}
use Rattle.gate_memory.proofs.sorted.up_to.Goals as goal

pub returns : goal.returns
returns g c =
    ap (λ i. take i c.args.rows.now) c.position_of-position.ensures.position ∙ up_to_is g.T.Keyed.key c.args.key 0 c.args.rows.now c.requires
