use Rattle.std.proofs.Common.{ap, ◌∙◌}
use Rattle.std.specs.Prelude.{slice_get}
use Rattle.gate_memory.proofs.SortedLemmas.{found_behind}
use Rattle.gate_memory.proofs.sorted.above.Goals as goal

pub returns : goal.returns
returns g c = c.row_at.ensures ∙ ap (slice_get c.args.rows.now) c.position_of.ensures.position ∙ found_behind g.T.Keyed.key c.args.key c.args.rows.now
