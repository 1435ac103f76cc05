use Rattle.std.proofs.Common.{◌∙◌}
use Rattle.gate_live.specs.HeldBuilds.{known_of}
use Rattle.gate_live.proofs.HeldBuildLemmas.{builds_read_each}
use Rattle.gate_live.proofs.held_builds.HeldBuilds.of_items.Goals as goal

pub returns-in-Ok : goal.returns-in-Ok
returns-in-Ok c all held = c.in-Ok.ensures ∙ builds_read_each (known_of c.args.self.now) all c.args.items.now held (c.know_all.ensures c.if-not-know_all.false)
