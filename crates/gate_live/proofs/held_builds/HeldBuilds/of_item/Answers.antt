use Rattle.std.proofs.Common.{◌∙◌, sym}
use Rattle.gate_live.specs.HeldBuilds.{known_of}
use Rattle.gate_live.proofs.HeldBuildLemmas.{builds_read}
use Rattle.gate_live.proofs.held_builds.HeldBuilds.of_item.Goals as goal

pub returns-in-Ok : goal.returns-in-Ok
returns-in-Ok c all held = c.in-Ok.ensures ∙ builds_read (known_of c.args.self.now) all c.args.serial held (sym c.knows.ensures ∙ c.if-not-knows.false)
