use Rattle.std.proofs.Common.{ap}
use Rattle.gate_live.specs.Parts.{Parts}
use Rattle.gate_live.proofs.LiveChangeLemmas.{change_told}
use Rattle.gate_live.proofs.live.Live.change.Goals as goal

pub returns-in-Ok : goal.returns-in-Ok
returns-in-Ok c =
    change_told c.args.self.now c.self.inside.changes c.in-Some.changes c.args.number c.in-Ok.found (ap (λ (p : Parts). p.changes) c.self.view_is) c.in-Some.is c.in-Ok.ensures.found
