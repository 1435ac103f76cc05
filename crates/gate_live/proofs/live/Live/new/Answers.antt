use Rattle.gate_live.proofs.live.Live.new.Goals as goal

pub returns-clause-agrees : goal.returns-clause-agrees
returns-clause-agrees c k x = c.of.ensures.agrees k x tt tt
