use Rattle.gate_core.proofs.gate.Gate.deliveries.Goals as goal

pub returns-clause-written : goal.returns-clause-written
returns-clause-written g c = λ t x h l. c.deliveries-told.ensures.found t c.args.self.now.config x h l
