use Rattle.gate_live.proofs.faults.heed.Goals as goal

pub returns-then-is_of_store-clause-agrees : goal.returns-then-is_of_store-clause-agrees
returns-then-is_of_store-clause-agrees g c k x agrees = c.new.ensures.agrees k x
