-- What was taken out of a queue, in the code and in the definitions.
use Rattle.gate_walk.specs.declared.walk.TakenOut.{TakenOut as CodeOut}
use Rattle.gate_walk.specs.Rescan.{TakenOut}

abbrev pub out_of : CodeOut → TakenOut
out_of o = record { change = o.change; failing = o.failing; landed = o.landed }
