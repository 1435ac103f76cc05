use Rattle.gate_walk.specs.Views.{seen_of}
use Rattle.gate_walk.proofs.UnderWay.{visit_settles}
use Rattle.gate_walk.proofs.walk.Walk.visit.Goals as goal

pub returns-in-Some-clause-settles : goal.returns-in-Some-clause-settles
returns-in-Some-clause-settles c =
    let does = c.visit_row.ensures in
    visit_settles (λ v. seen_of v.now) c.args.self.now c.visit_row.new.self c.args.seen c.in-Some.seen c.visit_row.result c.in-Some.is does.visited does.next
