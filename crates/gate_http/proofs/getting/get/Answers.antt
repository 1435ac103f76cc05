use Rattle.std.proofs.Common.{[], subst}
use Rattle.gate_types.specs.Tap.{TookFront}
use Rattle.gate_http.specs.declared.response.Extent.TheVariants as extent
use Rattle.gate_http.specs.declared.response.Form.TheVariants as form
use Rattle.gate_http.specs.declared.served.Served.{Served}
use Rattle.gate_http.specs.Exchange.{Comes}
use Rattle.gate_http.specs.Way.{way_on}
use Rattle.gate_http.proofs.WriteLemmas.{refused_front}
use Rattle.gate_http.proofs.getting.get.Goals as goal

pub returns-in-Ok-Ok-clause-write : goal.returns-in-Ok-Ok-clause-write
returns-in-Ok-Ok-clause-write g c = λ failed.
    let Takes = TookFront g.W.Write.contents c.args.writer.now c.refuse.new.writer in
    subst (λ d. (served : Served) × Comes g.G.Respond.responds g.G.Respond.recalls form.Content (way_on [] d)
    c.args.gate.now Takes c.args.gate.now served) c.in-Err.ensures
    (refused_front g.G.Respond.responds g.G.Respond.recalls form.Content c.args.gate.now c.in-Err.fault extent.Whole
    Takes
    c.refuse.result c.refuse.ensures.err failed)
