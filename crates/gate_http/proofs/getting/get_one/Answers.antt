use Rattle.std.proofs.Common.{refl, subst, sym}
use Rattle.std.proofs.lemmas.Result.{IfOk-weaker}
use Rattle.gate_types.specs.Tap.{Took, TookFront}
use Rattle.gate_http.specs.declared.response.Form.TheVariants as form
use Rattle.gate_http.specs.declared.served.Served.TheVariants.{Answered}
use Rattle.gate_http.specs.Got.{way_got}
use Rattle.gate_http.specs.Serving.{ServesAs}
use Rattle.gate_http.proofs.ServingLemmas.{serves_as, serves_found}
use Rattle.gate_http.proofs.GetStays.{serves_got}
use Rattle.gate_http.proofs.getting.get_one.Goals as goal

pub returns-clause-ok : goal.returns-clause-ok
returns-clause-ok g c = IfOk-weaker c.get.result _ _
    (λ served h. serves_got g.B.Book.IsTrusted g.B.Book.Holds g.B.Book.LeavesOneOf c.args.gate.now c.get.new.gate
    c.args.path.now served
    (Took g.W.Write.contents c.args.writer.now c.get.new.writer)
    (serves_as g.B.Book.IsTrusted g.B.Book.Holds g.B.Book.LeavesOneOf form.Content (way_got c.args.path.now)
    c.args.gate.now
    c.get.new.gate served (Took g.W.Write.contents c.args.writer.now c.get.new.writer) h))
    c.get.ensures.ok

pub returns-clause-write : goal.returns-clause-write
returns-clause-write g c = λ failed.
    let h = c.get.ensures.write failed in
    let takes = TookFront g.W.Write.contents c.args.writer.now c.get.new.writer in (
      h.0,
      serves_got g.B.Book.IsTrusted g.B.Book.Holds g.B.Book.LeavesOneOf c.args.gate.now c.get.new.gate c.args.path.now
          h.0 takes
          (serves_as g.B.Book.IsTrusted g.B.Book.Holds g.B.Book.LeavesOneOf form.Content (way_got c.args.path.now)
          c.args.gate.now
          c.get.new.gate h.0 takes h.1),
    )

pub returns-clause-store : goal.returns-clause-store
returns-clause-store g c = λ broken.
    let h = c.get.ensures.store broken in
    let takes = TookFront g.W.Write.contents c.args.writer.now c.get.new.writer in
    let trusted = g.B.Book.IsTrusted in
    let holds = g.B.Book.Holds in
    let leaves = g.B.Book.LeavesOneOf in
    serves_got trusted holds leaves c.args.gate.now c.get.new.gate c.args.path.now (Answered 200) takes
    (subst (λ w. ServesAs trusted holds leaves form.Content c.args.gate.now c.get.new.gate w (Answered 200) takes)
    (sym h.1)
    (serves_found trusted holds leaves form.Content c.args.gate.now c.get.new.gate h.0 (Answered 200) takes refl h.2))
