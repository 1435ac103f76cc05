use Rattle.std.proofs.Common.{refl}
use Rattle.std.proofs.lemmas.Result.{IfOk-weaker}
use Rattle.gate_types.specs.Tap.{Took, TookFront}
use Rattle.gate_http.specs.declared.response.Form.TheVariants as form
use Rattle.gate_http.specs.declared.served.Served.TheVariants.{Answered}
use Rattle.gate_http.proofs.ServingLemmas.{serves_read, serves_found}
use Rattle.gate_http.proofs.serving.serve_one.Goals as goal

pub returns-clause-ok : goal.returns-clause-ok
returns-clause-ok g c = IfOk-weaker c.answer_request.result _ _
    (λ served h. serves_read g.B.Book.IsTrusted g.B.Book.Holds g.B.Book.LeavesOneOf form.Response _ _ c.args.gate.now
    c.answer_request.new.gate served (Took g.W.Write.contents c.args.writer.now c.answer_request.new.writer) h)
    c.answer_request.ensures.ok

pub returns-clause-write : goal.returns-clause-write
returns-clause-write g c = λ failed.
    let h = c.answer_request.ensures.write failed in
    let r = serves_read g.B.Book.IsTrusted g.B.Book.Holds g.B.Book.LeavesOneOf form.Response _ _ c.args.gate.now
    c.answer_request.new.gate h.2.0 (TookFront g.W.Write.contents c.args.writer.now c.answer_request.new.writer)
    (h.0, h.1, h.2.1) in
    (r.0, r.1, h.2.0, r.2)

pub returns-clause-store : goal.returns-clause-store
returns-clause-store g c = λ broken.
    let h = c.answer_request.ensures.store broken in (
      h.0,
      h.1,
      h.2.0,
      h.2.1,
      serves_found g.B.Book.IsTrusted g.B.Book.Holds g.B.Book.LeavesOneOf form.Response c.args.gate.now
          c.answer_request.new.gate h.2.0 (Answered 200)
          (TookFront g.W.Write.contents c.args.writer.now c.answer_request.new.writer) refl h.2.2,
    )
