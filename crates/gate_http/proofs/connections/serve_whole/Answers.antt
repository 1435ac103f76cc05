use Rattle.std.proofs.Common.{refl}
use Rattle.std.specs.Io.Buffered.{writer_contents}
use Rattle.std.proofs.lemmas.Result.{IfOk-weaker}
use Rattle.gate_types.specs.Tap.{inside, Took, TookFront}
use Rattle.gate_http.specs.declared.response.Form.TheVariants as form
use Rattle.gate_http.specs.declared.served.Served.TheVariants.{Answered}
use Rattle.gate_http.specs.Way.{way_of}
use Rattle.gate_http.proofs.ServingLemmas.{serves_weaker, serves_read, serves_found}
use Rattle.gate_http.proofs.ConnectionLemmas.{called_once, sent_whole, broke_off}
use Rattle.gate_http.proofs.connections.serve_whole.Goals as goal

pub returns-clause-gate : goal.returns-clause-gate
returns-clause-gate g c =
    let a = c.answer_routed-served in
    let e = a.ensures in
    let reads = serves_read g.B.Book.IsTrusted g.B.Book.Holds g.B.Book.LeavesOneOf form.Response _ _ c.args.gate.now
    a.new.gate in
    called_once g.B.Book.IsTrusted g.B.Book.Holds g.B.Book.LeavesOneOf _ _ _ _ c.args.gate.now
    a.new.gate a.result (IfOk-weaker a.result _ _
    (λ served h. reads served (Took (writer_contents g.W.Write.contents) c.new-writer.result a.new.writer) h) e.ok)
    (λ failed. let h = e.write failed in
    let r = reads h.2.0 (TookFront (writer_contents g.W.Write.contents) c.new-writer.result a.new.writer)
    (h.0, h.1, h.2.1) in (r.0, r.1, h.2.0, r.2))
    (λ failed. (e.read failed).1) (λ failed. (e.memory failed).0)
    (λ broken. let h = e.store broken in (
      h.0,
      h.1,
      h.2.0,
      h.2.1,
      serves_found g.B.Book.IsTrusted g.B.Book.Holds g.B.Book.LeavesOneOf form.Response c.args.gate.now
          a.new.gate h.2.0 (Answered 200)
          (TookFront (writer_contents g.W.Write.contents) c.new-writer.result a.new.writer) refl h.2.2,
    ))

pub returns-clause-sent : goal.returns-clause-sent
returns-clause-sent g c =
    let held = g.W.Write.contents in
    let a = c.answer_routed-served in
    rw c.and.ensures (rw c.new-writer.ensures.value at (sent_whole held _ _
    (λ r s P Q. serves_weaker g.B.Book.IsTrusted g.B.Book.Holds g.B.Book.LeavesOneOf form.Response
    (way_of r) c.args.gate.now
    a.new.gate s P Q)
    (writer_contents held (inside c.new-writer.result)) (writer_contents held (inside a.new.writer))
    c.send-sent.new.writer c.into_parts.result.0 a.result c.send-sent.result
    (IfOk-weaker a.result _ _ (λ served h. serves_read g.B.Book.IsTrusted g.B.Book.Holds g.B.Book.LeavesOneOf
    form.Response _ _ c.args.gate.now a.new.gate served (Took (writer_contents held) c.new-writer.result a.new.writer) h)
    a.ensures.ok)
    (rw c.into_inner-writer.ensures at c.send-sent.ensures.bytes) c.send-sent.ensures.ok c.into_parts.ensures.inner))

pub returns-clause-store : goal.returns-clause-store
returns-clause-store g c =
    rw c.and.ensures (broke_off _ c.answer_routed-served.result c.send-sent.result
    (λ is. let s = c.answer_routed-served.ensures.store is in (s.0, s.1, s.2.0, s.2.1)) c.send-sent.ensures.err)
