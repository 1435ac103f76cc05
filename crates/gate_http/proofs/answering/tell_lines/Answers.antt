-- What came of the lines, and what was written in their place.
use Rattle.std.proofs.Common.{Err, ap, refl}
use Rattle.gate_types.specs.Tap.{TookFront}
use Rattle.gate_http.specs.declared.response.Extent.TheVariants as extent
use Rattle.gate_http.specs.declared.served.Served.TheVariants.{Answered}
use Rattle.gate_http.specs.Asked.{streamed_by, missing_of}
use Rattle.gate_http.specs.Response.{fault_in, failure_in}
use Rattle.gate_http.specs.Exchange.{Recalled, recited, missing, failed}
use Rattle.gate_http.proofs.WriteLemmas.{written_front}
use Rattle.gate_http.proofs.answering.tell_lines.Goals as goal

pub returns-in-Ok-clause-ok : goal.returns-in-Ok-clause-ok
returns-in-Ok-clause-ok g c =
    recited refl (rw (c.as_bytes.ensures.value, c.front_of.ensures) at c.in-Ok.ensures.whole)

pub returns-in-Err-Missing-clause-write : goal.returns-in-Err-Missing-clause-write
returns-in-Err-Missing-clause-write g c =
    let wanted = streamed_by c.args.wanted in
    let Takes = TookFront g.W.Write.contents c.args.writer.now c.refuse.new.writer in
    written_front (Recalled g.G.Respond.recalls c.args.form c.args.gate.now wanted Takes c.show_stream.new.self)
    (Answered 404) (Takes (fault_in c.args.form (missing_of wanted) extent.Whole)) c.refuse.result
    (λ served e takes. missing e (c.in-Err-Missing.ensures.missing (ap Err c.in-Err-Missing.field-0-is)) takes)
    (rw (rw c.in-Err-Missing.field-0-is at c.in-Err-Missing.ensures.stops, c.missing_of.ensures) at
    c.refuse.ensures.err)

pub returns-in-Err-Unavailable-clause-write : goal.returns-in-Err-Unavailable-clause-write
returns-in-Err-Unavailable-clause-write g c =
    let wanted = streamed_by c.args.wanted in
    let Takes = TookFront g.W.Write.contents c.args.writer.now c.tell.new.writer in
    written_front (Recalled g.G.Respond.recalls c.args.form c.args.gate.now wanted Takes c.show_stream.new.self)
    (Answered 503) (Takes (failure_in c.args.form)) c.tell.result
    (λ served e takes. failed e (c.in-Err-Unavailable.ensures.unavailable (ap Err c.in-Err-Unavailable.field-0-is))
    takes)
    (rw (rw c.in-Err-Unavailable.field-0-is at c.in-Err-Unavailable.ensures.stops) at c.tell.ensures.err)

pub returns-in-Err-Broken-clause-store : goal.returns-in-Err-Broken-clause-store
returns-in-Err-Broken-clause-store g c = λ _.
    rw (c.as_bytes.ensures.value, c.front_of.ensures) at
    (c.in-Err-Broken.ensures.broken (ap Err c.in-Err-Broken.field-0-is))

pub returns-in-Err-Write-clause-write : goal.returns-in-Err-Write-clause-write
returns-in-Err-Write-clause-write g c = λ _. (
  Answered 200,
  recited refl (rw (c.as_bytes.ensures.value, c.front_of.ensures) at
      (c.in-Err-Write.ensures.write (ap Err c.in-Err-Write.field-0-is))),
)
