-- Each response stands on what was read, on what was decided, and on what was written.
use Rattle.std.proofs.Common.{[], refl, arith, ◌≤◌}
use Rattle.std.proofs.KnownBytes.{Appends-nil}
use Rattle.gate_types.specs.Tap.{Took, TookFront}
use Rattle.gate_http.specs.declared.response.Extent.TheVariants as extent
use Rattle.gate_http.specs.declared.fault.HttpFault.TheVariants as fault
use Rattle.gate_http.specs.declared.respond.AnswerIfAny.TheVariants as told
use Rattle.gate_http.specs.declared.response.Form.TheVariants as form
use Rattle.gate_http.specs.declared.served.Served.TheVariants.{Nothing}
use Rattle.gate_http.specs.Asked.{delivery}
use Rattle.gate_http.specs.Exchange.{Comes, Broke}
use Rattle.gate_http.specs.Parts.{read_by}
use Rattle.gate_http.specs.Way.{silence, question, way_on}
use Rattle.gate_http.proofs.BoundLemmas.{posted_within}
use Rattle.gate_http.proofs.ExchangeLemmas.{read_as, read_nothing, read_part, read_too_much, read_refused}
use Rattle.gate_http.proofs.ExchangeLemmas.{read_wanted, read_posted, read_cut, body_waits}
use Rattle.gate_http.proofs.WriteLemmas.{told_whole, told_front, comes_read, comes_begun, refused_read, refused_begun}
use Rattle.gate_http.proofs.engine.answer.Goals as goal
use Rattle.gate_types.specs.Limits.{most_bytes}

pub returns-in-Ok-Nothing-clause-ok : goal.returns-in-Ok-Nothing-clause-ok
returns-in-Ok-Nothing-clause-ok g c =
    read_as _ _ silence (λ w. Comes g.G.Respond.responds g.G.Respond.recalls form.Response w c.args.gate.now
    (Took g.W.Write.contents c.args.writer.now c.args.writer.now) c.args.gate.now Nothing)
    (read_nothing _ _ _ (rw c.in-Ok-Nothing.field-0-is at c.in-Ok-Nothing.ensures.ok)) (refl, Appends-nil _, refl)

pub returns-in-Ok-Part-clause-ok : goal.returns-in-Ok-Part-clause-ok
returns-in-Ok-Part-clause-ok g c =
    refused_read g.G.Respond.responds g.G.Respond.recalls form.Response _ _ c.args.gate.now fault.Cut extent.Whole
    (Took g.W.Write.contents c.args.writer.now c.refuse.new.writer) c.refuse.result
    (read_part _ _ _ (rw c.in-Ok-Part.field-0-is at c.in-Ok-Part.ensures.ok)) c.refuse.ensures.ok

pub returns-in-Ok-Part-clause-write : goal.returns-in-Ok-Part-clause-write
returns-in-Ok-Part-clause-write g c =
    refused_begun g.G.Respond.responds g.G.Respond.recalls form.Response _ _ c.args.gate.now fault.Cut extent.Whole
    (TookFront g.W.Write.contents c.args.writer.now c.refuse.new.writer) c.refuse.result
    (read_part _ _ _ (rw c.in-Ok-Part.field-0-is at c.in-Ok-Part.ensures.ok)) c.refuse.ensures.err

pub returns-in-Ok-TooMuch-clause-ok : goal.returns-in-Ok-TooMuch-clause-ok
returns-in-Ok-TooMuch-clause-ok g c =
    refused_read g.G.Respond.responds g.G.Respond.recalls form.Response _ _ c.args.gate.now fault.HeadTooLarge
    extent.Whole
    (Took g.W.Write.contents c.args.writer.now c.refuse-in-Ok-TooMuch.new.writer) c.refuse-in-Ok-TooMuch.result
    (read_too_much _ _ _ (rw c.in-Ok-TooMuch.field-0-is at c.in-Ok-TooMuch.ensures.ok))
    c.refuse-in-Ok-TooMuch.ensures.ok

pub returns-in-Ok-TooMuch-clause-write : goal.returns-in-Ok-TooMuch-clause-write
returns-in-Ok-TooMuch-clause-write g c =
    refused_begun g.G.Respond.responds g.G.Respond.recalls form.Response _ _ c.args.gate.now fault.HeadTooLarge
    extent.Whole
    (TookFront g.W.Write.contents c.args.writer.now c.refuse-in-Ok-TooMuch.new.writer) c.refuse-in-Ok-TooMuch.result
    (read_too_much _ _ _ (rw c.in-Ok-TooMuch.field-0-is at c.in-Ok-TooMuch.ensures.ok))
    c.refuse-in-Ok-TooMuch.ensures.err

pub read_body-requires-clause-room : goal.read_body-requires-clause-room
read_body-requires-clause-room g c =
    let d = c.in-Post.ensures in
    let fits : c.in-Post.n ≤ most_bytes = posted_within c.as_slice.result.now d.0 c.in-Post.door c.in-Post.n d.2 in
    omega (arith, fits, c.requires.body.1)

pub returns-in-Refuse-clause-ok : goal.returns-in-Refuse-clause-ok
returns-in-Refuse-clause-ok g c =
    refused_read g.G.Respond.responds g.G.Respond.recalls form.Response _ _ c.args.gate.now c.in-Refuse.fault
    c.in-Refuse.extent
    (Took g.W.Write.contents c.args.writer.now c.refuse-in-Refuse.new.writer) c.refuse-in-Refuse.result
    (read_refused _ _ _ c.in-Refuse.fault c.in-Refuse.extent
    (rw c.in-Ok-Whole.field-0-is at c.in-Ok-Whole.ensures.ok) (rw c.as_slice.ensures.value at c.in-Refuse.ensures))
    c.refuse-in-Refuse.ensures.ok

pub returns-in-Refuse-clause-write : goal.returns-in-Refuse-clause-write
returns-in-Refuse-clause-write g c =
    refused_begun g.G.Respond.responds g.G.Respond.recalls form.Response _ _ c.args.gate.now c.in-Refuse.fault
    c.in-Refuse.extent
    (TookFront g.W.Write.contents c.args.writer.now c.refuse-in-Refuse.new.writer) c.refuse-in-Refuse.result
    (read_refused _ _ _ c.in-Refuse.fault c.in-Refuse.extent
    (rw c.in-Ok-Whole.field-0-is at c.in-Ok-Whole.ensures.ok) (rw c.as_slice.ensures.value at c.in-Refuse.ensures))
    c.refuse-in-Refuse.ensures.err

pub returns-in-Ok-true-clause-ok : goal.returns-in-Ok-true-clause-ok
returns-in-Ok-true-clause-ok g c =
    let Takes = Took g.W.Write.contents c.args.writer.now c.tell.new.writer in
    let asked = delivery c.in-Post.door c.read_body.new.body.items in
    comes_read g.G.Respond.responds g.G.Respond.recalls form.Response _ _ (question asked) c.args.gate.now
    c.hear-said.new.self Takes c.tell.result
    (read_posted _ _ _ _ _ c.in-Post.door c.in-Post.n (rw c.in-Ok-Whole.field-0-is at c.in-Ok-Whole.ensures.ok)
    (rw c.as_slice.ensures.value at c.in-Post.ensures) (rw c.in-Ok-true.field-0-test at c.in-Ok-true.ensures.ok))
    (told_whole g.G.Respond.responds g.G.Respond.recalls form.Response c.args.gate.now c.hear-said.new.self asked
    (told.Answer c.hear-said.result) Takes c.tell.result
    (rw c.as_slice-in-Ok-true.ensures.value at c.hear-said.ensures) c.tell.ensures.ok)

pub returns-in-Ok-true-clause-write : goal.returns-in-Ok-true-clause-write
returns-in-Ok-true-clause-write g c = λ failed.
    let Takes = TookFront g.W.Write.contents c.args.writer.now c.tell.new.writer in
    let asked = delivery c.in-Post.door c.read_body.new.body.items in
    comes_begun g.G.Respond.responds g.G.Respond.recalls form.Response _ _ (question asked) c.args.gate.now
    c.hear-said.new.self Takes
    (read_posted _ _ _ _ _ c.in-Post.door c.in-Post.n (rw c.in-Ok-Whole.field-0-is at c.in-Ok-Whole.ensures.ok)
    (rw c.as_slice.ensures.value at c.in-Post.ensures) (rw c.in-Ok-true.field-0-test at c.in-Ok-true.ensures.ok))
    (told_front g.G.Respond.responds g.G.Respond.recalls form.Response c.args.gate.now c.hear-said.new.self asked
    (told.Answer c.hear-said.result) Takes c.tell.result
    (rw c.as_slice-in-Ok-true.ensures.value at c.hear-said.ensures) c.tell.ensures.err failed)

pub returns-in-Ok-false-clause-ok : goal.returns-in-Ok-false-clause-ok
returns-in-Ok-false-clause-ok g c =
    refused_read g.G.Respond.responds g.G.Respond.recalls form.Response _ _ c.args.gate.now fault.Cut extent.Whole
    (Took g.W.Write.contents c.args.writer.now c.refuse-in-Ok-false.new.writer) c.refuse-in-Ok-false.result
    (read_cut _ _ _ _ _ c.in-Post.door c.in-Post.n (rw c.in-Ok-Whole.field-0-is at c.in-Ok-Whole.ensures.ok)
    (rw c.as_slice.ensures.value at c.in-Post.ensures) (rw c.in-Ok-false.field-0-test at c.in-Ok-false.ensures.ok))
    c.refuse-in-Ok-false.ensures.ok

pub returns-in-Ok-false-clause-write : goal.returns-in-Ok-false-clause-write
returns-in-Ok-false-clause-write g c =
    refused_begun g.G.Respond.responds g.G.Respond.recalls form.Response _ _ c.args.gate.now fault.Cut extent.Whole
    (TookFront g.W.Write.contents c.args.writer.now c.refuse-in-Ok-false.new.writer) c.refuse-in-Ok-false.result
    (read_cut _ _ _ _ _ c.in-Post.door c.in-Post.n (rw c.in-Ok-Whole.field-0-is at c.in-Ok-Whole.ensures.ok)
    (rw c.as_slice.ensures.value at c.in-Post.ensures) (rw c.in-Ok-false.field-0-test at c.in-Ok-false.ensures.ok))
    c.refuse-in-Ok-false.ensures.err

pub returns-in-Err-read_body-clause-read : goal.returns-in-Err-read_body-clause-read
returns-in-Err-read_body-clause-read g c = λ _. (
  body_waits _ _ _ _ _ c.in-Post.door c.in-Post.n (rw c.in-Ok-Whole.field-0-is at c.in-Ok-Whole.ensures.ok)
      (rw c.as_slice.ensures.value at c.in-Post.ensures)
      c.in-Err-read_body.ensures.waits.0 c.in-Err-read_body.ensures.waits.1,
  refl,
  refl,
)

pub returns-in-Read-clause-ok : goal.returns-in-Read-clause-ok
returns-in-Read-clause-ok g c =
    comes_read g.G.Respond.responds g.G.Respond.recalls form.Response _ _ (way_on [] (read_by c.in-Read.wanted))
    c.args.gate.now c.answer_wanted.new.gate (Took g.W.Write.contents c.args.writer.now c.answer_wanted.new.writer)
    c.answer_wanted.result (read_wanted _ _ _ c.in-Read.wanted (rw c.in-Ok-Whole.field-0-is at c.in-Ok-Whole.ensures.ok)
    (rw c.as_slice.ensures.value at c.in-Read.ensures))
    c.answer_wanted.ensures.ok

pub returns-in-Read-clause-write : goal.returns-in-Read-clause-write
returns-in-Read-clause-write g c = λ failed.
    comes_begun g.G.Respond.responds g.G.Respond.recalls form.Response _ _ (way_on [] (read_by c.in-Read.wanted))
    c.args.gate.now c.answer_wanted.new.gate (TookFront g.W.Write.contents c.args.writer.now c.answer_wanted.new.writer)
    (read_wanted _ _ _ c.in-Read.wanted (rw c.in-Ok-Whole.field-0-is at c.in-Ok-Whole.ensures.ok)
    (rw c.as_slice.ensures.value at c.in-Read.ensures))
    (c.answer_wanted.ensures.write failed)

pub returns-in-Read-clause-store : goal.returns-in-Read-clause-store
returns-in-Read-clause-store g c = λ broken.
    read_as _ _ (way_on [] (read_by c.in-Read.wanted)) (λ w. Broke g.G.Respond.recalls form.Response w c.args.gate.now
    (TookFront g.W.Write.contents c.args.writer.now c.answer_wanted.new.writer) c.answer_wanted.new.gate)
    (read_wanted _ _ _ c.in-Read.wanted (rw c.in-Ok-Whole.field-0-is at c.in-Ok-Whole.ensures.ok)
    (rw c.as_slice.ensures.value at c.in-Read.ensures))
    (c.answer_wanted.ensures.store broken)
