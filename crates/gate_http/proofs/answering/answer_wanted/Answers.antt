use Rattle.std.proofs.Common.{refl}
use Rattle.gate_types.specs.Tap.{TookFront}
use Rattle.gate_http.specs.Asked.{streamed_by}
use Rattle.gate_http.specs.Parts.{asked_by}
use Rattle.gate_http.proofs.WriteLemmas.{told_front}
use Rattle.gate_http.proofs.answering.answer_wanted.Goals as goal

pub returns-in-Ask-clause-write : goal.returns-in-Ask-clause-write
returns-in-Ask-clause-write g c =
    rw c.in-Ask.is (told_front g.G.Respond.responds g.G.Respond.recalls c.args.form c.args.gate.now c.ask-said.new.gate
    (asked_by c.in-Ask.question) c.ask-said.result (TookFront g.W.Write.contents c.args.writer.now c.tell.new.writer)
    c.tell.result c.ask-said.ensures (rw c.media_of.ensures at c.tell.ensures.err))

pub returns-in-Lines-clause-store : goal.returns-in-Lines-clause-store
returns-in-Lines-clause-store g c = λ broken.
    rw c.in-Lines.is (streamed_by c.in-Lines.stream, refl, c.tell_lines.ensures.store broken)
