use Rattle.gate_http.specs.Asked.{streamed_by}
use Rattle.gate_http.proofs.LinesLemmas.{recalls_whole, recalls_missing, recalls_unavailable, recalls_broken}
use Rattle.gate_http.proofs.LinesLemmas.{recalls_write}
use Rattle.gate_http.proofs.gate.GateRespond.show_stream.Goals as goal

pub returns-clause-whole : goal.returns-clause-whole
returns-clause-whole g c =
    recalls_whole g.B.Book.IsTrusted g.B.Book.Holds g.B.Book.LeavesOneOf g.W.Write.contents _ _
    (streamed_by c.args.wanted)
    c.args.front.now c.args.w.now c.write_lines.new.w c.write_lines.ensures.settings c.write_lines.ensures.kept
    c.write_lines.result c.write_lines.ensures.written

pub returns-clause-missing : goal.returns-clause-missing
returns-clause-missing g c =
    recalls_missing g.B.Book.IsTrusted g.B.Book.Holds g.B.Book.LeavesOneOf g.W.Write.contents _ _
    (streamed_by c.args.wanted)
    c.args.front.now c.args.w.now c.write_lines.new.w c.write_lines.ensures.settings c.write_lines.ensures.kept
    c.write_lines.result c.write_lines.ensures.written

pub returns-clause-broken : goal.returns-clause-broken
returns-clause-broken g c =
    recalls_broken g.B.Book.IsTrusted g.B.Book.Holds g.B.Book.LeavesOneOf g.W.Write.contents _ _
    (streamed_by c.args.wanted)
    c.args.front.now c.args.w.now c.write_lines.new.w c.write_lines.ensures.settings c.write_lines.ensures.kept
    c.write_lines.result c.write_lines.ensures.written

pub returns-clause-write : goal.returns-clause-write
returns-clause-write g c =
    recalls_write g.B.Book.IsTrusted g.B.Book.Holds g.B.Book.LeavesOneOf g.W.Write.contents _ _
    (streamed_by c.args.wanted)
    c.args.front.now c.args.w.now c.write_lines.new.w c.write_lines.ensures.settings c.write_lines.ensures.kept
    c.write_lines.result c.write_lines.ensures.written

pub returns-clause-unavailable : goal.returns-clause-unavailable
returns-clause-unavailable g c = λ _.
    recalls_unavailable g.B.Book.IsTrusted g.B.Book.Holds g.B.Book.LeavesOneOf g.W.Write.contents _ _
    (streamed_by c.args.wanted)
    c.args.front.now c.args.w.now c.write_lines.new.w c.write_lines.ensures.settings c.write_lines.ensures.kept
