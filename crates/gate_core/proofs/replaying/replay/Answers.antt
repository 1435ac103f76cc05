use Rattle.std.proofs.lemmas.Result.{IfOk-weaker}
use Rattle.gate_core.proofs.HoldingLemmas.{goes_anew}
use Rattle.gate_core.proofs.ReplyLemmas.{replayed_of_runs, cut_of_broke}
use Rattle.gate_core.proofs.replaying.replay.Goals as goal

pub returns-clause-ok : goal.returns-clause-ok
returns-clause-ok g c = IfOk-weaker c.answer_lines.result _ _
    (λ n h. (
      h.0,
      h.1,
      h.2,
      h.3.text,
      h.3.written,
      replayed_of_runs g.B.Book.IsTrusted g.B.Book.Holds g.B.Book.LeavesOneOf _ _ _ _ h.3.ran,
      h.4,
    )) c.answer_lines.ensures.ok

pub returns-clause-anew : goal.returns-clause-anew
returns-clause-anew g c = IfOk-weaker c.answer_lines.result _ _
    (λ n h fresh trusted.
    let s = c.args.gate.now.config in
    let went = goes_anew g.B.Book.IsTrusted g.B.Book.Holds g.B.Book.LeavesOneOf _ _ _
    (replayed_of_runs g.B.Book.IsTrusted g.B.Book.Holds g.B.Book.LeavesOneOf _ _ _ _ h.3.ran) (record {
      lawful = c.start_is_lawful.ensures s;
      in_form = c.empty_is_in_form.ensures s c.show_sound.ensures c.settings_are_in_form.ensures;
    }) fresh trusted in
    (h.0, h.1, h.2, h.3.text, h.3.written, went.0, went.1.0, went.2)) c.answer_lines.ensures.ok

pub returns-clause-read : goal.returns-clause-read
returns-clause-read g c = λ failed.
    let h = c.answer_lines.ensures.read failed in (
      h.0,
      h.1,
      h.2.text,
      h.2.written,
      replayed_of_runs g.B.Book.IsTrusted g.B.Book.Holds g.B.Book.LeavesOneOf _ _ _ _ h.2.ran,
    )

pub returns-clause-write : goal.returns-clause-write
returns-clause-write g c = λ failed.
    let h = c.answer_lines.ensures.write failed in (
      h.0,
      _,
      h.1.written,
      _,
      h.2,
      cut_of_broke g.B.Book.IsTrusted g.B.Book.Holds g.B.Book.LeavesOneOf _ _ _ _ _ h.1,
    )
