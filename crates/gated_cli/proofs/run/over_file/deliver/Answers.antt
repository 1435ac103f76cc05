use Rattle.std.proofs.Common.{◌≡◌, ◌∙◌, [], ◌∷◌, ◌++◌, ap, refl, subst, sym}
use Rattle.std.specs.Prelude.{IfSome}
use Rattle.sqlite.specs.Held.{state}
use Rattle.sqlite.specs.State.{HasCleanDisk, State}
use Rattle.gate_types.specs.Gated.{Gated}
use Rattle.gate_core.proofs.ReplyLemmas.{goes_nowhere}
use Rattle.gate_core.specs.Lines.{lines_of, whole_lines}
use Rattle.gate_core.specs.Held.{CutOver, ReplayedOver}
use Rattle.gate_core.specs.Holding.{book_of}
use Rattle.gate_core.specs.Left.{LeavesBy}
use Rattle.gate_core.specs.Replies.{calls_of_lines}
use Rattle.gate_sql.specs.Refused.{IsRefused}
use Rattle.gate_table_laws.specs.Held.{HoldsFor, LeavesFor}
use Rattle.gate_live.specs.Both.{HoldsBoth}
use Rattle.gate_file_meta.specs.Opens.{IsJudged}
use Rattle.gated_cli.specs.OverFile.{BreaksOver, GoesOver, LeavesAfter, RepliesOver}
use Rattle.gated_cli.proofs.FileLemmas.{goes_over_live, leaves_called, no_replay_fault, of_each, of_memory}
use Rattle.gated_cli.proofs.FileLemmas.{of_no_memory, of_read, of_write, opened_leaves, opens_to}
use Rattle.gated_cli.proofs.run.over_file.deliver.Goals as goal

pub returns-in-Ok-done-clause-ok : goal.returns-in-Ok-done-clause-ok
returns-in-Ok-done-clause-ok g c =
    let h = c.in-Ok-done.ensures.ok in
    let last = c.into_conn-conn.ensures ∙ ap (λ book. book.conn) (c.into_book-2.ensures ∙ ap (λ cached. cached.book) c.into_book.ensures) in
    let P : Gated → Gated → Type 0 = ReplayedOver (λ r k ys. LeavesFor (state g.S.Store r.book.conn) k ys) c.new-gate.result c.replay-done.new.gate (lines_of h.0) h.3 in
    let Q : State → Gated → Gated → Type 0 = λ s. RepliesOver s c.args.config (lines_of h.0) h.3 in
    let opened = state g.S.Store c.in-Ok.book.conn in
    let over = goes_over_live (λ book. state g.S.Store book.conn) (λ book k x. HoldsFor (state g.S.Store book.conn) book.queues.items k x)
    (λ book k ys. LeavesFor (state g.S.Store book.conn) k ys) (λ book k x held. held.shows)
    (state g.S.Store c.args.conn) c.args.config c.in-Ok.book c.filled-live.result c.new-gate.result c.replay-done.new.gate P (Q (state g.S.Store (book_of c.replay-done.new.gate).book.conn))
    c.new-gate.ensures.config c.stays_lawful.ensures c.filled-live.ensures.trusted c.filled-live.ensures.holds c.filled-live.ensures.leaves c.new-gate.ensures.book c.new-gate.ensures.holds
    (λ clean gate file. opens_to (λ x. HasCleanDisk opened → HoldsFor opened c.in-Ok.book.queues.items c.args.config x) (state g.S.Store c.args.conn) c.args.config gate c.in-Ok.ensures.opens c.in-Ok.ensures.adopts file clean)
    (λ clean gate file. opened_leaves (state g.S.Store c.args.conn) opened c.args.config gate
    (λ up x it. c.in-Ok.ensures.settled up x it clean) (λ up k x it may. c.in-Ok.ensures.adopted up k x it may clean) file)
    (λ gate after set was p. (
      p.0,
      leaves_called (λ r k ys. LeavesFor (state g.S.Store r.book.conn) k ys) c.new-gate.result
          c.replay-done.new.gate c.args.config gate (calls_of_lines p.0.marked) set p.1 was,
    ))
    h.5 in
    (h.0, h.1, h.2, h.3, h.4, subst (λ conn. GoesOver (state g.S.Store c.args.conn) (state g.S.Store conn) c.args.config (Q (state g.S.Store conn))) (sym last) over)

pub returns-in-Ok-done-clause-judged : goal.returns-in-Ok-done-clause-judged
returns-in-Ok-done-clause-judged g c tables indexes views version kept schema meta clean =
    let last = c.into_conn-conn.ensures ∙ ap (λ book. book.conn) (c.into_book-2.ensures ∙ ap (λ cached. cached.book) c.into_book.ensures) in
    let before = c.in-Ok-done.ensures.ok.5.trusted_before (subst (λ conn. HasCleanDisk (state g.S.Store conn)) last clean) in
    let opened = c.filled-live.ensures.trusted
    (subst (λ cached. HasCleanDisk (state g.S.Store cached.book.conn)) c.new-gate.ensures.book before) in
    c.in-Ok.ensures.judged tables indexes views version kept schema meta opened

pub returns-in-Err-done-clause-judged : goal.returns-in-Err-done-clause-judged
returns-in-Err-done-clause-judged g c tables indexes views version kept schema meta clean =
    let last = c.into_conn-conn.ensures ∙ ap (λ book. book.conn) (c.into_book-2.ensures ∙ ap (λ cached. cached.book) c.into_book.ensures) in
    let said = c.in-Err-done.ensures in
    let after = subst (λ conn. HasCleanDisk (state g.S.Store conn)) last clean in
    let before = of_each (HasCleanDisk (state g.S.Store (book_of c.new-gate.result).book.conn)) c.in-Err-done.fault
    (λ e. (said.read e).4.trusted_before after) (λ e. (said.write e).5.trusted_before after)
    (λ e. subst (λ cached. HasCleanDisk (state g.S.Store cached.book.conn)) (ap book_of (said.memory e).0) after) in
    let opened = c.filled-live.ensures.trusted
    (subst (λ cached. HasCleanDisk (state g.S.Store cached.book.conn)) c.new-gate.ensures.book before) in
    subst (λ f. IsJudged f version kept c.args.config) (sym (no_replay_fault c.in-Err-done.fault c.from.result c.from.ensures))
    (c.in-Ok.ensures.judged tables indexes views version kept schema meta opened)

pub returns-in-Err-done-clause-none : goal.returns-in-Err-done-clause-none
returns-in-Err-done-clause-none g c clean =
    subst (λ f. IfSome f (IsRefused (state g.S.Store c.args.conn) (state g.S.Store c.into_conn-conn.result)))
    (sym (no_replay_fault c.in-Err-done.fault c.from.result c.from.ensures)) tt

pub returns-in-Err-done-clause-read : goal.returns-in-Err-done-clause-read
returns-in-Err-done-clause-read g c e =
    let h = c.in-Err-done.ensures.read (of_read c.in-Err-done.fault c.from.result c.from.ensures e) in
    let last = c.into_conn-conn.ensures ∙ ap (λ book. book.conn) (c.into_book-2.ensures ∙ ap (λ cached. cached.book) c.into_book.ensures) in
    let P : Gated → Gated → Type 0 = ReplayedOver (λ r k ys. LeavesFor (state g.S.Store r.book.conn) k ys) c.new-gate.result c.replay-done.new.gate (whole_lines h.0) h.2 in
    let Q : State → Gated → Gated → Type 0 = λ s. RepliesOver s c.args.config (whole_lines h.0) h.2 in
    let opened = state g.S.Store c.in-Ok.book.conn in
    let over = goes_over_live (λ book. state g.S.Store book.conn) (λ book k x. HoldsFor (state g.S.Store book.conn) book.queues.items k x)
    (λ book k ys. LeavesFor (state g.S.Store book.conn) k ys) (λ book k x held. held.shows)
    (state g.S.Store c.args.conn) c.args.config c.in-Ok.book c.filled-live.result c.new-gate.result c.replay-done.new.gate P (Q (state g.S.Store (book_of c.replay-done.new.gate).book.conn))
    c.new-gate.ensures.config c.stays_lawful.ensures c.filled-live.ensures.trusted c.filled-live.ensures.holds c.filled-live.ensures.leaves c.new-gate.ensures.book c.new-gate.ensures.holds
    (λ clean gate file. opens_to (λ x. HasCleanDisk opened → HoldsFor opened c.in-Ok.book.queues.items c.args.config x) (state g.S.Store c.args.conn) c.args.config gate c.in-Ok.ensures.opens c.in-Ok.ensures.adopts file clean)
    (λ clean gate file. opened_leaves (state g.S.Store c.args.conn) opened c.args.config gate
    (λ up x it. c.in-Ok.ensures.settled up x it clean) (λ up k x it may. c.in-Ok.ensures.adopted up k x it may clean) file)
    (λ gate after set was p. (
      p.0,
      leaves_called (λ r k ys. LeavesFor (state g.S.Store r.book.conn) k ys) c.new-gate.result
          c.replay-done.new.gate c.args.config gate (calls_of_lines p.0.marked) set p.1 was,
    ))
    h.4 in
    (h.0, h.1, h.2, h.3, subst (λ conn. GoesOver (state g.S.Store c.args.conn) (state g.S.Store conn) c.args.config (Q (state g.S.Store conn))) (sym last) over)

pub returns-in-Err-done-clause-write : goal.returns-in-Err-done-clause-write
returns-in-Err-done-clause-write g c e =
    let h = c.in-Err-done.ensures.write (of_write c.in-Err-done.fault c.from.result c.from.ensures e) in
    let last = c.into_conn-conn.ensures ∙ ap (λ book. book.conn) (c.into_book-2.ensures ∙ ap (λ cached. cached.book) c.into_book.ensures) in
    let P : Gated → Gated → Type 0 = CutOver (λ r k ys. LeavesFor (state g.S.Store r.book.conn) k ys) c.new-gate.result c.replay-done.new.gate h.0 h.1 h.3 in
    let Q : State → Gated → Gated → Type 0 = λ s. BreaksOver s c.args.config h.0 h.1 h.3 in
    let opened = state g.S.Store c.in-Ok.book.conn in
    let over = goes_over_live (λ book. state g.S.Store book.conn) (λ book k x. HoldsFor (state g.S.Store book.conn) book.queues.items k x)
    (λ book k ys. LeavesFor (state g.S.Store book.conn) k ys) (λ book k x held. held.shows)
    (state g.S.Store c.args.conn) c.args.config c.in-Ok.book c.filled-live.result c.new-gate.result c.replay-done.new.gate P (Q (state g.S.Store (book_of c.replay-done.new.gate).book.conn))
    c.new-gate.ensures.config c.stays_lawful.ensures c.filled-live.ensures.trusted c.filled-live.ensures.holds c.filled-live.ensures.leaves c.new-gate.ensures.book c.new-gate.ensures.holds
    (λ clean gate file. opens_to (λ x. HasCleanDisk opened → HoldsFor opened c.in-Ok.book.queues.items c.args.config x) (state g.S.Store c.args.conn) c.args.config gate c.in-Ok.ensures.opens c.in-Ok.ensures.adopts file clean)
    (λ clean gate file. opened_leaves (state g.S.Store c.args.conn) opened c.args.config gate
    (λ up x it. c.in-Ok.ensures.settled up x it clean) (λ up k x it may. c.in-Ok.ensures.adopted up k x it may clean) file)
    (λ gate after set was p. (
      p.0,
      p.1,
      leaves_called (λ r k ys. LeavesFor (state g.S.Store r.book.conn) k ys) c.new-gate.result
          c.replay-done.new.gate c.args.config gate (calls_of_lines (p.0.done ++ p.0.last ∷ [])) set p.2 was,
    ))
    h.5 in
    (h.0, h.1, h.2, h.3, h.4, subst (λ conn. GoesOver (state g.S.Store c.args.conn) (state g.S.Store conn) c.args.config (Q (state g.S.Store conn))) (sym last) over)

pub returns-in-Err-done-clause-memory : goal.returns-in-Err-done-clause-memory
returns-in-Err-done-clause-memory g c e =
    let same = (c.in-Err-done.ensures.memory (of_no_memory c.in-Err-done.fault c.from.result c.from.ensures e)).0 in
    let last = c.into_conn-conn.ensures ∙ ap (λ book. book.conn) (c.into_book-2.ensures ∙ ap (λ cached. cached.book) c.into_book.ensures) in
    let P : Gated → Gated → Type 0 = λ gate after. (after ≡ gate) × LeavesBy (λ r k ys. LeavesFor (state g.S.Store r.book.conn) k ys) c.new-gate.result c.replay-done.new.gate gate [] in
    let Q : State → Gated → Gated → Type 0 = λ s gate after. (after ≡ gate) × LeavesAfter s c.args.config gate [] in
    let opened = state g.S.Store c.in-Ok.book.conn in
    let over = goes_over_live (λ book. state g.S.Store book.conn) (λ book k x. HoldsFor (state g.S.Store book.conn) book.queues.items k x)
    (λ book k ys. LeavesFor (state g.S.Store book.conn) k ys) (λ book k x held. held.shows)
    (state g.S.Store c.args.conn) c.args.config c.in-Ok.book c.filled-live.result c.new-gate.result c.replay-done.new.gate P (Q (state g.S.Store (book_of c.replay-done.new.gate).book.conn))
    c.new-gate.ensures.config c.stays_lawful.ensures c.filled-live.ensures.trusted c.filled-live.ensures.holds c.filled-live.ensures.leaves c.new-gate.ensures.book c.new-gate.ensures.holds
    (λ clean gate file. opens_to (λ x. HasCleanDisk opened → HoldsFor opened c.in-Ok.book.queues.items c.args.config x) (state g.S.Store c.args.conn) c.args.config gate c.in-Ok.ensures.opens c.in-Ok.ensures.adopts file clean)
    (λ clean gate file. opened_leaves (state g.S.Store c.args.conn) opened c.args.config gate
    (λ up x it. c.in-Ok.ensures.settled up x it clean) (λ up k x it may. c.in-Ok.ensures.adopted up k x it may clean) file)
    (λ gate after set was p. (
      p.0,
      leaves_called (λ r k ys. LeavesFor (state g.S.Store r.book.conn) k ys) c.new-gate.result
          c.replay-done.new.gate c.args.config gate [] set p.1 was,
    ))
    (goes_nowhere (λ cached. HasCleanDisk (state g.S.Store cached.book.conn))
    (λ cached k x. HoldsBoth (λ book k x. HoldsFor (state g.S.Store book.conn) book.queues.items k x) cached k x)
    c.new-gate.result c.replay-done.new.gate P same
    (λ gate. (refl, subst (λ n. LeavesBy (λ r k ys. LeavesFor (state g.S.Store r.book.conn) k ys) c.new-gate.result n gate []) (sym same) (λ ys was. was)))) in
    subst (λ conn. GoesOver (state g.S.Store c.args.conn) (state g.S.Store conn) c.args.config (Q (state g.S.Store conn))) (sym last) over

pub returns-in-Err-done-clause-fault : goal.returns-in-Err-done-clause-fault
returns-in-Err-done-clause-fault g c unread unwritten =
    let is = of_memory c.in-Err-done.fault c.from.result c.from.ensures unread unwritten in
    let same = c.in-Err-done.ensures.memory is.0 in
    (is.1, same.1, same.2)

pub returns-in-Err-done-clause-reader_failed : goal.returns-in-Err-done-clause-reader_failed
returns-in-Err-done-clause-reader_failed g c e =
    c.in-Err-done.ensures.reader_failed (of_read c.in-Err-done.fault c.from.result c.from.ensures e)

pub returns-in-Err-done-clause-writer_failed : goal.returns-in-Err-done-clause-writer_failed
returns-in-Err-done-clause-writer_failed g c e =
    c.in-Err-done.ensures.writer_failed (of_write c.in-Err-done.fault c.from.result c.from.ensures e)
