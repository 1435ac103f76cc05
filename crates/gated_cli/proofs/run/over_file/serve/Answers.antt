use Rattle.std.proofs.Common.{◌∙◌, ap, refl, subst, sym}
use Rattle.std.specs.Prelude.{IfSome}
use Rattle.sqlite.specs.Held.{state}
use Rattle.sqlite.specs.State.{HasCleanDisk}
use Rattle.gate_core.specs.Holding.{book_of}
use Rattle.gate_http.specs.Connections.{CalledOver}
use Rattle.gate_sql.specs.Refused.{IsRefused}
use Rattle.gate_table_laws.specs.Held.{HoldsFor, LeavesFor}
use Rattle.gate_file_meta.specs.Opens.{IsJudged}
use Rattle.gated_cli.specs.Ending.{most_served}
use Rattle.gated_cli.specs.OverFile.{GoesOver, ServesOver}
use Rattle.gated_cli.proofs.FileLemmas.{goes_over_live, leaves_called, no_file_fault, opened_leaves, opens_to}
use Rattle.gated_cli.proofs.FileLemmas.{serving_over_file}
use Rattle.gated_cli.proofs.TalkLemmas.{none_so_far}
use Rattle.gated_cli.proofs.run.over_file.serve.Goals as goal

pub returns-clause-gate : goal.returns-clause-gate
returns-clause-gate g c unfaulted =
    let went = c.serve-done.ensures.gate in
    let most = most_served c.serve-done.result c.args.count in
    let last = c.into_conn.ensures ∙ ap (λ book. book.conn) (c.into_book-2.ensures ∙ ap (λ cached. cached.book) c.into_book.ensures) in
    let opened = state g.S.Store c.in-Ok.book.conn in
    let over = goes_over_live (λ book. state g.S.Store book.conn) (λ book k x. HoldsFor (state g.S.Store book.conn) book.queues.items k x)
    (λ book k ys. LeavesFor (state g.S.Store book.conn) k ys) (λ book k x held. held.shows)
    (state g.S.Store c.args.conn) c.args.config c.in-Ok.book c.filled-live.result c.new-gate.result c.serve-done.new.gate
    (CalledOver (λ r k ys. LeavesFor (state g.S.Store r.book.conn) k ys) most c.new-gate.result c.serve-done.new.gate) (ServesOver (state g.S.Store (book_of c.serve-done.new.gate).book.conn) c.args.config most)
    c.new-gate.ensures.config c.stays_lawful.ensures c.filled-live.ensures.trusted c.filled-live.ensures.holds c.filled-live.ensures.leaves c.new-gate.ensures.book c.new-gate.ensures.holds
    (λ clean gate file. opens_to (λ x. HasCleanDisk opened → HoldsFor opened c.in-Ok.book.queues.items c.args.config x) (state g.S.Store c.args.conn) c.args.config gate c.in-Ok.ensures.opens c.in-Ok.ensures.adopts file clean)
    (λ clean gate file. opened_leaves (state g.S.Store c.args.conn) opened c.args.config gate
    (λ up x it. c.in-Ok.ensures.settled up x it clean) (λ up k x it may. c.in-Ok.ensures.adopted up k x it may clean) file)
    (λ gate after set was p. (
      p.0,
      leaves_called (λ r k ys. LeavesFor (state g.S.Store r.book.conn) k ys) c.new-gate.result
          c.serve-done.new.gate c.args.config gate p.0.calls set p.1 was,
    ))
    went in
    subst (λ conn. GoesOver (state g.S.Store c.args.conn) (state g.S.Store conn) c.args.config (ServesOver (state g.S.Store conn) c.args.config most)) (sym last) over

pub returns-clause-judged : goal.returns-clause-judged
returns-clause-judged g c tables indexes views version kept schema meta clean =
    let last = c.into_conn.ensures ∙ ap (λ book. book.conn) (c.into_book-2.ensures ∙ ap (λ cached. cached.book) c.into_book.ensures) in
    let served = subst (λ conn. HasCleanDisk (state g.S.Store conn)) last clean in
    let opened = c.filled-live.ensures.trusted
    (subst (λ cached. HasCleanDisk (state g.S.Store cached.book.conn)) c.new-gate.ensures.book (c.serve-done.ensures.gate.trusted_before served)) in
    subst (λ f. IsJudged f version kept c.args.config) (sym (no_file_fault _ c.serve-done.result c.serve-done.ensures.err))
    (c.in-Ok.ensures.judged tables indexes views version kept schema meta opened)

pub returns-clause-none : goal.returns-clause-none
returns-clause-none g c clean =
    subst (λ f. IfSome f (IsRefused (state g.S.Store c.args.conn) (state g.S.Store c.into_conn.result)))
    (sym (no_file_fault _ c.serve-done.result c.serve-done.ensures.err)) tt

pub returns-clause-err : goal.returns-clause-err
returns-clause-err g c = serving_over_file _ c.serve-done.result c.serve-done.ensures.err

pub returns-in-Err-clause-told : goal.returns-in-Err-clause-told
returns-in-Err-clause-told g c =
    none_so_far g.E.Write.contents c.args.count c.args.errors.now c.args.errors.now c.requires.teller refl
