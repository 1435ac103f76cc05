use Rattle.std.proofs.Common.{◌≡◌, ◌∙◌, [], ◌∷◌, ap, subst, sym}
use Rattle.std.specs.Prelude.{IfSome}
use Rattle.sqlite.specs.Held.{state}
use Rattle.sqlite.specs.State.{HasCleanDisk, State}
use Rattle.gate_types.specs.Gated.{Gated}
use Rattle.gate_sql.specs.Refused.{IsRefused}
use Rattle.gate_table_laws.specs.Held.{HoldsFor, LeavesFor}
use Rattle.gate_file_meta.specs.Opens.{IsJudged}
use Rattle.gate_core.specs.Holding.{book_of}
use Rattle.gated_cli.specs.OverFile.{GoesOver, LeavesAfter}
use Rattle.gated_cli.specs.Showing.{Writes}
use Rattle.gated_cli.proofs.FileLemmas.{goes_over, opened_leaves, opens_to}
use Rattle.gated_cli.proofs.ShowLemmas.{stops_unopened}
use Rattle.gated_cli.proofs.run.over_file.show.Goals as goal

pub returns-in-Err-clause-err : goal.returns-in-Err-clause-err
returns-in-Err-clause-err g c = stops_unopened c.args.shown g.W.Write.contents c.args.output.now c.in-Err.fault

pub returns-clause-gate : goal.returns-clause-gate
returns-clause-gate g c unfaulted =
    let went = c.write_shown-done.ensures.gate in
    let last = c.into_conn.ensures ∙ ap (λ book. book.conn) c.into_book.ensures in
    let P : Gated → Gated → Type 0 = λ gate after. (after ≡ gate) × Writes c.args.shown gate g.W.Write.contents c.args.output.now c.write_shown-done.new.output c.write_shown-done.result in
    let Q : State → Gated → Gated → Type 0 = λ s gate after. (after ≡ gate) × Writes c.args.shown gate g.W.Write.contents c.args.output.now c.write_shown-done.new.output c.write_shown-done.result × LeavesAfter s c.args.config gate [] in
    let opened = state g.S.Store c.in-Ok.book.conn in
    let over = goes_over (λ book. state g.S.Store book.conn) (λ book k x. HoldsFor (state g.S.Store book.conn) book.queues.items k x)
    (λ book k ys. LeavesFor (state g.S.Store book.conn) k ys) (λ book k x held. held.shows)
    (state g.S.Store c.args.conn) c.args.config c.new-gate.result
    c.write_shown-done.new.gate P (Q (state g.S.Store (book_of c.write_shown-done.new.gate).conn)) c.new-gate.ensures.config c.stays_lawful.ensures
    (λ clean gate file. c.new-gate.ensures.holds gate.content
    (opens_to (λ x. HasCleanDisk opened → HoldsFor opened c.in-Ok.book.queues.items c.args.config x) (state g.S.Store c.args.conn) c.args.config gate c.in-Ok.ensures.opens c.in-Ok.ensures.adopts file
    (subst (λ book. HasCleanDisk (state g.S.Store book.conn)) c.new-gate.ensures.book clean)))
    (λ clean gate file.
    let held = subst (λ book. HasCleanDisk (state g.S.Store book.conn)) c.new-gate.ensures.book clean in
    subst (λ book. LeavesFor (state g.S.Store book.conn) c.args.config (gate.content ∷ [])) (sym c.new-gate.ensures.book)
    (opened_leaves (state g.S.Store c.args.conn) opened c.args.config gate
    (λ up x it. c.in-Ok.ensures.settled up x it held) (λ up k x it may. c.in-Ok.ensures.adopted up k x it may held) file))
    (λ clean gate after set over was p. (
      p.0,
      p.1,
      subst (λ k. LeavesFor (state g.S.Store (book_of c.new-gate.result).conn) k (gate.content ∷ []) →
          LeavesFor (state g.S.Store (book_of c.write_shown-done.new.gate).conn) k (gate.content ∷ [])) c.new-gate.ensures.config
          (c.write_shown-done.ensures.crash clean gate.content over.held over.lawful (gate.content ∷ [])) was,
    ))
    went in
    subst (λ conn. GoesOver (state g.S.Store c.args.conn) (state g.S.Store conn) c.args.config (Q (state g.S.Store conn))) (sym last) over

pub returns-clause-judged : goal.returns-clause-judged
returns-clause-judged g c tables indexes views version kept schema meta clean =
    let last = c.into_conn.ensures ∙ ap (λ book. book.conn) c.into_book.ensures in
    let shown = subst (λ conn. HasCleanDisk (state g.S.Store conn)) last clean in
    let opened = subst (λ book. HasCleanDisk (state g.S.Store book.conn)) c.new-gate.ensures.book (c.write_shown-done.ensures.gate.trusted_before shown) in
    subst (λ f. IsJudged f version kept c.args.config) (sym c.write_shown-done.ensures.opened)
    (c.in-Ok.ensures.judged tables indexes views version kept schema meta opened)

pub returns-clause-none : goal.returns-clause-none
returns-clause-none g c clean =
    subst (λ f. IfSome f (IsRefused (state g.S.Store c.args.conn) (state g.S.Store c.into_conn.result))) (sym c.write_shown-done.ensures.opened) tt
