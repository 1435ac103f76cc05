use Rattle.std.proofs.Common.{◌≡◌, [], sym, subst}
use Rattle.std.specs.Prelude.{Ok}
use Rattle.gate_archive.specs.Writes.{LeavesFeed}
use Rattle.gate_core.specs.Held.{Goes}
use Rattle.gated_cli.specs.Showing.{LeavesShown, lines_behind, most_told}
use Rattle.gated_cli.proofs.AskLemmas.{goes_asked, kept_leaves, lines_left}
use Rattle.gated_cli.proofs.run.showing.write_behind.Goals as goal

pub returns-in-Err-clause-gate : goal.returns-in-Err-clause-gate
returns-in-Err-clause-gate g c =
    let trusted = g.B.Book.IsTrusted in
    let holds = g.B.Book.Holds in
    let held = g.W.Write.contents in
    let old = c.args.output.now in
    let new = c.deliveries.new.w in
    let after = c.args.after in
    subst (λ f. Goes trusted holds c.args.gate.now c.deliveries.new.self (λ x then. (then ≡ x) × LeavesShown (lines_behind x (Ok after)) held old new f))
    (sym c.from.ensures)
    (goes_asked trusted holds g.B.Book.LeavesOneOf c.args.gate.now c.deliveries.new.self
    (λ x. LeavesFeed x.kept after most_told [] held old new c.in-Err.fault) _
    c.in-Err.ensures.written c.in-Err.ensures.kept c.in-Err.ensures.settings (λ x. lines_left held old new x.content.kept after c.in-Err.fault))

pub returns-in-Ok-clause-crash : goal.returns-in-Ok-clause-crash
returns-in-Ok-clause-crash g c =
    kept_leaves g.B.Book.IsTrusted g.B.Book.Holds g.B.Book.LeavesOneOf c.args.gate.now c.deliveries.new.self c.in-Ok.ensures.kept

pub returns-in-Err-clause-crash : goal.returns-in-Err-clause-crash
returns-in-Err-clause-crash g c =
    kept_leaves g.B.Book.IsTrusted g.B.Book.Holds g.B.Book.LeavesOneOf c.args.gate.now c.deliveries.new.self c.in-Err.ensures.kept
