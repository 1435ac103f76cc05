use Rattle.std.proofs.Common.{arith}
use Rattle.std.proofs.lemmas.Result.{on_ok_weaker}
use Rattle.sqlite.specs.State.{HasCleanDisk}
use Rattle.sqlite.specs.Held.{state}
use Rattle.gate_schema.specs.Edits as edits
use Rattle.gate_rows.proofs.ThenLemmas.{changes_then, needs_kept, needs_renewed}
use Rattle.gate_rows.proofs.changes.renew_needs.Goals as goal

pub returns-then-branch-clause-changes : goal.returns-then-branch-clause-changes
returns-then-branch-clause-changes g c clean ready =
    needs_kept (state g.S.Store c.args.tx.now.conn.now) c.args.n c.args.needs.now c.in_ok-have_needs.field-0 (c.in_ok-have_needs.ensures.found clean ready) (state g.S.Store c.have_needs.new.tx.conn.now) c.if-branch.true
    (c.in_ok-have_needs.ensures.changes clean ready)

pub returns-clause-changes : goal.returns-clause-changes
returns-clause-changes g c clean ready =
    let old = state g.S.Store c.args.tx.now.conn.now in
    let mid = state g.S.Store c.have_needs.new.tx.conn.now in
    let dropped = state g.S.Store c.drop_needs.new.tx.conn.now in
    let new = state g.S.Store c.add_needs.new.tx.conn.now in
    let late : HasCleanDisk dropped = omega (arith, c.add_needs.ensures.crash.clean) in
    let early : HasCleanDisk mid = omega (arith, c.drop_needs.ensures.crash.clean) in
    let none = c.in_ok-have_needs.ensures.changes early ready in
    let first = c.in_ok-drop_needs.ensures.changes late none.ready in
    on_ok_weaker c.add_needs.result
    (λ second. needs_renewed old c.args.n c.args.needs.now c.in_ok-have_needs.field-0 (c.in_ok-have_needs.ensures.found early ready) mid new c.if-branch.false none
    (changes_then mid dropped new (edits.drop_needs c.args.n) (edits.add_needs (edits.need_rows c.args.n 0 c.args.needs.now)) first second))
    (c.add_needs.ensures.changes clean first.ready)
