use Rattle.std.proofs.Common.{arith}
use Rattle.std.proofs.lemmas.Result.{on_ok_weaker}
use Rattle.sqlite.specs.State.{HasCleanDisk}
use Rattle.sqlite.specs.Held.{state}
use Rattle.gate_schema.specs.Edits as edits
use Rattle.gate_rows.proofs.ThenLemmas.{changes_then}
use Rattle.gate_rows.proofs.changes.put_change.Goals as goal

pub returns-clause-changes : goal.returns-clause-changes
returns-clause-changes g c clean ready =
    let early : HasCleanDisk (state g.S.Store c.renew_change.new.tx.conn.now) = omega (arith, c.renew_needs.ensures.crash.clean) in
    let first = c.in_ok-renew_change.ensures.changes early ready in
    on_ok_weaker c.renew_needs.result
    (changes_then (state g.S.Store c.args.tx.now.conn.now) (state g.S.Store c.renew_change.new.tx.conn.now) (state g.S.Store c.renew_needs.new.tx.conn.now) (λ b. edits.add_change (edits.change_with c.args.k.now c.args.approval) (edits.drop_change c.args.k.now.number b)) (edits.put_needs c.args.k.now.number c.args.k.now.needs) first)
    (rw c.as_slice.ensures at (c.renew_needs.ensures.changes clean first.ready))
