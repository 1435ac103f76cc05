use Rattle.std.proofs.Common.{arith}
use Rattle.std.proofs.lemmas.Result.{on_ok_weaker}
use Rattle.sqlite.specs.State.{HasCleanDisk}
use Rattle.sqlite.specs.Held.{state}
use Rattle.gate_schema.specs.Edits as edits
use Rattle.gate_rows.proofs.ThenLemmas.{changes_then}
use Rattle.gate_rows.proofs.plans.drop_planned.Goals as goal

pub returns-clause-changes : goal.returns-clause-changes
returns-clause-changes g c clean ready =
    let early : HasCleanDisk (state g.S.Store c.drop_item.new.tx.conn.now) = omega (arith, c.drop_plan.ensures.crash.clean) in
    let first = c.in_ok-drop_item.ensures.changes early ready in
    on_ok_weaker c.drop_plan.result
    (changes_then (state g.S.Store c.args.tx.now.conn.now) (state g.S.Store c.drop_item.new.tx.conn.now) (state g.S.Store c.drop_plan.new.tx.conn.now) (edits.drop_item c.args.n) (edits.drop_plan c.args.n) first)
    (c.drop_plan.ensures.changes clean first.ready)
