use Rattle.std.proofs.Common.{arith}
use Rattle.std.proofs.lemmas.Result.{on_ok_weaker}
use Rattle.sqlite.specs.State.{HasCleanDisk}
use Rattle.sqlite.specs.Held.{state}
use Rattle.gate_schema.specs.Edits as edits
use Rattle.gate_rows.proofs.ThenLemmas.{changes_then}
use Rattle.gate_rows.proofs.plans.land_item.Goals as goal

pub returns-clause-changes : goal.returns-clause-changes
returns-clause-changes g c clean ready =
    let early : HasCleanDisk (state g.S.Store c.drop_item.new.tx.conn.now) = omega (arith, c.drop_fast.ensures.crash.clean) in
    let first = c.in_ok-drop_item.ensures.changes early ready in
    on_ok_weaker c.drop_fast.result
    (changes_then (state g.S.Store c.args.tx.now.conn.now) (state g.S.Store c.drop_item.new.tx.conn.now) (state g.S.Store c.drop_fast.new.tx.conn.now) (edits.drop_item c.args.n) (edits.drop_fast c.args.n) first)
    (c.drop_fast.ensures.changes clean first.ready)
