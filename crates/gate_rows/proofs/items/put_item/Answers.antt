use Rattle.std.proofs.Common.{arith}
use Rattle.std.proofs.lemmas.Result.{on_ok_weaker}
use Rattle.sqlite.specs.State.{HasCleanDisk}
use Rattle.sqlite.specs.Held.{state}
use Rattle.gate_schema.specs.Edits as edits
use Rattle.gate_rows.proofs.FitsLemmas.{others_differ}
use Rattle.gate_rows.proofs.ThenLemmas.{changes_then}
use Rattle.gate_rows.proofs.items.put_item.Goals as goal

pub returns-clause-changes : goal.returns-clause-changes
returns-clause-changes g c clean ready =
    let early : HasCleanDisk (state g.S.Store c.set_item.new.tx.conn.now) = omega (arith, c.add_item.ensures.crash.clean) in
    let first = rw c.if-branch.false at (c.in_ok-set_item.ensures.changes early ready) in
    on_ok_weaker c.add_item.result
    (changes_then (state g.S.Store c.args.tx.now.conn.now) (state g.S.Store c.set_item.new.tx.conn.now) (state g.S.Store c.add_item.new.tx.conn.now) (edits.drop_item_of c.args.item.now.serial c.args.queue.now) (edits.add_item (edits.item_in c.args.queue.now c.args.item.now)) first)
    (c.add_item.ensures.changes clean first.ready)

pub returns-clause-fits : goal.returns-clause-fits
returns-clause-fits g c clean ready =
    let early : HasCleanDisk (state g.S.Store c.set_item.new.tx.conn.now) = omega (arith, c.add_item.ensures.crash.clean) in
    let first = rw c.if-branch.false at (c.in_ok-set_item.ensures.changes early ready) in
    let name = c.args.queue.now in
    let n = c.args.item.now.serial in
    on_ok_weaker c.add_item.result
    (λ fresh b named stands. others_differ n name b.items (fresh (edits.drop_item_of n name b) (first.named b named) (first.stands b named stands)))
    (c.add_item.ensures.fresh clean first.ready)
