use Rattle.sqlite.specs.Held.{state}
use Rattle.gate_schema.specs.Edits as edits
use Rattle.gate_schema.proofs.ItemTable.{sets_item}
use Rattle.gate_schema.proofs.RowLemmas.{bound_or_null}
use Rattle.gate_rows.proofs.FitsLemmas.{alone_found}
use Rattle.gate_rows.proofs.items.set_item.Goals as goal

pub returns-clause-changes : goal.returns-clause-changes
returns-clause-changes g c clean ready =
    (sets_item (edits.item_in c.args.queue.now c.args.item.now) (state g.S.Store c.args.tx.now.conn.now) (state g.S.Store c.execute.new.self.conn.now) _ ready
    (rw (c.serial.ensures, c.text.ensures, c.as_str.ensures.value, c.change.ensures, c.revision.ensures, c.serial_if_any.ensures, c.flag.ensures, bound_or_null) at (c.in_ok-rows.ensures.runs clean ready.inside))).0

pub returns-clause-fits : goal.returns-clause-fits
returns-clause-fits g c clean ready some b stands =
    let made = sets_item (edits.item_in c.args.queue.now c.args.item.now) (state g.S.Store c.args.tx.now.conn.now) (state g.S.Store c.execute.new.self.conn.now) _ ready
    (rw (c.serial.ensures, c.text.ensures, c.as_str.ensures.value, c.change.ensures, c.revision.ensures, c.serial_if_any.ensures, c.flag.ensures, bound_or_null) at (c.in_ok-rows.ensures.runs clean ready.inside)) in
    alone_found (edits.item_in c.args.queue.now c.args.item.now) b.items stands.item.in_order _ (made.1 b stands) some
