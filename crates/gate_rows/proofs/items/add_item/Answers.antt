use Rattle.sqlite.specs.Held.{state}
use Rattle.gate_schema.specs.Edits as edits
use Rattle.gate_schema.proofs.ItemTable.{adds_item}
use Rattle.gate_schema.proofs.RowLemmas.{bound_or_null}
use Rattle.gate_rows.proofs.FitsLemmas.{serial_free}
use Rattle.gate_rows.proofs.RanLemmas.{ran_so}
use Rattle.gate_rows.proofs.items.add_item.Goals as goal

pub returns-clause-changes : goal.returns-clause-changes
returns-clause-changes g c clean ready =
    ran_so _ (λ ran. adds_item (edits.item_in c.args.queue.now c.args.item.now) (state g.S.Store c.args.tx.now.conn.now) (state g.S.Store c.run.new.tx.conn.now) ran.0 ready
    (rw (c.serial.ensures, c.text.ensures, c.as_str.ensures.value, c.change.ensures, c.revision.ensures, c.serial_if_any.ensures, c.flag.ensures, bound_or_null) at ran.1)) (c.run.ensures.ran clean ready)

pub returns-clause-fresh : goal.returns-clause-fresh
returns-clause-fresh g c clean ready =
    ran_so _ (λ ran. serial_free (edits.item_in c.args.queue.now c.args.item.now) (state g.S.Store c.args.tx.now.conn.now) (state g.S.Store c.run.new.tx.conn.now) ran.0 ready
    (rw (c.serial.ensures, c.text.ensures, c.as_str.ensures.value, c.change.ensures, c.revision.ensures, c.serial_if_any.ensures, c.flag.ensures, bound_or_null) at ran.1)) (c.run.ensures.ran clean ready)
