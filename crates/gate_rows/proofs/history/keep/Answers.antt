use Rattle.sqlite.specs.Held.{state}
use Rattle.gate_schema.proofs.DeliveryTable.{adds_kept}
use Rattle.gate_rows.proofs.RanLemmas.{ran_so}
use Rattle.gate_rows.proofs.history.keep.Goals as goal

pub returns-clause-changes : goal.returns-clause-changes
returns-clause-changes g c clean ready =
    ran_so _ (λ ran. adds_kept c.args.kept.now (state g.S.Store c.args.tx.now.conn.now) (state g.S.Store c.run.new.tx.conn.now) ran.0 ready
    (rw (c.bytes.ensures, c.text.ensures, c.text-2.ensures, c.as_str.ensures, c.as_str-2.ensures) at ran.1)) (c.run.ensures.ran clean ready)
