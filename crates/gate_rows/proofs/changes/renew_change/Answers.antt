use Rattle.sqlite.specs.Held.{state}
use Rattle.gate_schema.specs.Edits as edits
use Rattle.gate_schema.proofs.ChangeTable.{renews_change}
use Rattle.gate_schema.proofs.RowLemmas.{bound_or_null}
use Rattle.gate_rows.proofs.RanLemmas.{ran_so}
use Rattle.gate_rows.proofs.changes.renew_change.Goals as goal

pub returns-clause-changes : goal.returns-clause-changes
returns-clause-changes g c clean ready =
    ran_so _ (λ ran. renews_change (edits.change_with c.args.k.now c.args.approval) (state g.S.Store c.args.tx.now.conn.now) (state g.S.Store c.run.new.tx.conn.now) ran.0 ready
    (rw (c.change.ensures, c.text.ensures, c.text-2.ensures, c.as_str.ensures.value, c.revision.ensures, c.word.ensures, c.in-Some.ensures, bound_or_null) at ran.1)) (c.run.ensures.ran clean ready)
