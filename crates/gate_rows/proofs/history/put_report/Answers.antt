use Rattle.sqlite.specs.Held.{state}
use Rattle.gate_schema.specs.Edits as edits
use Rattle.gate_schema.proofs.ReportTable.{adds_report}
use Rattle.gate_schema.proofs.RowLemmas.{bound_or_null}
use Rattle.gate_rows.proofs.FitsLemmas.{report_free}
use Rattle.gate_rows.proofs.RanLemmas.{ran_so}
use Rattle.gate_rows.proofs.history.put_report.Goals as goal

pub returns-clause-changes : goal.returns-clause-changes
returns-clause-changes g c clean ready =
    ran_so _ (λ ran. adds_report (edits.report_in c.args.queue.now c.args.place c.args.r.now) (state g.S.Store c.args.tx.now.conn.now) (state g.S.Store c.run.new.tx.conn.now) ran.0 ready
    (rw (c.text.ensures, c.text-2.ensures, c.as_str.ensures.value, c.in-Some.ensures, c.in-Some-landing_place.ensures, c.serial.ensures, c.change.ensures, c.revision.ensures, c.word.ensures, bound_or_null) at ran.1)) (c.run.ensures.ran clean ready)

pub returns-clause-fits : goal.returns-clause-fits
returns-clause-fits g c clean ready =
    ran_so _ (λ ran. report_free (edits.report_in c.args.queue.now c.args.place c.args.r.now) (state g.S.Store c.args.tx.now.conn.now) (state g.S.Store c.run.new.tx.conn.now) ran.0 ready
    (rw (c.text.ensures, c.text-2.ensures, c.as_str.ensures.value, c.in-Some.ensures, c.in-Some-landing_place.ensures, c.serial.ensures, c.change.ensures, c.revision.ensures, c.word.ensures, bound_or_null) at ran.1)) (c.run.ensures.ran clean ready)
