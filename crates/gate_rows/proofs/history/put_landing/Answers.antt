use Rattle.sqlite.specs.Held.{state}
use Rattle.gate_schema.specs.Edits as edits
use Rattle.gate_schema.proofs.LandingTable.{adds_landing}
use Rattle.gate_rows.proofs.FitsLemmas.{landing_free}
use Rattle.gate_rows.proofs.RanLemmas.{ran_so}
use Rattle.gate_rows.proofs.history.put_landing.Goals as goal

pub returns-clause-changes : goal.returns-clause-changes
returns-clause-changes g c clean ready =
    ran_so _ (λ ran. adds_landing (edits.landing_in c.args.queue.now c.args.place c.args.l.now) (state g.S.Store c.args.tx.now.conn.now) (state g.S.Store c.run.new.tx.conn.now) ran.0 ready
    (rw (c.text.ensures, c.as_str.ensures.value, c.in-Some.ensures, c.serial.ensures, c.change.ensures, c.revision.ensures) at ran.1)) (c.run.ensures.ran clean ready)

pub returns-clause-fits : goal.returns-clause-fits
returns-clause-fits g c clean ready =
    ran_so _ (λ ran. landing_free (edits.landing_in c.args.queue.now c.args.place c.args.l.now) (state g.S.Store c.args.tx.now.conn.now) (state g.S.Store c.run.new.tx.conn.now) ran.0 ready
    (rw (c.text.ensures, c.as_str.ensures.value, c.in-Some.ensures, c.serial.ensures, c.change.ensures, c.revision.ensures) at ran.1)) (c.run.ensures.ran clean ready)
