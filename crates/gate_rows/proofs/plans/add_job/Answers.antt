use Rattle.sqlite.specs.Held.{state}
use Rattle.gate_schema.proofs.JobTable.{adds_job}
use Rattle.gate_rows.proofs.FitsLemmas.{job_free}
use Rattle.gate_rows.proofs.RanLemmas.{ran_so}
use Rattle.gate_rows.proofs.plans.add_job.Goals as goal

pub returns-clause-changes : goal.returns-clause-changes
returns-clause-changes g c clean ready =
    ran_so _ (λ ran. adds_job (record { serial = c.args.n; place = c.args.index; job = c.args.job.now }) (state g.S.Store c.args.tx.now.conn.now) (state g.S.Store c.run.new.tx.conn.now) ran.0 ready
    (rw (c.serial.ensures, c.number.ensures, c.text.ensures, c.as_str.ensures.value, c.flag.ensures) at ran.1)) (c.run.ensures.ran clean ready)

pub returns-clause-free : goal.returns-clause-free
returns-clause-free g c clean ready =
    ran_so _ (λ ran. job_free (record { serial = c.args.n; place = c.args.index; job = c.args.job.now }) (state g.S.Store c.args.tx.now.conn.now) (state g.S.Store c.run.new.tx.conn.now) ran.0 ready
    (rw (c.serial.ensures, c.number.ensures, c.text.ensures, c.as_str.ensures.value, c.flag.ensures) at ran.1)) (c.run.ensures.ran clean ready)
