use Rattle.sqlite.specs.Held.{state}
use Rattle.gate_schema.proofs.BuildTable.{adds_build}
use Rattle.gate_rows.proofs.RanLemmas.{ran_so}
use Rattle.gate_rows.proofs.builds.add_build.Goals as goal

pub returns-clause-changes : goal.returns-clause-changes
returns-clause-changes g c clean ready =
    ran_so _ (λ ran. adds_build c.args.b.now (state g.S.Store c.args.tx.now.conn.now) (state g.S.Store c.run.new.tx.conn.now) ran.0 ready
    (rw (c.build.ensures, c.serial.ensures, c.change.ensures, c.revision.ensures, c.text.ensures, c.text-2.ensures, c.text-3.ensures, c.text-4.ensures, c.as_str.ensures.value, c.as_str-2.ensures.value, c.word.ensures, c.flag.ensures, c.in-Some.ensures, c.requires.told) at ran.1)) (c.run.ensures.ran clean ready)
