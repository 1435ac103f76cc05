use Rattle.sqlite.specs.Held.{state}
use Rattle.gate_found_rows.proofs.ReadLemmas.{plain_read}
use Rattle.gate_found_rows.proofs.read.read_rows.Goals as goal

pub returns-in-Ok-clause-only_reads : goal.returns-in-Ok-clause-only_reads
returns-in-Ok-clause-only_reads g c schema plain =
    let read = c.read_all.ensures in
    plain_read schema c.args.sql.now (state g.S.Store c.args.conn.now) (state g.S.Store c.read_all.new.conn) plain read.clean read.stays read.crash

pub returns-in-Err-clause-only_reads : goal.returns-in-Err-clause-only_reads
returns-in-Err-clause-only_reads g c schema plain =
    let read = c.read_all.ensures in
    plain_read schema c.args.sql.now (state g.S.Store c.args.conn.now) (state g.S.Store c.read_all.new.conn) plain read.clean read.stays read.crash
