use Rattle.sqlite.specs.Held.{state}
use Rattle.gate_file_changes.proofs.AdoptTables.{sets_settings}
use Rattle.gate_file_changes.proofs.adopting.set_settings.Goals as goal

pub returns-clause-made : goal.returns-clause-made
returns-clause-made g c b clean had =
    let done = sets_settings c.args.settings.now (state g.S.Store c.args.tx.now.conn.now) (state g.S.Store c.execute.new.self.conn.now) _ had.ready
    (rw (c.text.ensures, c.text-2.ensures) at (c.in_ok-execute.ensures.runs clean had.ready.inside)) in
    record { ready = done.0; stands = done.1 b had.stands }
