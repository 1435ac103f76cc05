use Rattle.std.proofs.Common.{◌∙◌, ap, not, []}
use Rattle.sqlite.specs.Held.{state}
use Rattle.gate_found_rows.proofs.StayLemmas.{not_run_stays}
use Rattle.gate_found_rows.proofs.read.check_open.Goals as goal

pub returns-in_err-prepare-clause-stays : goal.returns-in_err-prepare-clause-stays
returns-in_err-prepare-clause-stays g c clean =
    not_run_stays _ [] (state g.S.Store c.args.conn.now) (state g.S.Store c.prepare.new.self) _ (λ up. c.is_autocommit.ensures.settled (c.is_autocommit.ensures.value ∙ ap not c.requires) up)
    (c.in_err-prepare.ensures.err clean [])
