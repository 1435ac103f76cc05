use Rattle.gated_cli.proofs.AskLemmas.{got_leaves}
use Rattle.gated_cli.proofs.run.showing.write_content.Goals as goal

pub returns-in-Ok-clause-crash : goal.returns-in-Ok-clause-crash
returns-in-Ok-clause-crash g c = c.in-Ok.ensures.ok.crash

pub returns-in-Err-clause-crash : goal.returns-in-Err-clause-crash
returns-in-Err-clause-crash g c =
    let said = c.in-Err.ensures in
    got_leaves g.B.Book.IsTrusted g.B.Book.Holds g.B.Book.LeavesOneOf c.args.gate.now c.get_one.new.gate c.args.path.now _ _
    c.in-Err.fault said.write said.store said.memory said.others
