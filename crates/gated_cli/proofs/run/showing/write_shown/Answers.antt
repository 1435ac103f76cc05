use Rattle.gated_cli.proofs.AskLemmas.{kept_leaves}
use Rattle.gated_cli.proofs.run.showing.write_shown.Goals as goal

pub returns-in-Status-clause-crash : goal.returns-in-Status-clause-crash
returns-in-Status-clause-crash g c =
    kept_leaves g.B.Book.IsTrusted g.B.Book.Holds g.B.Book.LeavesOneOf c.args.gate.now c.write_status.new.gate c.write_status.ensures.kept

pub returns-in-History-clause-crash : goal.returns-in-History-clause-crash
returns-in-History-clause-crash g c =
    kept_leaves g.B.Book.IsTrusted g.B.Book.Holds g.B.Book.LeavesOneOf c.args.gate.now c.write_history.new.gate c.write_history.ensures.kept
