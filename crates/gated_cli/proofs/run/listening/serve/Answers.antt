use Rattle.std.proofs.Common.{refl}
use Rattle.gate_http.proofs.ConnectionLemmas.{uncalled}
use Rattle.gated_cli.proofs.TalkLemmas.{none_so_far}
use Rattle.gated_cli.proofs.run.listening.serve.Goals as goal

pub returns-in_err-listener-clause-told : goal.returns-in_err-listener-clause-told
returns-in_err-listener-clause-told g c =
    none_so_far g.E.Write.contents c.args.count c.args.errors.now c.args.errors.now c.requires.teller refl

pub returns-in_err-listener-clause-gate : goal.returns-in_err-listener-clause-gate
returns-in_err-listener-clause-gate g c =
    uncalled g.B.Book.IsTrusted g.B.Book.Holds g.B.Book.LeavesOneOf _ c.args.gate.now c.args.gate.now refl
