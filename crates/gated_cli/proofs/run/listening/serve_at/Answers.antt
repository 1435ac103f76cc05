use Rattle.std.proofs.Common.{refl}
use Rattle.gate_http.proofs.ConnectionLemmas.{uncalled}
use Rattle.gated_cli.proofs.run.listening.serve_at.Goals as goal

pub returns-in_err-announce-clause-gate : goal.returns-in_err-announce-clause-gate
returns-in_err-announce-clause-gate g c =
    uncalled g.B.Book.IsTrusted g.B.Book.Holds g.B.Book.LeavesOneOf _ c.args.gate.now c.args.gate.now refl
