use Rattle.std.proofs.Common.{refl}
use Rattle.gate_http.proofs.ConnectionLemmas.{uncalled}
use Rattle.gate_http.proofs.connections.serve_shared.Goals as goal

pub returns-in-Err : goal.returns-in-Err
returns-in-Err g c =
    record {
      gate =
          uncalled g.B.Book.IsTrusted g.B.Book.Holds g.B.Book.LeavesOneOf 1 c.args.gate.now c.args.gate.now refl;
    }
