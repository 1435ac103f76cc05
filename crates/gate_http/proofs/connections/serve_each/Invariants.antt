-- Each connection so far was at most one call and one fault.
use Rattle.gate_http.specs.Connections.{CalledOver}
use Rattle.gate_core.specs.Held.{Goes}
use Rattle.gate_http.proofs.ConnectionLemmas.{Tells}
use Rattle.gate_http.proofs.connections.serve_each.Given as goal

abbrev pub invariant-loop : goal.invariant-loop
invariant-loop g l = record {
  gate : Goes g.B.Book.IsTrusted g.B.Book.Holds l.fn.gate l.gate
      (CalledOver g.B.Book.LeavesOneOf l.counter l.fn.gate l.gate);
  told : Tells g.E.Write.contents l.counter l.fn.errors l.errors;
}
