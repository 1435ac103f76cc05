use Rattle.gate_http.proofs.ServingLemmas.{responds_delivered, responds_refused}
use Rattle.gate_http.proofs.gate.GateRespond.hear.Goals as goal

pub returns-in-Ok : goal.returns-in-Ok
returns-in-Ok g c =
    responds_delivered g.B.Book.IsTrusted g.B.Book.Holds g.B.Book.LeavesOneOf _ _ _ _ c.in-Ok.id c.in-Ok.delivery
    c.deliver.result c.in-Ok.ensures c.deliver.ensures.settings c.deliver.ensures.trusted c.deliver.ensures.answered

pub returns-in-Err : goal.returns-in-Err
returns-in-Err g c =
    responds_refused g.B.Book.IsTrusted g.B.Book.Holds g.B.Book.LeavesOneOf _ _ _ c.in-Err.refusal
    (λ s. g.met.B.Book.leaves_more _ s) c.in-Err.ensures
