use Rattle.std.proofs.Common.{◌∙◌, sym, arith, Some}
use Rattle.httparse.specs.Spans.{IsRequestAt}
use Rattle.gate_http.proofs.RequestLemmas.{decided_few, decided_many, finds}
use Rattle.gate_http.proofs.request.decide.Goals as goal

pub returns-then-line_ends-gt-LINES : goal.returns-then-line_ends-gt-LINES
returns-then-line_ends-gt-LINES c =
    let f = finds c.args.head.now (λ spans h. IsRequestAt c.args.head.now c.parse-found.new.headers spans h)
    c.parse-found.result c.parse-found.ensures.found c.parse-found.ensures.none in
    (f.0, f.1, sym (decided_many c.args.head.now f.0 (omega arith)))

pub returns-in-Some : goal.returns-in-Some
returns-in-Some c =
    let h = c.in-Some.ensures.found in
    (Some h.0, h.2, c.ask.ensures h.0 h.1 ∙ sym (decided_few c.args.head.now (Some h.0) (omega arith)))
