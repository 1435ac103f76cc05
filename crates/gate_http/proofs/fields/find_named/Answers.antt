use Rattle.std.proofs.Common.{◌∙◌, sym}
use Rattle.gate_http.proofs.FieldLemmas.{several_found}
use Rattle.gate_http.proofs.fields.find_named.Goals as goal

pub returns-in_default : goal.returns-in_default
returns-in_default c =
    several_found c.args.head.now c.args.name.now c.args.headers.now c.loop-header.header-index _ c.loop-header.found
    c.loop-header-test.true
    (rw c.of.ensures at (sym c.same_name.ensures ∙ c.if-same_name.true)) c.in_default.not-None c.loop-header.invariant
