use Rattle.std.proofs.Common.{arith, refl, sym}
use Rattle.gate_http.specs.Got.{get_head}
use Rattle.gate_http.proofs.GotLemmas.{got_read}
use Rattle.gate_http.proofs.getting.find.Goals as goal

pub returns : goal.returns
returns c =
    got_read c.args.path.now c.cut_query-path.result.now c.find_route.result c.read.result (omega arith)
    (sym c.if-not-is_target.ensures) c.cut_query-path.ensures
    c.find_route.ensures (c.read.ensures (get_head c.args.path.now) refl)
