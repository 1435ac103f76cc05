use Rattle.gate_http.specs.Routes.{with_route}
use Rattle.gate_http.proofs.RouteLemmas.{placed_read}
use Rattle.gate_http.proofs.routes.with_route.Goals as goal

pub returns : goal.returns
unfolding with_route
returns c = placed_read _ _ _ _ c.in_ok-insert.ensures
