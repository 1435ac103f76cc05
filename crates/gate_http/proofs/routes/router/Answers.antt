use Rattle.gate_http.specs.Routes.{routes}
use Rattle.gate_http.proofs.routes.router.Goals as goal

pub returns : goal.returns
unfolding routes
returns c =
    rw (
      c.in_ok-router-11.ensures,
      c.in_ok-router-10.ensures,
      c.in_ok-router-9.ensures,
      c.in_ok-router-8.ensures,
      c.in_ok-router-7.ensures,
      c.in_ok-router-6.ensures,
      c.in_ok-router-5.ensures,
      c.in_ok-router-4.ensures,
      c.in_ok-router-3.ensures,
      c.in_ok-router-2.ensures,
      c.in_ok-router.ensures,
      c.new.ensures,
    ) at c.with_route-12.ensures
