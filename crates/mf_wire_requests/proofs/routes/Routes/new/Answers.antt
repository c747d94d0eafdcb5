use Rattle.std.proofs.Common.{◌≡◌, [], true, refl}
use Rattle.matchit.proofs.OnLiterals.{matchit_on_literals}
use Rattle.mf_wire_requests.specs.Routes.{with_route, takes_route, takes_table, desk_table, desk_routes}
use Rattle.mf_wire_requests.proofs.routes.Routes.new.Goals as goal

desk_fits : takes_table [] desk_table ≡ true
unfolding takes_route with_route matchit_on_literals
desk_fits = refl

pub router_of-requires : goal.router_of-requires
router_of-requires c = rw c.as_slice.ensures desk_fits

pub invariant_of-result : goal.invariant_of-result
unfolding desk_routes
invariant_of-result c = record { all = rw c.as_slice.ensures at c.in_ok-router.ensures.routes }
