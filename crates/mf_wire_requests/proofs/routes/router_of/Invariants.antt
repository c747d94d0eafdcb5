use Rattle.std.proofs.Common.{◌≡◌, true, map, take, drop}
use Rattle.mf_wire_requests.specs.Routes.{routes_of, takes_table}
use Rattle.mf_wire_requests.proofs.routes.router_of.Given as goal

abbrev pub invariant-loop-route : goal.invariant-loop-route
invariant-loop-route l = record {
  so_far : l.router ≡ routes_of (map (λ r. (r.0.now, r.1)) (take l.route-index l.table));
  rest : takes_table l.router (map (λ r. (r.0.now, r.1)) (drop l.route-index l.table)) ≡ true;
}
