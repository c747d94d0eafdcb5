use Rattle.std.proofs.Common.{◌≡◌, true, Option, Some, None, Result, Ok, Err, refl}
use Rattle.std.specs.Prelude.{IfErr, OnOk, is_none}
use Rattle.matchit.specs.Rows.{RowsOf}
use Rattle.matchit.specs.Route.{Scan, parse_route}
use Rattle.matchit.specs.Router.{RouteOf, InsertsRead, Refused, nearest}
use Rattle.matchit.specs.declared.error.InsertError.{InsertError}
use Rattle.matchit.specs.declared.error.InsertError.TheVariants.{Conflict, InvalidParam, InvalidParamSegment}
use Rattle.matchit.specs.declared.error.InsertError.TheVariants.{InvalidCatchAll, OutOfMemory}
use Rattle.mf_wire_requests.specs.declared.routes.Methods.{Methods}
use Rattle.mf_wire_requests.specs.Routes.{with_parsed, with_route, takes_parsed, takes_route}
use Rattle.mf_wire_requests.proofs.routes.add.Goals as goal

added : (p : Result Scan InsertError) (value : Methods) (old new : RowsOf (RouteOf Methods))
    (r : Result (Unit {0}) InsertError) → InsertsRead p value old new r → OnOk r (new ≡ with_parsed p value old)
added (Ok s) value old new (Ok u) h = h.1
added (Ok s) value old new (Err e) h = tt
added (Err e) value old new (Ok u) h = h.0
added (Err e) value old new (Err f) h = tt

-- a route that is taken conflicts with none
no_memory : (s : Scan) (old : RowsOf (RouteOf Methods)) (e : InsertError) → is_none (nearest s.pattern old) ≡ true
    → Refused s.pattern old e → e ≡ OutOfMemory
no_memory s old OutOfMemory t h = refl
no_memory s old (Conflict with) t h = absurd (never (nearest s.pattern old) t h.0 h.1)
  where
    never : (o : Option (RouteOf Methods)) → is_none o ≡ true → (n : RouteOf Methods) → o ≡ Some n → ⊥
    never None t n e = cc
    never (Some r) t n e = cc
no_memory s old InvalidParam t h = absurd h
no_memory s old InvalidParamSegment t h = absurd h
no_memory s old InvalidCatchAll t h = absurd h

refused : (p : Result Scan InsertError) (value : Methods) (old new : RowsOf (RouteOf Methods))
    (r : Result (Unit {0}) InsertError) → takes_parsed p old ≡ true → InsertsRead p value old new r
    → IfErr r (λ e. e ≡ OutOfMemory)
refused (Ok s) value old new (Ok u) t h = tt
refused (Ok s) value old new (Err e) t h = no_memory s old e t h.1
refused (Err e) value old new r t h = absurd (cc)

pub returns-clause-added : goal.returns-clause-added
unfolding with_route
returns-clause-added c = added (parse_route c.args.route.now.0.now) c.args.route.now.1 c.args.router.now
    c.insert.new.self c.insert.result c.insert.ensures

pub returns-clause-memory : goal.returns-clause-memory
unfolding takes_route
returns-clause-memory c = refused (parse_route c.args.route.now.0.now) c.args.route.now.1 c.args.router.now
    c.insert.new.self c.insert.result c.requires c.insert.ensures
