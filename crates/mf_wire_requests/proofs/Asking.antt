-- What a request asks, step by step.
use Rattle.std.proofs.Common.{◌≡◌, ◌⊎◌, inl, inr, ℕ, Bool, true, false, cond, List, [], Option, Some, None, Result, Ok}
use Rattle.std.proofs.Common.{Err, sym, ap, ◌∙◌, subst}
use Rattle.std.specs.Prelude.{◌<◌, IfOk, IfErr, length}
use Rattle.mf_base.specs.declared.fault.Fault.{Fault}
use Rattle.mf_base.specs.declared.fault.Fault.TheVariants.{F1, F20}
use Rattle.mf_model.specs.declared.request.Request.{Request}
use Rattle.mf_model.specs.declared.request.Request.TheVariants.{Unreadable}
use Rattle.mf_model.specs.declared.request.Flaw.{Flaw}
use Rattle.mf_model.specs.declared.request.Flaw.TheVariants.{Malformed, NoRoute}
use Rattle.mf_model.specs.Desk.{flaw_fault}
use Rattle.mf_wire_requests.specs.declared.routes.Methods.{Methods}
use Rattle.mf_wire_requests.specs.declared.routes.Endpoint.{Endpoint}
use Rattle.mf_wire_requests.specs.declared.request.Method.{Method}
use Rattle.matchit.specs.Router.{RouteOf}
use Rattle.matchit.specs.Params.{walk, AllText}
use Rattle.matchit.specs.Seek.{first}
use Rattle.matchit.specs.declared.params.Params.{Params}
use Rattle.matchit.specs.declared.router.Match.{Match}
use Rattle.std.specs.Borrow.{Bor}
use Rattle.std.specs.Char.{is_ascii}
use Rattle.std.specs.List.{list_all}
use Rattle.std.specs.Str.{is_utf8, IsAscii}
use Rattle.mf_wire_requests.specs.PathParts.{PathParts, parts_of_params}
use Rattle.mf_wire_requests.specs.Routes.{desk_routes, matched_route, route_at, parts_on}
use Rattle.mf_wire_requests.specs.Bodies.{Gives}
use Rattle.mf_wire_requests.specs.Requests.{method_of, endpoint_of, or_malformed, asked_at, asked_on, request_at}
use Rattle.mf_wire_requests.specs.Requests.{request_of, has_members, MayLackMemory}
use Rattle.mf_wire_requests.proofs.Matched.{ascii_bytes, walk_text, desk_text}

pub no_route : (method path body : List ℕ) → None ≡ route_at path → request_of method path body ≡ Unreadable NoRoute
unfolding request_of
no_route method path body e = ap (λ r. asked_on r method path body) (sym e)

pub on_route : (method path body : List ℕ) (route : RouteOf Methods) (named : Method) (end : Option Endpoint)
    → Some route ≡ route_at path → named ≡ method_of method → end ≡ endpoint_of route.value named
    → request_of method path body ≡ asked_at end (parts_on route path) body
unfolding request_of
on_route method path body route named end e m d =
    ap (λ r. asked_on r method path body) (sym e) ∙ ap (λ o. asked_at o (parts_on route path) body)
    (sym (d ∙ ap (endpoint_of route.value) m))

pub on_endpoint : (method path body : List ℕ) (route : RouteOf Methods) (named : Method) (endpoint : Endpoint)
    (parts : PathParts) → Some route ≡ route_at path → named ≡ method_of method → Some endpoint
    ≡ endpoint_of route.value named → parts_on route path ≡ parts → request_of method path body
    ≡ or_malformed (request_at endpoint parts body)
on_endpoint method path body route named endpoint parts e m d q =
    on_route method path body route named (Some endpoint) e m d ∙ ap (λ ps. or_malformed (request_at endpoint ps body))
    q

-- what the parameters of a route took
pub no_parts : (route : RouteOf Methods) (path : List ℕ) (p : Params) → list_all is_ascii path ≡ false
    → p.names.now ≡ [] → parts_on route path ≡ parts_of_params p
no_parts route path p a n =
    ap (λ b. cond b (walk route.pattern route.text path route.names 0 0) []) a
    ∙ sym (ap (λ names. walk p.pattern.now p.text.now p.path.now names 0 0) n)

pub all_parts : (m : Match (Bor Methods)) (path : List ℕ) → list_all is_ascii path ≡ true → m.params.path.now ≡ path
    → parts_on (matched_route m) path ≡ parts_of_params m.params
all_parts m path a e =
    ap (λ b. cond b (walk m.params.pattern.now m.params.text.now path m.params.names.now 0 0) []) a
    ∙ ap (λ p. walk m.params.pattern.now m.params.text.now p m.params.names.now 0 0) (sym e)

found_among : (b : Bool) (route : RouteOf Methods) (r : Option (RouteOf Methods)) → Some route ≡ cond b r None
    → r ≡ Some route
found_among true route r e = sym e
found_among false route r e = absurd (cc)

pub parts_text : (m : Match (Bor Methods)) (path : List ℕ) → list_all is_ascii path ≡ true → m.params.path.now ≡ path
    → Some (matched_route m) ≡ route_at path → AllText (parts_of_params m.params)
unfolding route_at
parts_text m path a e r =
    walk_text m.params.pattern.now m.params.text.now m.params.path.now m.params.names.now 0 0
    (desk_text path (matched_route m) (found_among (is_utf8 path) (matched_route m) (first desk_routes path) r))
    (subst IsAscii (sym e) (ascii_bytes path a))

-- a refusal is that of a line that reads as no request, or F20
abbrev pub IsFlawOf : Request → Fault → Type 0
IsFlawOf a f = (f ≡ F20) ⊎ ((flaw : Flaw) × (f ≡ flaw_fault flaw) × (a ≡ Unreadable flaw))

pub gives_ok : (body : List ℕ) (there : Option Request) (r : Result Request Fault) (a : Request)
    → a ≡ or_malformed there → Gives body there r → IfOk r (λ x. a ≡ x)
gives_ok body there (Ok x) a e h = e ∙ ap or_malformed h
gives_ok body there (Err f) a e h = tt

refused : (body : List ℕ) (there : Option Request) (f : Fault) (a : Request) → a ≡ or_malformed there
    → Gives {A = Request} body there (Err f) → IsFlawOf a f
refused body there f a e h = elim h [
  | inl g ↦ inl g.0
  | inr g ↦ inr (Malformed, g.0, e ∙ ap or_malformed g.1)
]

pub gives_err : (body : List ℕ) (there : Option Request) (r : Result Request Fault) (a : Request)
    → a ≡ or_malformed there → Gives body there r → IfErr r (IsFlawOf a)
gives_err body there (Ok x) a e h = tt
gives_err body there (Err f) a e h = refused body there f a e h

-- where memory was wanting, a body that isn't empty was read
lacked : (body : List ℕ) (there : Option Request) (f : Fault) → Gives {A = Request} body there (Err f) → f ≡ F20
    → 0 < length body
lacked body there f h is = elim h [
  | inl g ↦ g.1
  | inr g ↦ let same : F1 ≡ F20 = sym g.0 ∙ is in absurd (cc)
]

pub may_lack : (method path body : List ℕ) (route : RouteOf Methods) (named : Method) (endpoint : Endpoint)
    (there : Option Request) (r : Result Request Fault) → Some route ≡ route_at path → named ≡ method_of method
    → Some endpoint ≡ endpoint_of route.value named → Gives body there r
    → IfErr r (λ f. f ≡ F20 → has_members endpoint ≡ true)
    → IfErr r (λ f. f ≡ F20 → MayLackMemory method path body)
may_lack method path body route named endpoint there (Ok x) e m d g h = tt
may_lack method path body route named endpoint there (Err f) e m d g h = λ is. record {
  route = route;
  on_route = sym e;
  endpoint = endpoint;
  asked = sym (d ∙ ap (endpoint_of route.value) m);
  members = h is;
  some = lacked body there f g is;
}
