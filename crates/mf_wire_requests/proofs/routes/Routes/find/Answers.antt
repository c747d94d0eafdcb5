use Rattle.std.proofs.Common.{◌≡◌, ℕ, List, Bool, true, false, cond, Option, None, refl, sym, ap, ◌∙◌}
use Rattle.std.specs.Prelude.{IsUtf8}
use Rattle.std.specs.Str.{is_utf8}
use Rattle.std.proofs.lemmas.Str.{IsUtf8-from_is_utf8, is_utf8-from_IsUtf8}
use Rattle.matchit.specs.Rows.{RowsOf}
use Rattle.matchit.specs.Router.{RouteOf}
use Rattle.matchit.specs.Seek.{first}
use Rattle.mf_wire_requests.specs.declared.routes.Methods.{Methods}
use Rattle.mf_wire_requests.specs.Routes.{desk_routes, route_at}
use Rattle.mf_wire_requests.proofs.routes.Routes.find.Goals as goal

no_text : (path : List ℕ) (b : Bool) (r : Option (RouteOf Methods)) → is_utf8 path ≡ b → (IsUtf8 path → ⊥)
    → cond b r None ≡ None
no_text path true r e h = absurd (h (IsUtf8-from_is_utf8 path e))
no_text path false r e h = refl

found_is : (path text : List ℕ) (router : RowsOf (RouteOf Methods)) (r : Option (RouteOf Methods)) → IsUtf8 path
    → text ≡ path → router ≡ desk_routes → first router text ≡ r → r ≡ route_at path
unfolding route_at
found_is path text router r u e d h =
    sym h ∙ ap (λ t. first router t) e ∙ ap (λ d. first d path) d
    ∙ ap (λ b. cond b (first desk_routes path) None) (sym (is_utf8-from_IsUtf8 path u))

pub returns-in_default-clause-route : goal.returns-in_default-clause-route
unfolding route_at
returns-in_default-clause-route c = let path =
    c.args.path.now in sym (no_text path (is_utf8 path) (first desk_routes path) refl c.in_default.ensures.cases.0)

pub returns-in-Ok-at-clause-route : goal.returns-in-Ok-at-clause-route
returns-in-Ok-at-clause-route c = found_is c.args.path.now c.in-Ok.path.now c.args.self.now.router _
    c.in-Ok.ensures.cases.1 c.in-Ok.ensures.cases.0 c.args.self.now.all c.in-Ok-at.ensures.found

pub returns-in-Err-clause-route : goal.returns-in-Err-clause-route
returns-in-Err-clause-route c = found_is c.args.path.now c.in-Ok.path.now c.args.self.now.router _
    c.in-Ok.ensures.cases.1 c.in-Ok.ensures.cases.0 c.args.self.now.all c.in-Err.ensures.missing
