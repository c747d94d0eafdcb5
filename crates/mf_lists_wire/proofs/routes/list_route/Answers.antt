use Rattle.std.proofs.Common.{◌≡◌, Bool, true, false, cond, List, Option, None, refl, sym, ap, ◌∙◌}
use Rattle.std.specs.Prelude.{ℕ, IsUtf8, option_and_then, option_map}
use Rattle.std.specs.Str.{is_utf8}
use Rattle.std.proofs.lemmas.Bool.{cond-true}
use Rattle.std.proofs.lemmas.Str.{IsUtf8-from_is_utf8, is_utf8-from_IsUtf8}
use Rattle.mf_lists_wire.specs.ListRoutes.{list_route, route_behind}
use Rattle.mf_lists_wire.specs.Paths.{behind_lists}
use Rattle.mf_lists_wire.proofs.routes.list_route.Goals as goal

no_text : {R : Type 0} (path : List ℕ) (b : Bool) (r : Option R) → is_utf8 path ≡ b → (IsUtf8 path → ⊥)
    → cond b r None ≡ None
no_text path true r e h = absurd (h (IsUtf8-from_is_utf8 path e))
no_text path false r e h = refl

pub returns-in_default : goal.returns-in_default
returns-in_default c =
    let path = c.args.path.now in
    sym (no_text path (is_utf8 path) (option_and_then route_behind (behind_lists path)) refl
    c.in_default.ensures.cases.0)

pub returns : goal.returns
returns c =
    let path = c.args.path.now in
    c.route_in.ensures
    ∙ sym (cond-true (is_utf8 path) (option_and_then route_behind (behind_lists path)) None
    (is_utf8-from_IsUtf8 path c.in-Ok.ensures.cases.1))
