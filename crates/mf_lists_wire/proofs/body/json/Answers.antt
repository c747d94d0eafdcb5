use Rattle.std.proofs.Common.{◌≡◌, ◌<◌, ℕ, List, [], ◌∷◌, Bool, true, false, cond, Some, None, refl, inr, ◌∙◌, sym, ap}
use Rattle.std.proofs.Common.{arith, rules}
use Rattle.std.specs.Prelude.{IsUtf8, length}
use Rattle.std.specs.Str.{is_utf8}
use Rattle.std.proofs.lemmas.Str.{IsUtf8-from_is_utf8, is_utf8-from_IsUtf8}
use Rattle.serde_json.specs.Data.{Data}
use Rattle.serde_json.specs.Read.{read}
use Rattle.serde_json.proofs.OnLiterals.{serde_json_on_literals}
use Rattle.mf_wire_requests.specs.Bodies.{json_of}
use Rattle.mf_lists_wire.proofs.body.json.Goals as goal

tested : (bytes : List ℕ) (b : Bool) → is_utf8 bytes ≡ b → (IsUtf8 bytes → read bytes ≡ None) → cond b (read bytes) None
    ≡ None
tested bytes true e h = h (IsUtf8-from_is_utf8 bytes e)
tested bytes false e h = refl

no_json : (bytes : List ℕ) → (IsUtf8 bytes → read bytes ≡ None) → json_of bytes ≡ None
no_json bytes h = tested bytes (is_utf8 bytes) refl h

pub returns-in-Ok-clause-ok : goal.returns-in-Ok-clause-ok
returns-in-Ok-clause-ok c =
    let body = c.args.body.now in
    ap (λ b. cond b (read body) None) (is_utf8-from_IsUtf8 body c.in-Ok.ensures.ok.0) ∙ c.in-Ok.ensures.ok.1

pub returns-in-Err-2-clause-err : goal.returns-in-Err-2-clause-err
returns-in-Err-2-clause-err c = let none : IsUtf8 c.args.body.now → read c.args.body.now ≡ None =
    search rules in inr (refl, no_json c.args.body.now none)

nothing : read [] ≡ None
unfolding serde_json_on_literals
nothing = refl

some_bytes : (bytes : List ℕ) (value : Data) → read bytes ≡ Some value → 0 < length bytes
some_bytes [] value h = let none : Some value ≡ None = sym h ∙ nothing in absurd (cc)
some_bytes (b ∷ bs) value h = omega arith

pub returns-in-Ok-clause-some : goal.returns-in-Ok-clause-some
returns-in-Ok-clause-some c = some_bytes c.args.body.now _ c.in-Ok.ensures.ok.1
