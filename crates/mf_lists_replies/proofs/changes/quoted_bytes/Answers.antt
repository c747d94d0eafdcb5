use Rattle.std.proofs.Common.{◌≡◌, ℕ, Bool, true, false, List, ap, refl, subst, sym, ◌∙◌}
use Rattle.std.specs.Prelude.{IsUtf8}
use Rattle.std.specs.Str.{is_utf8}
use Rattle.std.proofs.lemmas.Bool.{cond-false, cond-true}
use Rattle.std.proofs.lemmas.Str.{IsUtf8-from_is_utf8, is_utf8-from_IsUtf8}
use Rattle.json.specs.Print.{quoted}
use Rattle.serde_json.specs.Data.{null, string}
use Rattle.serde_json.specs.Written.{compact_text}
use Rattle.serde_json.proofs.OnLiterals.{serde_json_on_literals}
use Rattle.mf_lists_replies.proofs.changes.quoted_bytes.Goals as goal

not_text : (bytes : List ℕ) (b : Bool) → is_utf8 bytes ≡ b → (IsUtf8 bytes → ⊥) → is_utf8 bytes ≡ false
not_text bytes true is never = absurd (never (IsUtf8-from_is_utf8 bytes is))
not_text bytes false is never = is

pub returns-in_ok-quoted_text-in-Ok-clause-ok : goal.returns-in_ok-quoted_text-in-Ok-clause-ok
unfolding serde_json_on_literals
returns-in_ok-quoted_text-in-Ok-clause-ok c =
    let bytes = c.args.bytes.now in
    c.in_ok-quoted_text-in-Ok.ensures ∙ ap quoted (c.in-Ok.ensures.cases.0 ∙ c.as_slice.ensures)
    ∙ sym (ap compact_text (cond-true (is_utf8 bytes) (string bytes) null
    (is_utf8-from_IsUtf8 bytes (subst IsUtf8 c.as_slice.ensures c.in-Ok.ensures.cases.1))))

pub returns-in_ok-from_str-in-Err-clause-ok : goal.returns-in_ok-from_str-in-Err-clause-ok
unfolding serde_json_on_literals
returns-in_ok-from_str-in-Err-clause-ok c =
    let bytes = c.args.bytes.now in
    c.in_ok-from_str-in-Err.ensures.ok
    ∙ sym (ap compact_text (cond-false (is_utf8 bytes) (string bytes) null (not_text bytes (is_utf8 bytes) refl
    (λ is. c.in-Err.ensures.cases.0 (subst IsUtf8 (sym c.as_slice.ensures) is)))))
