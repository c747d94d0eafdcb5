use Rattle.std.proofs.Common.{◌≡◌, ◌∙◌, ap, sym, ℕ, true, List}
use Rattle.std.specs.Char.{is_ascii}
use Rattle.std.specs.Fmt.{debug_str}
use Rattle.std.specs.List.{list_all}
use Rattle.std.specs.Option.{IfSome}
use Rattle.microloan_audit.specs.Quoted.{quoted}
use Rattle.microloan_audit.proofs.quoted.quoted.Goals as goal

-- an ASCII text is written in quotes
in_quotes : (text words : List ℕ) → list_all is_ascii text ≡ true → IfSome (debug_str text) (λ t. words ≡ t)
    → words ≡ quoted text
unfolding quoted
in_quotes text words ascii is = rw ascii (rw ascii at is)

pub returns-then-is_ascii-clause-text : goal.returns-then-is_ascii-clause-text
returns-then-is_ascii-clause-text c =
    let ascii : list_all is_ascii c.args.text.now ≡ true =
    ap (list_all is_ascii) (sym c.as_bytes.ensures.value) ∙ sym c.is_ascii.ensures ∙ c.if-is_ascii.true in
    in_quotes c.args.text.now _ ascii c.in_ok-words.ensures.ok
