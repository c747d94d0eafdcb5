use Rattle.std.proofs.Common.{◌≡◌, ℕ, List, chars, ap, sym, ◌∙◌, rules}
use Rattle.std.proofs.lemmas.Result.{IfOk-weaker}
use Rattle.std.proofs.lemmas.Str.{chars_from_encodes}
use Rattle.std.specs.Prelude.{encode_utf8_all}
use Rattle.caseless.specs.Caseless.{default_case_fold}
use Rattle.unicode_normalization.specs.Forms.{nfd}
use Rattle.mf_folding.proofs.caseless_text.Goals as goal

pub returns : goal.returns
returns c =
    let text = chars c.args.text.now in
    let first : nfd text ≡ chars c.as_str.result.now = search (rules, chars_from_encodes) in
    let second : default_case_fold (chars c.as_str.result.now) ≡ chars c.as_str-2.result.now =
    search (rules, chars_from_encodes) in
    IfOk-weaker c.to_nfd-2.result _ _
    (λ key is. is
    ∙ ap (λ (cs : List ℕ). encode_utf8_all (nfd cs)) (sym second ∙ ap default_case_fold (sym first)))
    c.to_nfd-2.ensures
