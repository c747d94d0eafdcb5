use Rattle.std.proofs.Common.{◌≡◌, chars, ap, sym, ◌∙◌, rules}
use Rattle.std.proofs.lemmas.Result.{IfOk-weaker}
use Rattle.std.proofs.lemmas.Str.{chars_from_encodes}
use Rattle.caseless.specs.Caseless.{canonical_key}
use Rattle.mf_folding.specs.Folding.{without_accents}
use Rattle.mf_folding.proofs.folded.Goals as goal

pub returns : goal.returns
returns c =
    let key : canonical_key (chars c.args.text.now) ≡ chars c.as_str.result.now =
    search (rules, chars_from_encodes) in
    IfOk-weaker c.without_accents.result _ _
    (λ kept is. is ∙ ap without_accents (c.as_slice.ensures.value ∙ c.in_ok-all.ensures ∙ sym key))
    c.without_accents.ensures
