use Rattle.std.proofs.Common.{ap, subst, ◌∙◌}
use Rattle.std.specs.Str.{bytes_eq}
use Rattle.mf_office.specs.Numbers.{IsNumberUpTo}
use Rattle.mf_office.specs.Written.{account_text}
use Rattle.mf_store_lists.specs.Finding.{is_number, number_of}
use Rattle.mf_store_lists.proofs.FindingLemmas.{number_told}
use Rattle.mf_store_lists.proofs.finding.number_in.Goals as goal

pub returns : goal.returns
returns c n low =
    ap (λ o. is_number o n) (c.number_of.ensures ∙ ap (λ x. number_of x c.parse-account.result) c.get.ensures.value)
    ∙ number_told c.as_bytes.result.now c.args.office n c.parse-account.result
    (subst (IsNumberUpTo 9999) c.get.ensures.value c.get.ensures.in_range) low c.parse-account.ensures.exact
    ∙ ap (λ t. bytes_eq t (account_text c.args.office n)) c.as_bytes.ensures.value
