use Rattle.std.proofs.Common.{◌≡◌, ap, ◌∙◌}
use Rattle.std.specs.Fmt.{styled_decimal}
use Rattle.mf_office.specs.Written.{zero_padded}
use Rattle.mf_office.proofs.ReadLemmas.{four_digits}
use Rattle.mf_ledger.proofs.TextLemmas.{three_digits, four-parts}
use Rattle.mf_ledger.proofs.names.account_text.Goals as goal

pub returns-clause-text : goal.returns-clause-text
returns-clause-text c =
    let office : styled_decimal c.laid_out.result c.get-office.result ≡ zero_padded 4 c.args.account.now.office =
    ap (λ s. styled_decimal s c.get-office.result) c.laid_out.ensures ∙ four_digits c.get-office.result
    ∙ ap (zero_padded 4) c.get-office.ensures.value in
    let product : styled_decimal c.laid_out-2.result c.args.account.now.product
    ≡ zero_padded 3 c.args.account.now.product =
    ap (λ s. styled_decimal s c.args.account.now.product) c.laid_out-2.ensures
    ∙ three_digits c.args.account.now.product in
    c.in_ok-text.ensures.ok
    ∙ four-parts _ _ _ _ _ _ _ _ _ _ c.text-title.ensures c.before_office-before_office.ensures office
    c.before_product-before_product.ensures product
