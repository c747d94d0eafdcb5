use Rattle.std.proofs.Common.{◌≡◌, ◌++◌, ◌∷◌, List, ℕ, ◌∙◌, ap, rules}
use Rattle.std.specs.Fmt.{styled_decimal}
use Rattle.mf_office.specs.Written.{zero_padded}
use Rattle.mf_office.specs.Texts.{IsAccount}
use Rattle.mf_office.proofs.ReadLemmas.{account_of-text, four_digits, six_digits}
use Rattle.mf_office.proofs.account.Account.text.Goals as goal

pub returns-clause-text : goal.returns-clause-text
returns-clause-text c =
    let office : styled_decimal c.laid_out.result c.get-office.result ≡ zero_padded 4 c.args.self.office =
    ap (λ s. styled_decimal s c.get-office.result) c.laid_out.ensures ∙ four_digits c.get-office.result
    ∙ ap (zero_padded 4) c.get-office.ensures.value in
    let number : styled_decimal c.laid_out-2.result c.get-number.result ≡ zero_padded 6 c.args.self.number =
    ap (λ s. styled_decimal s c.get-number.result) c.laid_out-2.ensures ∙ six_digits c.get-number.result
    ∙ ap (zero_padded 6) c.get-number.ensures.value in
    c.in_ok-text.ensures.ok
    ∙ ap (λ (t : List ℕ). t ++ (45 ∷ styled_decimal c.laid_out-2.result c.get-number.result)) office
    ∙ ap (λ (t : List ℕ). zero_padded 4 c.args.self.office ++ (45 ∷ t)) number

pub returns-clause-reads_back : goal.returns-clause-reads_back
returns-clause-reads_back c =
    let range : IsAccount c.args.self = search rules in
    account_of-text _ c.args.self range (returns-clause-text c)
