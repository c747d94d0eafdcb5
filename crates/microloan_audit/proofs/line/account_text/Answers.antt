use Rattle.std.proofs.Common.{◌≡◌, ◌++◌, ◌∷◌, List, ℕ, ◌∙◌, ap}
use Rattle.std.specs.Fmt.{styled_decimal}
use Rattle.mf_office.specs.Written.{zero_padded}
use Rattle.mf_office.proofs.ReadLemmas.{four_digits, six_digits}
use Rattle.microloan_audit.proofs.line.account_text.Goals as goal

pub returns-clause-text : goal.returns-clause-text
returns-clause-text c =
    let office : styled_decimal c.laid_out.result c.args.office ≡ zero_padded 4 c.args.office =
    ap (λ s. styled_decimal s c.args.office) c.laid_out.ensures ∙ four_digits c.args.office in
    let number : styled_decimal c.laid_out-2.result c.args.number ≡ zero_padded 6 c.args.number =
    ap (λ s. styled_decimal s c.args.number) c.laid_out-2.ensures ∙ six_digits c.args.number in
    c.in_ok-text.ensures.ok
    ∙ ap (λ (t : List ℕ). t ++ (45 ∷ styled_decimal c.laid_out-2.result c.args.number)) office
    ∙ ap (λ (t : List ℕ). zero_padded 4 c.args.office ++ (45 ∷ t)) number
