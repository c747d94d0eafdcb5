use Rattle.std.proofs.Common.{rules, ◌≡◌, Some, None, ◌∙◌, arith}
use Rattle.mf_office.proofs.WrittenLemmas.{digits_read, not_padded, padded_other, padded_number_is}
use Rattle.mf_office.proofs.digits.padded_number.Goals as goal

pub returns-then-text-width : goal.returns-then-text-width
returns-then-text-width c = not_padded _ _ c.requires.some c.requires.few c.if-text-width.true

pub returns-in_err-number : goal.returns-in_err-number
returns-in_err-number c = let none : c.from_residual.result ≡ None = search rules in none ∙ padded_other _ _
    c.requires.few (digits_read c.args.text.now None c.in_err-number.ensures.value (omega arith) (omega arith))

pub returns-else-number-eq0 : goal.returns-else-number-eq0
returns-else-number-eq0 c =
    let read = digits_read c.args.text.now (Some c.in_ok-number.number) c.in_ok-number.ensures.value (omega arith)
    (omega arith) in
    padded_number_is _ _ _ c.requires.some c.requires.few c.if-text-width.false read.0 read.1 c.if-number-eq0.false
