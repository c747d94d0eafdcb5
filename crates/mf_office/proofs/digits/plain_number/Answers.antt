use Rattle.std.proofs.Common.{◌≢◌, ◌<◌, length, get_or, arith, sym}
use Rattle.std.proofs.lemmas.Bool.Decides.{nat_tests}
use Rattle.mf_office.proofs.WrittenLemmas.{digits_read, not_plain, plain_number_is}
use Rattle.mf_office.proofs.digits.plain_number.Goals as goal
use Rattle.mf_office.proofs.digits.plain_number.Goals.{then-is_empty-via-then-is_empty}
use Rattle.mf_office.proofs.digits.plain_number.Goals.{then-is_empty-via-else-is_empty+then-text-gt4}
use Rattle.mf_office.proofs.digits.plain_number.Goals.{then-is_empty-via-else-is_empty+else-text-gt4+then-text-eq48}

pub returns-then-is_empty : goal.returns-then-is_empty
returns-then-is_empty c = sym (not_plain c.args.text.now (λ p.
    let some = p.some in let short = p.short in let first = p.first in
    elim c.then-is_empty.branch [
      | then-is_empty-via-then-is_empty w ↦ grind (arith, nat_tests)
      | then-is_empty-via-else-is_empty+then-text-gt4 w ↦ omega arith
      | then-is_empty-via-else-is_empty+else-text-gt4+then-text-eq48 w ↦ omega arith
    ]))

pub returns : goal.returns
returns c =
    let some : 0 < length c.args.text.now = grind (arith, nat_tests) in
    let first : get_or c.args.text.now 0 0 ≢ 48 = c.if-text-eq48.false in
    plain_number_is c.args.text.now _ (digits_read c.args.text.now _ c.parse_digits.ensures.value (omega arith)
    (omega arith)) some (omega arith) first
