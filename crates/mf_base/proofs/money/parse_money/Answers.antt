use Rattle.std.proofs.Common.{◌≡◌, Some, refl, arith, ap}
use Rattle.std.specs.Char.{is_ascii_digit}
use Rattle.std.proofs.lemmas.List.Sums.{prefix_len-le-length}
use Rattle.mf_base.proofs.MoneyLemmas.{digits_taken, IsRead-is, IsMoneyText-is}
use Rattle.mf_base.proofs.money.parse_money.Goals as goal
use Rattle.mf_base.proofs.money.parse_money.Goals.{then-digits-eq0-via-then-digits-eq0}
use Rattle.mf_base.proofs.money.parse_money.Goals.{then-digits-eq0-via-else-digits-eq0+then-digits-gt11}

pub returns-then-digits-eq0-clause-every : goal.returns-then-digits-eq0-clause-every
returns-then-digits-eq0-clause-every c =
    λ cents m. let read = IsRead-is c.args.text.now _ _ c.count_digits-digits.result cents c.count_digits-digits.ensures
    refl refl m in
    absurd (elim c.then-digits-eq0.branch [
      | then-digits-eq0-via-then-digits-eq0 w ↦ omega (arith, read.some)
      | then-digits-eq0-via-else-digits-eq0+then-digits-gt11 w ↦ omega (arith, read.at_most)
    ])

pub split_at-requires : goal.split_at-requires
split_at-requires c = omega (arith, c.count_digits-digits.ensures, prefix_len-le-length is_ascii_digit c.args.text.now)

pub value_of_digits-requires-clause-digits : goal.value_of_digits-requires-clause-digits
value_of_digits-requires-clause-digits c =
    rw (c.split_at.ensures.front, c.count_digits-digits.ensures) (digits_taken c.args.text.now)

pub returns-in_err-read_fraction-clause-every : goal.returns-in_err-read_fraction-clause-every
returns-in_err-read_fraction-clause-every c =
    λ cents m. let read = IsRead-is c.args.text.now c.split_at.result.0.now c.split_at.result.1.now
    c.count_digits-digits.result cents c.count_digits-digits.ensures c.split_at.ensures.front
    c.split_at.ensures.back m in
    let no = c.in_err-read_fraction.ensures.every read.rest read.back_is in
    cc

pub returns-then-cents-le-MONEY_LIMIT-clause-some : goal.returns-then-cents-le-MONEY_LIMIT-clause-some
returns-then-cents-le-MONEY_LIMIT-clause-some c =
    IsMoneyText-is c.args.text.now c.split_at.result.0.now c.split_at.result.1.now c.count_digits-digits.result
    c.value_of_digits.result c.in_ok-read_fraction.field-0 _ c.count_digits-digits.ensures c.split_at.ensures.front
    c.split_at.ensures.back c.value_of_digits.ensures.value (omega arith)
    (omega arith) c.in_ok-read_fraction.ensures.some (omega (arith, c.from.ensures)) (omega arith)

pub returns-then-cents-le-MONEY_LIMIT-clause-every : goal.returns-then-cents-le-MONEY_LIMIT-clause-every
returns-then-cents-le-MONEY_LIMIT-clause-every c =
    λ cents m. let read = IsRead-is c.args.text.now c.split_at.result.0.now c.split_at.result.1.now
    c.count_digits-digits.result cents c.count_digits-digits.ensures c.split_at.ensures.front
    c.split_at.ensures.back m in
    let same = c.in_ok-read_fraction.ensures.every read.rest read.back_is in
    let rest : c.in_ok-read_fraction.field-0 ≡ read.rest = cc in
    ap Some (omega (arith, c.from.ensures, c.value_of_digits.ensures.value, rest, read.value))

pub returns-else-cents-le-MONEY_LIMIT-clause-every : goal.returns-else-cents-le-MONEY_LIMIT-clause-every
returns-else-cents-le-MONEY_LIMIT-clause-every c =
    λ cents m. let read = IsRead-is c.args.text.now c.split_at.result.0.now c.split_at.result.1.now
    c.count_digits-digits.result cents c.count_digits-digits.ensures c.split_at.ensures.front
    c.split_at.ensures.back m in
    let same = c.in_ok-read_fraction.ensures.every read.rest read.back_is in
    let rest : c.in_ok-read_fraction.field-0 ≡ read.rest = cc in
    absurd (omega (arith, c.from.ensures, c.value_of_digits.ensures.value, rest, read.value, read.limit))
