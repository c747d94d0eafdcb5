use Rattle.std.proofs.Common.{◌≡◌, true, sym, ◌∙◌, arith}
use Rattle.std.specs.Str.{all_ascii_digits}
use Rattle.mf_base.proofs.DigitsLemmas.{digits_test, value_of_nine}
use Rattle.mf_base.proofs.digits.parse_digits.Goals as goal

pub value_of_digits-requires-clause-digits : goal.value_of_digits-requires-clause-digits
value_of_digits-requires-clause-digits c =
    sym (digits_test c.args.text.now) ∙ (sym c.is_digits.ensures ∙ c.if-is_digits.true)

pub overflow_cast-result : goal.overflow_cast-result
overflow_cast-result c =
    let digits : all_ascii_digits c.args.text.now ≡ true =
    sym (digits_test c.args.text.now) ∙ (sym c.is_digits.ensures ∙ c.if-is_digits.true) in
    omega (arith, c.value_of_digits.ensures.value, value_of_nine c.args.text.now digits (omega arith))

pub returns-then-is_digits-clause-in_range : goal.returns-then-is_digits-clause-in_range
returns-then-is_digits-clause-in_range c =
    let digits : all_ascii_digits c.args.text.now ≡ true =
    sym (digits_test c.args.text.now) ∙ (sym c.is_digits.ensures ∙ c.if-is_digits.true) in
    omega (arith, c.value_of_digits.ensures.value, value_of_nine c.args.text.now digits (omega arith))
