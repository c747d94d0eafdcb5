use Rattle.std.proofs.Common.{arith}
use Rattle.mf_base.proofs.DigitsLemmas.{byte_of_digit, value-more}
use Rattle.mf_lists_wire.proofs.NumberLemmas.{value-below}
use Rattle.mf_lists_wire.proofs.paths.value_of.Goals as goal

pub overflow_mul-value : goal.overflow_mul-value
overflow_mul-value c =
    omega (
      arith,
      c.loop-digit.invariant,
      value-below c.args.digits.now c.loop-digit.digit-index c.requires.digits c.requires.short,
    )

pub overflow_sub-digit : goal.overflow_sub-digit
overflow_sub-digit c = (byte_of_digit c.args.digits.now c.loop-digit.digit-index c.requires.digits (omega arith)).0

pub overflow_add-value : goal.overflow_add-value
overflow_add-value c =
    omega (
      arith,
      c.from.ensures,
      c.loop-digit.invariant,
      byte_of_digit c.args.digits.now c.loop-digit.digit-index c.requires.digits (omega arith),
      value-below c.args.digits.now c.loop-digit.digit-index c.requires.digits c.requires.short,
    )

pub loop-digit-preserved : goal.loop-digit-preserved
loop-digit-preserved c =
    omega (
      arith,
      c.from.ensures,
      c.loop-digit.invariant,
      value-more c.args.digits.now c.loop-digit.digit-index c.requires.digits (omega arith),
    )
