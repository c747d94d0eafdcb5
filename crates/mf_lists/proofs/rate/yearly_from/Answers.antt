use Rattle.std.proofs.Common.{ℕ, ◌≡◌, ◌-◌, ◌^◌, arith, ap, ◌∙◌}
use Rattle.mf_base.specs.Rounding.{half_even}
use Rattle.mf_lists.specs.Rate.{trillion, yearly_from}
use Rattle.mf_lists.proofs.RateLemmas.{year-le, yearly_from-le, after_days-ge}
use Rattle.mf_lists.proofs.rate.yearly_from.Goals as goal

pub overflow_sub-grown : goal.overflow_sub-grown
overflow_sub-grown c =
    let year = year-le c.args.rate c.requires in
    let below = c.grown.ensures.below in
    omega (arith, year, below, c.grown.ensures.value (omega arith), after_days-ge c.args.rate 365 trillion)

pub overflow_cast-result : goal.overflow_cast-result
overflow_cast-result c =
    let year = year-le c.args.rate c.requires in
    let grown = c.grown.ensures.value (omega arith) in
    let value : c.half_even.result ≡ yearly_from c.args.rate =
    c.half_even.ensures.value ∙ ap (λ (x : ℕ). half_even (x - trillion) (10 ^ 8)) grown in
    omega (arith, value, yearly_from-le c.args.rate c.requires)

pub returns-clause-value : goal.returns-clause-value
returns-clause-value c =
    let year = year-le c.args.rate c.requires in
    let grown = c.grown.ensures.value (omega arith) in
    c.half_even.ensures.value ∙ ap (λ (x : ℕ). half_even (x - trillion) (10 ^ 8)) grown

pub returns-clause-small : goal.returns-clause-small
returns-clause-small c =
    let year = year-le c.args.rate c.requires in
    let grown = c.grown.ensures.value (omega arith) in
    let value : c.half_even.result ≡ yearly_from c.args.rate =
    c.half_even.ensures.value ∙ ap (λ (x : ℕ). half_even (x - trillion) (10 ^ 8)) grown in
    omega (arith, value, yearly_from-le c.args.rate c.requires)
