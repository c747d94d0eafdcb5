use Rattle.std.proofs.Common.{◌≡◌, ◌≢◌, ℕ, ◌+◌, ◌*◌, ◌/◌, ◌%◌, ◌<◌, inl, inr, List, Option, Some, None, IfSome, IsNone}
use Rattle.std.proofs.Common.{get_or, length, refl, arith, ap, sym, ◌∙◌}
use Rattle.mf_base.proofs.money.read_fraction.Goals as goal

-- the digit and a 0 after it
tenths_read : (r : Option ℕ) (digit tenths : ℕ) → IfSome r (λ n. (n < 100) × (digit ≡ 48 + n / 10) × (48 ≡ 48 + n % 10))
    → (IsNone r → (n : ℕ) → n < 100 → digit ≡ 48 + n / 10 → 48 ≢ 48 + n % 10) → tenths < 10 → digit ≡ 48 + tenths
    → r ≡ Some (10 * tenths)
tenths_read (Some n) digit tenths some none small is = ap Some (omega (arith, some.1, some.2, is))
tenths_read None digit tenths some none small is =
    absurd (none refl (10 * tenths) (omega arith) (omega arith) (omega arith))

pub returns-in-46-clause-every : goal.returns-in-46-clause-every
returns-in-46-clause-every c =
    λ cents is. elim is [
      | inl nothing ↦ absurd (omega (arith, ap length nothing.0))
      | inr (inl one) ↦ let digit = ap (λ (text : List ℕ). get_or text 1 0) one.2 in
          tenths_read c.read_two_digits.result _ one.0 c.read_two_digits.ensures.some c.read_two_digits.ensures.none
          one.1 digit ∙ ap Some (sym one.3)
      | inr (inr two) ↦ absurd (omega (arith, ap length two.1))
    ]
