-- What std writes of the numbers in a day's text.
use Rattle.std.proofs.Common.{◌≡◌, ℕ, ◌+◌, ◌/◌, ◌%◌, ◌<◌, ◌≤◌, [], ◌∷◌, ◌++◌, unsigned_abs, inl, inr, arith, ap, ◌∙◌}
use Rattle.std.specs.Fmt.{decimal, styled_decimal, format_spec, padded_integral, char_count}
use Rattle.std.proofs.lemmas.Fmt.{decimal_digit, decimal_step}
use Rattle.std.proofs.lemmas.Bool.{cases_lt}
use Rattle.jiff_core.specs.declared.civil.date.Date.{Date}
use Rattle.mf_base.specs.CivilDate.{date_from, IsSince2000}
use Rattle.mf_base.specs.DayText.{two_digits, date_text}
use Rattle.mf_base.proofs.CivilDateLemmas.{IsDate-since, year-below}
use Rattle.mf_base.proofs.DayTextLemmas.{IsShort-date}

decimal_two : (n : ℕ) → 10 ≤ n → n < 100 → decimal n ≡ two_digits n
decimal_two n low high = decimal_step n low (omega arith) ∙ ap (λ ds. ds ++ ((48 + n % 10) ∷ []))
    (decimal_digit (n / 10) (omega arith))

-- `{:02}` of a number below 100
pub padded_two : (n : ℕ) → n < 100 → styled_decimal (format_spec 32 0 4 2 18446744073709551615) n ≡ two_digits n
unfolding padded_integral char_count
padded_two n small =
    elim (cases_lt n 10) [
      | inl one ↦ let high : n / 10 ≡ 0 = omega arith in let low : n % 10 ≡ n =
          omega arith in rw (decimal_digit n one, high, low)
      | inr two ↦ rw (decimal_two n two small)
    ]

-- a year of four digits
pub decimal_four : (n : ℕ) → 1000 ≤ n → n < 10_000 → decimal n ≡ two_digits (n / 100) ++ two_digits (n % 100)
decimal_four n low high =
    let thousands : n / 10 / 10 ≡ n / 100 = omega arith in
    let tens : n / 10 % 10 ≡ n % 100 / 10 = omega arith in
    let ones : n % 10 ≡ n % 100 % 10 = omega arith in
    decimal_step n (omega arith) (omega arith)
    ∙ ap (λ ds. ds ++ ((48 + n % 10) ∷ [])) (decimal_step (n / 10) (omega arith) (omega arith)
    ∙ ap (λ ds. ds ++ ((48 + n / 10 % 10) ∷ [])) (ap decimal thousands ∙ decimal_two (n / 100) (omega arith)
    (omega arith)))
    ∙ rw (tens, ones)

-- the three numbers with dashes between them
pub written_date : (date : Date) → IsSince2000 date → decimal (unsigned_abs date.year) ++ 45
    ∷ (styled_decimal (format_spec 32 0 4 2 18446744073709551615) date.month ++ 45
    ∷ styled_decimal (format_spec 32 0 4 2 18446744073709551615) date.day) ≡ date_text (date_from date)
written_date date since =
    let is = IsDate-since date since in
    let short = IsShort-date (date_from date) is (year-below date) in
    rw (
      decimal_four (unsigned_abs date.year) (omega (arith, is.year)) short.year,
      padded_two date.month short.month,
      padded_two date.day short.day,
    )
