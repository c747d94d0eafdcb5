-- Digits and dashes, which stand in JSON and in a path as they are.
use Rattle.std.proofs.Common.{◌≡◌, ◌≢◌, ℕ, zero, suc, ◌+◌, ◌-◌, ◌/◌, ◌%◌, ◌<◌, ◌≤◌, ◌^◌, true, List, [], ◌∷◌}
use Rattle.std.proofs.Common.{◌++◌, length, refl, sym, ap₂, subst, arith, decimal}
use Rattle.std.specs.Prelude.{◌&&◌, replicate}
use Rattle.std.specs.Char.{is_ascii}
use Rattle.std.specs.List.{list_all}
use Rattle.std.proofs.lemmas.Bool.{lt-ltb}
use Rattle.std.proofs.lemmas.Fmt.{decimal_by_steps}
use Rattle.mf_base.specs.Calendar.{CalendarDate, date_of}
use Rattle.mf_base.specs.DayText.{date_text, day_text, two_digits, last_entered_day}
use Rattle.mf_base.proofs.CalendarLemmas.{IsDate-date_of}
use Rattle.mf_base.proofs.DayTextLemmas.{IsShort, IsShort-date, date_text-day, entered_year-date_of}
use Rattle.mf_office.specs.Texts.{IsAccount}
use Rattle.mf_office.specs.Written.{zero_padded, account_text}
use Rattle.mf_office.specs.declared.account.Account.{Account}

-- a digit or a dash
pub record IsFigure (x : ℕ) : Type 0 where
  pub from : 45 ≤ x
  pub below : x < 58
  pub other : x ≢ 47

-- each of them is one
abbrev pub AreFigures : List ℕ → Type 0
AreFigures [] = Unit {0}
AreFigures (x ∷ xs) = IsFigure x × AreFigures xs

pub figures-append : (xs ys : List ℕ) → AreFigures xs → AreFigures ys → AreFigures (xs ++ ys)
figures-append [] ys h k = k
figures-append (x ∷ xs) ys h k = (h.0, figures-append xs ys h.1 k)

digit : (d : ℕ) → d < 10 → IsFigure (48 + d)
digit d h = record { from = omega arith; below = omega arith; other = λ e. omega arith }

dash : IsFigure 45
dash = record { from = omega arith; below = omega arith; other = λ e. omega arith }

-- ---- numbers and accounts

zeros : (k : ℕ) → AreFigures (replicate k 48)
zeros zero = tt
zeros (suc k) = (digit 0 (omega arith), zeros k)

decimal_figures : (n : ℕ) → n < 2 ^ 64 → AreFigures (decimal n)
decimal_figures n h = decimal_by_steps (λ n ds. AreFigures ds) (λ n small. (digit n small, tt))
    (λ n ds big before. figures-append ds ((48 + n % 10) ∷ []) before (digit (n % 10) (omega arith), tt)) n h

padded_figures : (width n : ℕ) → n < 2 ^ 64 → AreFigures (zero_padded width n)
padded_figures width n h =
    figures-append (replicate (width - length (decimal n)) 48) (decimal n) (zeros (width - length (decimal n)))
    (decimal_figures n h)

pub account_figures : (a : Account) → IsAccount a → AreFigures (account_text a.office a.number)
account_figures a is = figures-append (zero_padded 4 a.office) (45 ∷ zero_padded 6 a.number)
    (padded_figures 4 a.office (omega (arith, is.0))) (dash, padded_figures 6 a.number (omega (arith, is.1)))

-- ---- days

two : (n : ℕ) → n < 100 → AreFigures (two_digits n)
two n h = (digit (n / 10) (omega arith), (digit (n % 10) (omega arith), tt))

date_figures : (date : CalendarDate) → IsShort date → AreFigures (date_text date)
date_figures date is =
    let year = is.year in
    let hundreds : date.year / 100 < 100 = omega arith in
    let rest : date.year % 100 < 100 = omega arith in
    let day : List ℕ = two_digits date.day in
    let month : List ℕ = two_digits date.month ++ 45 ∷ day in
    let months : AreFigures month = figures-append (two_digits date.month) (45 ∷ day) (two date.month is.month)
    (dash, two date.day is.day) in
    figures-append (two_digits (date.year / 100)) (two_digits (date.year % 100) ++ 45 ∷ month)
    (two (date.year / 100) hundreds)
    (figures-append (two_digits (date.year % 100)) (45 ∷ month) (two (date.year % 100) rest) (dash, months))

pub day_figures : (day : ℕ) → day ≤ last_entered_day → AreFigures (day_text day)
day_figures day h =
    let year = entered_year-date_of day h in
    subst AreFigures (sym (date_text-day day))
    (date_figures (date_of day) (IsShort-date (date_of day) (IsDate-date_of day) (omega (arith, year))))

-- ---- they are ASCII

pub figures_ascii : (xs : List ℕ) → AreFigures xs → list_all is_ascii xs ≡ true
figures_ascii [] h = refl
figures_ascii (x ∷ xs) h =
    let below = h.0.below in
    ap₂ (λ a b. a && b) (lt-ltb x 128 (omega arith)) (figures_ascii xs h.1)
