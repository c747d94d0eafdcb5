-- A text is the amount that its digits and cents write.
use Rattle.std.proofs.Common.{◌≡◌, ℕ, ◌+◌, ◌-◌, ◌*◌, ◌/◌, ◌%◌, ◌<◌, ◌≤◌, true, List, [], ◌∷◌, take, drop, Option, Some}
use Rattle.std.proofs.Common.{None, inl, inr, refl, sym, ap, ◌∙◌, arith}
use Rattle.std.specs.Prelude.{◌==◌, nat_le, IfSome}
use Rattle.std.specs.List.{prefix_len}
use Rattle.std.specs.Char.{is_ascii_digit}
use Rattle.std.specs.Str.Parse.{digits_value}
use Rattle.std.proofs.lemmas.Bool.{and_parts, le-leb, leb-true}
use Rattle.std.proofs.lemmas.Bool.Decides.{nat_tests}
use Rattle.mf_base.specs.Money.{IsFraction, IsMoneyText, money_limit}
use Rattle.mf_base.proofs.MoneyLemmas.{IsRead-is, IsMoneyText-is}
use Rattle.mf_sheet_lines.specs.Fields.{cents_after, cents_by, cents_written, up_to_limit}
use Rattle.mf_sheet_lines.proofs.Tests.{passed, after_two, nothing}

digit_is : (byte : ℕ) → is_ascii_digit byte ≡ true → (48 ≤ byte) × (byte ≤ 57)
digit_is byte digit = (grind (arith, nat_tests), grind (arith, nat_tests))

is_digit : (n : ℕ) → n < 10 → is_ascii_digit (48 + n) ≡ true
is_digit n small = grind (arith, nat_tests)

point_is : (byte : ℕ) → (byte == 46) ≡ true → byte ≡ 46
point_is byte same = grind (arith, nat_tests)

-- cents that were read are those of the text
fraction_is : (back : List ℕ) (rest : ℕ) → cents_after back ≡ Some rest → IsFraction back rest
fraction_is [] rest is = let zero_cents : rest ≡ 0 = sym (cc) in inl (refl, zero_cents)
fraction_is (p ∷ []) rest is = absurd (cc)
fraction_is (p ∷ t ∷ []) rest is =
    let read = passed _ _ rest is in
    let tests = and_parts _ _ read.0 in
    let point = point_is p tests.0 in
    let digit = digit_is t tests.1 in
    let value : 10 * (t - 48) ≡ rest = cc in
    let tenths : t ≡ 48 + (t - 48) = omega arith in
    inr (inl (t - 48, omega arith, ap (λ (a : ℕ). a ∷ t ∷ []) point ∙ ap (λ (a : ℕ). 46 ∷ a ∷ []) tenths, sym value))
fraction_is (p ∷ t ∷ o ∷ []) rest is =
    let read = passed _ _ rest is in
    let tests = and_parts _ _ read.0 in
    let marks = and_parts _ _ tests.0 in
    let point = point_is p marks.0 in
    let tens = digit_is t marks.1 in
    let ones = digit_is o tests.1 in
    let value : 10 * (t - 48) + (o - 48) ≡ rest = cc in
    let first : t ≡ 48 + rest / 10 = omega arith in
    let second : o ≡ 48 + rest % 10 = omega arith in
    inr (inr (
      omega arith,
      ap (λ (a : ℕ). a ∷ t ∷ o ∷ []) point ∙ ap (λ (a : ℕ). 46 ∷ a ∷ o ∷ []) first
          ∙ ap (λ (a : ℕ). 46 ∷ (48 + rest / 10) ∷ a ∷ []) second,
    ))
fraction_is (p ∷ t ∷ o ∷ m ∷ more) rest is = absurd (cc)

-- and cents of the text are read
is_fraction : (back : List ℕ) (rest : ℕ) → IsFraction back rest → cents_after back ≡ Some rest
is_fraction back rest (inl (is, none)) = rw is (ap Some (sym none))
is_fraction back rest (inr (inl (tenths, small, is, value))) =
    let same : 10 * ((48 + tenths) - 48) ≡ rest = omega (arith, value) in
    rw (is, is_digit tenths small) (ap Some same)
is_fraction back rest (inr (inr (small, is))) =
    let same : 10 * ((48 + rest / 10) - 48) + ((48 + rest % 10) - 48) ≡ rest = omega arith in
    rw (is, is_digit (rest / 10) (omega arith), is_digit (rest % 10) (omega arith)) (ap Some same)

in_limit : (cents c : ℕ) → up_to_limit cents ≡ Some c → (cents ≤ money_limit) × (c ≡ cents)
in_limit cents c is =
    let read = passed (nat_le cents money_limit) (Some cents) c is in
    let same : c ≡ cents = cc in
    (leb-true cents money_limit read.0, same)

-- what is read is what the text stands for
read_is : (text : List ℕ) (n c : ℕ) → n ≡ prefix_len is_ascii_digit text → cents_by n text ≡ Some c → IsMoneyText text c
read_is text n c first is =
    let read = passed _ _ c is in
    let tests = and_parts _ _ read.0 in
    let sum = after_two _ (cents_after (drop n text)) c read.1 in
    let limit = in_limit _ c sum.2 in
    IsMoneyText-is text (take n text) (drop n text) n (digits_value 10 (take n text)) sum.0 c first refl refl refl
    (leb-true 1 n tests.0) (leb-true n 11 tests.1) (fraction_is (drop n text) sum.0 sum.1) limit.1
    (omega (arith, limit.0, limit.1))

is_read : (text : List ℕ) (n c : ℕ) → n ≡ prefix_len is_ascii_digit text → IsMoneyText text c → cents_by n text ≡ Some c
is_read text n c first m =
    let read = IsRead-is text (take n text) (drop n text) n c first refl refl m in
    rw (
      le-leb 1 n read.some,
      le-leb n 11 read.at_most,
      is_fraction (drop n text) read.rest read.back_is,
      ← read.value,
      le-leb c money_limit read.limit,
    ) refl

pub cents_written_is : (text : List ℕ) (r : Option ℕ) → IfSome r (IsMoneyText text)
    → ((cents : ℕ) → IsMoneyText text cents → r ≡ Some cents) → r ≡ cents_written text
unfolding cents_written
cents_written_is text (Some c) some every = sym (is_read text _ c refl some)
cents_written_is text None some every = sym (nothing _ (λ c is. let no = every c (read_is text _ c refl is) in cc))

-- so what is read is at most what may be entered
pub cents_range : (text : List ℕ) → IfSome (cents_written text) (λ cents. cents ≤ money_limit)
unfolding cents_written
cents_range text = step (cents_by (prefix_len is_ascii_digit text) text) refl
  where
    step : (o : Option ℕ) → cents_by (prefix_len is_ascii_digit text) text ≡ o → IfSome o (λ cents. cents ≤ money_limit)
    step None e = tt
    step (Some c) e = (IsRead-is text (take (prefix_len is_ascii_digit text) text)
        (drop (prefix_len is_ascii_digit text) text) (prefix_len is_ascii_digit text) c refl refl refl
        (read_is text (prefix_len is_ascii_digit text) c refl e)).limit
