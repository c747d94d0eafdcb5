-- Money texts: the units are the digits that the text begins with, so a text has one reading.
use Rattle.std.proofs.Common.{◌≡◌, ℕ, ◌+◌, ◌*◌, ◌/◌, ◌%◌, ◌<◌, ◌≤◌, suc, inl, inr, Bool, true, false, ◌&&◌, cond, List}
use Rattle.std.proofs.Common.{[], ◌∷◌, ◌++◌, take, drop, length, refl, arith, ap, sym, ◌∙◌}
use Rattle.std.specs.List.{prefix_len}
use Rattle.std.specs.Char.{is_ascii_digit}
use Rattle.std.specs.Fmt.{decimal}
use Rattle.std.specs.Str.{all_ascii_digits}
use Rattle.std.specs.Str.Parse.{digits_value}
use Rattle.std.proofs.Math.Seq.{take-append_seam, drop-append_seam}
use Rattle.std.proofs.lemmas.List.Sums.{prefix_len-le-length}
use Rattle.std.proofs.lemmas.List.{take-append-drop, length-take-le}
use Rattle.std.proofs.lemmas.Fmt.{digits_decimal, digits_value-decimal, decimal_nonempty, length-decimal-le}
use Rattle.mf_base.specs.DayText.{two_digits}
use Rattle.mf_base.specs.Money.{IsFraction, IsMoneyText, money_limit, money_text}
use Rattle.mf_base.proofs.DigitsLemmas.{own}

-- how many digits the text begins with
abbrev pub digits_first : List ℕ → ℕ
digits_first text = prefix_len is_ascii_digit text

taken-by : (b : Bool) (c n : ℕ) (text : List ℕ) → is_ascii_digit c ≡ b → all_ascii_digits (take n text) ≡ true
    → all_ascii_digits (take (cond b (1 + n) 0) (c ∷ text)) ≡ true
taken-by true c n text is rest = let next : 1 + n ≡ suc n = omega arith in rw (next, is, rest)
taken-by false c n text is rest = refl

pub digits_taken : (text : List ℕ) → all_ascii_digits (take (digits_first text) text) ≡ true
digits_taken [] = refl
digits_taken (c ∷ text) = taken-by (is_ascii_digit c) c (digits_first text) text refl (digits_taken text)

append-by : (b rest : Bool) (n m : ℕ) → (b && rest) ≡ true → (rest ≡ true → n ≡ m) → cond b (1 + n) 0 ≡ suc m
append-by true rest n m both step = omega (arith, step both)
append-by false rest n m both step = cc

-- digits, and then no digit
digits_first-append : (front back : List ℕ) → all_ascii_digits front ≡ true → digits_first back ≡ 0
    → digits_first (front ++ back) ≡ length front
digits_first-append [] back digits none = none
digits_first-append (c ∷ front) back digits none =
    append-by (is_ascii_digit c) (all_ascii_digits front) _ _ digits (λ rest. digits_first-append front back rest none)

no_digit_first : (back : List ℕ) (rest : ℕ) → IsFraction back rest → digits_first back ≡ 0
no_digit_first back rest (inl (is, _)) = rw is
no_digit_first back rest (inr (inl (tenths, _, is, _))) = rw is
no_digit_first back rest (inr (inr (_, is))) = rw is

-- the reading of a text that is cut into its first n digits and the rest
pub record IsRead (front back : List ℕ) (n cents : ℕ) : Type 0 where
  pub some : 1 ≤ n
  pub at_most : n ≤ 11
  pub rest : ℕ
  pub back_is : IsFraction back rest
  pub value : cents ≡ 100 * digits_value 10 front + rest
  pub limit : cents ≤ money_limit

pub IsRead-is : (text front back : List ℕ) (n cents : ℕ) → n ≡ digits_first text → front ≡ take n text
    → back ≡ drop n text → IsMoneyText text cents → IsRead front back n cents
IsRead-is text front back n cents first front_is back_is m =
    let cut = digits_first-append m.front m.back m.front_is.digits (no_digit_first m.back m.rest m.back_is) in
    let long : n ≡ length m.front = first ∙ ap digits_first m.parts ∙ cut in
    let same_front : front ≡ m.front = front_is ∙ rw (long, m.parts) (take-append_seam m.front m.back) in
    let same_back : back ≡ m.back = back_is ∙ rw (long, m.parts) (drop-append_seam m.front m.back) in
    record {
      some = omega (arith, m.front_is.some, long);
      at_most = omega (arith, m.front_is.at_most, long);
      rest = m.rest;
      back_is = rw same_back m.back_is;
      value = m.value ∙ omega (arith, m.front_is.value, ap (digits_value 10) same_front);
      limit = m.limit;
    }

pub IsMoneyText-is : (text front back : List ℕ) (n units rest cents : ℕ) → n ≡ digits_first text → front ≡ take n text
    → back ≡ drop n text → units ≡ digits_value 10 front → 1 ≤ n → n ≤ 11 → IsFraction back rest → cents ≡ 100 * units
    + rest → cents ≤ money_limit → IsMoneyText text cents
IsMoneyText-is text front back n units rest cents first front_is back_is units_is some at_most fraction value limit =
    let below = prefix_len-le-length is_ascii_digit text in
    let long : length front ≡ n = ap length front_is ∙ length-take-le n text (omega (arith, below, first)) in
    let digits : all_ascii_digits front ≡ true = rw (front_is, first) (digits_taken text) in
    record {
      front = front;
      back = back;
      units = units;
      rest = rest;
      parts = rw (front_is, back_is) (sym (take-append-drop n text));
      front_is = record {
        digits = digits;
        some = omega (arith, long, some);
        at_most = omega (arith, long, at_most);
        value = units_is;
      };
      back_is = fraction;
      value = value;
      limit = limit;
    }

-- what is written is read
pub money_text-is : (cents : ℕ) → cents ≤ money_limit → IsMoneyText (money_text cents) cents
money_text-is cents small =
    let units : cents / 100 < 100_000_000_000 = omega arith in
    record {
      front = decimal (cents / 100);
      back = 46 ∷ two_digits (cents % 100);
      units = cents / 100;
      rest = cents % 100;
      parts = refl;
      front_is = record {
        digits = digits_decimal own (cents / 100) (omega arith);
        some = decimal_nonempty (cents / 100) (omega arith);
        at_most = length-decimal-le 11 (cents / 100) (omega arith) units (omega arith);
        value = sym (digits_value-decimal own (cents / 100) (omega arith));
      };
      back_is = inr (inr (omega arith, refl));
      value = omega arith;
      limit = small;
    }
