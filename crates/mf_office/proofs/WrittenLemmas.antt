-- Numbers written in digits: what is read was written, and what was written is read.
use Rattle.std.proofs.Common.{◌≡◌, ◌≢◌, ℕ, zero, suc, ◌+◌, ◌-◌, ◌*◌, ◌^◌, ◌<◌, ◌≤◌, Bool, true, false, cond, not, List}
use Rattle.std.proofs.Common.{[], ◌∷◌, ◌++◌, length, get_or, take, drop, Option, Some, None, refl, sym, ap, ◌∙◌, subst}
use Rattle.std.proofs.Common.{arith, lit<}
use Rattle.std.specs.Prelude.{◌==◌, ◌&&◌, decimal, replicate, nat_le, SomeIff, if◌then◌else◌}
use Rattle.std.specs.Char.{digit_value, is_ascii_digit}
use Rattle.std.specs.Str.{bytes_eq}
use Rattle.std.specs.Str.Parse.{AllDigits, digits_value, digits_value_after}
use Rattle.std.specs.List.{before_first, after_first, position_or_len, list_all}
use Rattle.std.proofs.Math.Seq.{take-append_seam, drop-append-add}
use Rattle.std.proofs.Math.Nat.{pow-le-pow_right, one-le-pow}
use Rattle.std.proofs.lemmas.Bool.Decides.{nat_tests}
use Rattle.std.proofs.lemmas.Fmt.{decimal_is_IsNumeral, decimal_digit, length-decimal-le, decimal_nonempty}
use Rattle.std.proofs.lemmas.Fmt.{first_decimal, decimal-digits_value}
use Rattle.std.proofs.lemmas.Int.Digits.{digits_value-lt}
use Rattle.std.proofs.lemmas.List.{length-drop}
use Rattle.std.proofs.lemmas.List.Sums.{split_at_first, passes_at_first}
use Rattle.std.proofs.lemmas.Slice.Eq.{bytes_eq-Decides}
use Rattle.std.proofs.lemmas.Str.Parse.{IsNumeralModel, numerals_by_value, tells_digits, digits_value_short}
use Rattle.std.proofs.lemmas.Str.Parse.{digit_from_value}
use Rattle.std.proofs.lemmas.Str.{digit_value_digit}
use Rattle.mf_base.specs.Digits.{number_of_digits}
use Rattle.mf_base.proofs.DigitsLemmas.{own as digits_own, digits_test}
use Rattle.mf_office.specs.Numbers.{IsNumberUpTo, is_number_up_to}
use Rattle.mf_office.specs.Written.{zero_padded, number_written}

own : IsNumeralModel (AllDigits 10) (digits_value 10)
own = numerals_by_value (AllDigits 10) tells_digits

-- each number up to the limit is written in digits, and they are its own
pub record IsWriting (text_of : ℕ → List ℕ) (limit : ℕ) : Type 0 where
  pub digits : (n : ℕ) → IsNumberUpTo limit n → AllDigits 10 (text_of n)
  pub value : (n : ℕ) → IsNumberUpTo limit n → digits_value 10 (text_of n) ≡ n

in_range_test : (limit n : ℕ) → IsNumberUpTo limit n → is_number_up_to limit n ≡ true
in_range_test limit n r = let low = r.0 in let high = r.1 in grind (arith, nat_tests)

-- what is read was written
pub written_is : (text_of : ℕ → List ℕ) (limit : ℕ) (text : List ℕ) (n : ℕ) → number_written text_of limit text ≡ Some n
    → IsNumberUpTo limit n × (text ≡ text_of n)
written_is text_of limit text n h =
    step (digits_value 10 text) (is_number_up_to limit (digits_value 10 text))
    (bytes_eq text (text_of (digits_value 10 text))) refl refl h
  where
    step : (v : ℕ) (r b : Bool) → is_number_up_to limit v ≡ r → bytes_eq text (text_of v) ≡ b
        → (if (r && b) then Some v else None) ≡ Some n → IsNumberUpTo limit n × (text ≡ text_of n)
    step v true true p q e =
        let same : v ≡ n = cc in
        let low : 1 ≤ v = grind (arith, nat_tests) in
        let high : v ≤ limit = grind (arith, nat_tests) in
        ((omega arith, omega arith), (bytes_eq-Decides text (text_of v)).0 q ∙ ap text_of same)
    step v true false p q e = absurd (cc)
    step v false b p q e = absurd (cc)

-- what was written is read
pub written_of : (text_of : ℕ → List ℕ) (limit : ℕ) (text : List ℕ) (n : ℕ) → IsWriting text_of limit
    → IsNumberUpTo limit n → text ≡ text_of n → number_written text_of limit text ≡ Some n
written_of text_of limit text n w r e = ap (number_written text_of limit) e ∙ step (digits_value 10 (text_of n))
    (w.value n r)
  where
    step : (v : ℕ) → v ≡ n → (if (is_number_up_to limit v && bytes_eq (text_of n) (text_of v)) then Some v else None)
        ≡ Some n
    step v same =
        ap (λ (k : ℕ). if (is_number_up_to limit k && bytes_eq (text_of n) (text_of k)) then Some k else None) same
        ∙ ap (λ b. if (b && bytes_eq (text_of n) (text_of n)) then Some n else None) (in_range_test limit n r)
        ∙ ap (λ b. if b then Some n else None) ((bytes_eq-Decides (text_of n) (text_of n)).1 refl)

-- what nobody wrote is not read
pub written_none : (text_of : ℕ → List ℕ) (limit : ℕ) (text : List ℕ) → ((n : ℕ) → IsNumberUpTo limit n
    → text ≡ text_of n → ⊥) → number_written text_of limit text ≡ None
written_none text_of limit text none = step (number_written text_of limit text) refl
  where
    step : (o : Option ℕ) → number_written text_of limit text ≡ o → number_written text_of limit text ≡ None
    step None e = e
    step (Some n) e = let w = written_is text_of limit text n e in absurd (none n w.0 w.1)

written_empty : (text_of : ℕ → List ℕ) (limit n : ℕ) → number_written text_of limit [] ≡ Some n → ⊥
written_empty text_of limit n e = cc

-- without leading zeros
pub decimal_writing : IsWriting decimal 9999
decimal_writing = record {
  digits = λ n r. (decimal_is_IsNumeral n (wide n r)).0.1;
  value = λ n r. (decimal_is_IsNumeral n (wide n r)).1;
}
  where
    wide : (n : ℕ) → IsNumberUpTo 9999 n → n < 2 ^ 64
    wide n r = omega arith

pub record IsPlain (text : List ℕ) : Type 0 where
  pub some : 0 < length text
  pub short : length text ≤ 4
  pub first : 48 < get_or text 0 0

pub decimal_plain : (n : ℕ) → IsNumberUpTo 9999 n → IsPlain (decimal n)
decimal_plain n r =
    let wide : n < 2 ^ 64 = omega arith in
    record {
      some = decimal_nonempty n wide;
      short = length-decimal-le 4 n (omega arith) (omega arith) wide;
      first = first_decimal n (omega arith) wide;
    }

pub not_plain : (text : List ℕ) → (IsPlain text → ⊥) → number_written decimal 9999 text ≡ None
not_plain text other = written_none decimal 9999 text (λ n r e. other (subst IsPlain (sym e) (decimal_plain n r)))

pub plain_number_is : (text : List ℕ) (r : Option ℕ) → SomeIff r (AllDigits 10 text) (digits_value 10 text)
    → 0 < length text → length text ≤ 4 → get_or text 0 0 ≢ 48 → r ≡ number_written decimal 9999 text
plain_number_is text None other some short first =
    sym (written_none decimal 9999 text (λ n r e. other (subst (AllDigits 10) (sym e) (decimal_writing.digits n r))))
plain_number_is text (Some v) read some short first =
    let small : digits_value 10 text < 10 ^ 4 = digits_value_short own text 4 read.0 short in
    let back : decimal (digits_value 10 text) ≡ text =
    decimal-digits_value own text read.0 some (λ z. absurd (first z)) (omega arith) in
    let zero_no : digits_value 10 text ≢ 0 =
    λ z. first (ap (λ t. get_or t 0 0) (sym back ∙ ap decimal z ∙ decimal_digit 0 (lit< tt))) in
    ap Some read.1 ∙ sym (written_of decimal 9999 text (digits_value 10 text) decimal_writing (omega arith, omega arith)
    (sym back))

-- with leading zeros
zeros_digits : (k : ℕ) (text : List ℕ) → AllDigits 10 text → AllDigits 10 (replicate k 48 ++ text)
zeros_digits zero text h = h
zeros_digits (suc k) text h = (lit< tt, zeros_digits k text h)

zeros_value : (k : ℕ) (text : List ℕ) → digits_value 10 (replicate k 48 ++ text) ≡ digits_value 10 text
zeros_value zero text = refl
zeros_value (suc k) text = zeros_value k text

pub zero_padded_writing : (width limit : ℕ) → limit < 2 ^ 64 → IsWriting (zero_padded width) limit
zero_padded_writing width limit small = record {
  digits = λ n r. zeros_digits (width - length (decimal n)) (decimal n) (decimal_is_IsNumeral n (wide n r)).0.1;
  value = λ n r. zeros_value (width - length (decimal n)) (decimal n) ∙ (decimal_is_IsNumeral n (wide n r)).1;
}
  where
    wide : (n : ℕ) → IsNumberUpTo limit n → n < 2 ^ 64
    wide n r = omega arith

length_zeros : (k : ℕ) (text : List ℕ) → length (replicate k 48 ++ text) ≡ k + length text
length_zeros zero text = omega arith
length_zeros (suc k) text = let h = length_zeros k text in omega arith

pub length-zero_padded : (width n : ℕ) → 0 < width → n < 10 ^ width → n < 2 ^ 64 → length (zero_padded width n) ≡ width
length-zero_padded width n some fits small =
    let short : length (decimal n) ≤ width = length-decimal-le width n some fits small in
    length_zeros (width - length (decimal n)) (decimal n) ∙ omega arith

zero_padded_step : (width v : ℕ) → length (decimal v) ≤ width → zero_padded (width + 1) v ≡ 48 ∷ zero_padded width v
zero_padded_step width v short = ap (λ k. replicate k 48 ++ decimal v) count
  where
    count : (width + 1) - length (decimal v) ≡ suc (width - length (decimal v))
    count = omega arith

zero_padded_first : (d : ℕ) (rest : List ℕ) (b : Bool) → (d == 48) ≡ b → AllDigits 10 (d ∷ rest) → 0 < length rest
    → length rest < 6 → zero_padded (length rest) (digits_value 10 rest) ≡ rest → zero_padded (length (d ∷ rest))
    (digits_value 10 (d ∷ rest)) ≡ d ∷ rest
zero_padded_first d rest true is h some short ih =
    let zero_first : d ≡ 48 = grind (arith, nat_tests) in
    let v : digits_value 10 (d ∷ rest) ≡ digits_value 10 rest =
    ap (λ (x : ℕ). digits_value_after 10 (0 * 10 + digit_value x) rest) zero_first in
    let small : digits_value 10 rest < 10 ^ length rest = digits_value-lt 10 rest h.1 in
    let wide : digits_value 10 rest < 10 ^ 6 = digits_value_short own rest 6 h.1 (omega arith) in
    let len : length (decimal (digits_value 10 rest)) ≤ length rest =
    length-decimal-le (length rest) (digits_value 10 rest) (omega arith) small (omega arith) in
    ap (zero_padded (length (d ∷ rest))) v
    ∙ ap (λ (k : ℕ). zero_padded k (digits_value 10 rest)) (omega arith)
    ∙ zero_padded_step (length rest) (digits_value 10 rest) len
    ∙ ap (λ t. 48 ∷ t) ih
    ∙ ap (λ (x : ℕ). x ∷ rest) (sym zero_first)
zero_padded_first d rest false is h some short ih =
    let other : d ≢ 48 = grind (arith, nat_tests) in
    let wide : digits_value 10 (d ∷ rest) < 10 ^ 6 = digits_value_short own (d ∷ rest) 6 h (omega arith) in
    let back : decimal (digits_value 10 (d ∷ rest)) ≡ d ∷ rest =
    decimal-digits_value own (d ∷ rest) h (omega arith) (λ z. absurd (other z)) (omega arith) in
    let none : length (d ∷ rest) - length (d ∷ rest) ≡ 0 = omega arith in
    ap (λ (t : List ℕ). replicate (length (d ∷ rest) - length t) 48 ++ t) back
    ∙ ap (λ (k : ℕ). replicate k 48 ++ (d ∷ rest)) none

pub zero_padded-digits_value : (text : List ℕ) → AllDigits 10 text → 0 < length text → length text ≤ 6
    → zero_padded (length text) (digits_value 10 text) ≡ text
zero_padded-digits_value [] h some short = absurd (omega arith)
zero_padded-digits_value (d ∷ []) h some short =
    let one : decimal (digit_value d) ≡ (48 + digit_value d) ∷ [] = decimal_digit (digit_value d) h.0 in
    let back : digit_value d + 48 ≡ d = digit_value_digit d (digit_from_value d h.0) in
    let v : digits_value 10 (d ∷ []) ≡ digit_value d = omega arith in
    ap (zero_padded 1) v ∙ ap (λ t. replicate (1 - length t) 48 ++ t) one ∙ ap (λ x. x ∷ []) (omega arith)
zero_padded-digits_value (d ∷ e ∷ text) h some short =
    zero_padded_first d (e ∷ text) (d == 48) refl h (omega arith) (omega arith)
    (zero_padded-digits_value (e ∷ text) h.1 (omega arith) (omega arith))

power_bounds : (width : ℕ) → width ≤ 6 → (1 ≤ 10 ^ width) × (10 ^ width ≤ 10 ^ 6)
power_bounds width few = (one-le-pow width 10 (lit< tt), pow-le-pow_right {n = 10} (lit< tt) few)

pub not_padded : (width : ℕ) (text : List ℕ) → 1 ≤ width → width ≤ 6 → length text ≢ width
    → None ≡ number_written (zero_padded width) (10 ^ width - 1) text
not_padded width text some few other =
    let bounds = power_bounds width few in
    sym (written_none (zero_padded width) (10 ^ width - 1) text
    (λ n r e. other (ap (λ t. length t) e ∙ length-zero_padded width n some (omega arith) (omega arith))))

pub padded_other : (width : ℕ) (text : List ℕ) → width ≤ 6 → (AllDigits 10 text → ⊥)
    → None ≡ number_written (zero_padded width) (10 ^ width - 1) text
padded_other width text few other =
    let bounds = power_bounds width few in
    sym (written_none (zero_padded width) (10 ^ width - 1) text
    (λ n r e. other (subst (AllDigits 10) (sym e) ((zero_padded_writing width (10 ^ width - 1) (omega arith)).digits n
    r))))

pub padded_number_is : (width : ℕ) (text : List ℕ) (v : ℕ) → 1 ≤ width → width ≤ 6 → length text ≡ width
    → AllDigits 10 text → v ≡ digits_value 10 text → v ≢ 0 → Some v ≡ number_written (zero_padded width)
    (10 ^ width - 1) text
padded_number_is width text v some few len digits value other =
    let bounds = power_bounds width few in
    let limit = 10 ^ width - 1 in
    let below : digits_value 10 text < 10 ^ length text = digits_value-lt 10 text digits in
    let same : 10 ^ length text ≡ 10 ^ width = ap (λ (w : ℕ). 10 ^ w) len in
    let back : text ≡ zero_padded width v = sym (zero_padded-digits_value text digits (omega arith) (omega arith))
    ∙ ap (λ (w : ℕ). zero_padded w (digits_value 10 text)) len ∙ ap (zero_padded width) (sym value) in
    sym (written_of (zero_padded width) limit text v (zero_padded_writing width limit (omega arith))
    (omega arith, omega arith) back)

-- round a separator, which is no digit
position_after : (s : ℕ) (a b : List ℕ) → AllDigits 10 a → 10 ≤ digit_value s → position_or_len (λ c. c == s)
    (a ++ (s ∷ b)) ≡ length a
position_after s [] b h not_digit = grind (arith, nat_tests)
position_after s (d ∷ a) b h not_digit =
    let other : d ≢ s =
    λ e. absurd (let v : digit_value d ≡ digit_value s = ap digit_value e in let low = h.0 in omega arith) in
    let test : (d == s) ≡ false = grind (arith, nat_tests) in
    ap (λ t. cond (not t) (1 + position_or_len (λ c. c == s) (a ++ (s ∷ b))) 0) test
    ∙ ap (λ (n : ℕ). 1 + n) (position_after s a b h.1 not_digit)
    ∙ omega arith

pub before_separator : (s : ℕ) (a b : List ℕ) → AllDigits 10 a → 10 ≤ digit_value s → before_first (λ c. c == s)
    (a ++ (s ∷ b)) ≡ a
before_separator s a b h not_digit = ap (λ (n : ℕ). take n (a ++ (s ∷ b))) (position_after s a b h not_digit)
    ∙ take-append_seam a (s ∷ b)

pub after_separator : (s : ℕ) (a b : List ℕ) → AllDigits 10 a → 10 ≤ digit_value s → after_first (λ c. c == s)
    (a ++ (s ∷ b)) ≡ b
after_separator s a b h not_digit = ap (λ (n : ℕ). drop (n + 1) (a ++ (s ∷ b))) (position_after s a b h not_digit)
    ∙ drop-append-add a (s ∷ b) 1

pub round_separator : (s : ℕ) (text b : List ℕ) → after_first (λ c. c == s) text ≡ b → 0 < length b
    → text ≡ before_first (λ c. c == s) text ++ (s ∷ b)
round_separator s text b after some =
    let at = position_or_len (λ c. c == s) text in
    let len : length (drop (at + 1) text) ≡ length text - (at + 1) = length-drop (at + 1) text in
    let cut : length (drop (at + 1) text) ≡ length b = ap (λ t. length t) after in
    let inside : at < length text = omega arith in
    let byte : (get_or text at 0 == s) ≡ true = passes_at_first (λ c. c == s) text 0 inside in
    let is : get_or text at 0 ≡ s = grind (arith, nat_tests) in
    split_at_first (λ c. c == s) text 0 inside
    ∙ ap (λ (x : ℕ). before_first (λ c. c == s) text ++ (x ∷ after_first (λ c. c == s) text)) is
    ∙ ap (λ t. before_first (λ c. c == s) text ++ (s ∷ t)) after

pub written_round : (s : ℕ) (one two : ℕ → List ℕ) (l m : ℕ) (text : List ℕ) (a b : ℕ)
    → number_written one l (before_first (λ c. c == s) text) ≡ Some a
    → number_written two m (after_first (λ c. c == s) text) ≡ Some b → text ≡ one a ++ (s ∷ two b)
written_round s one two l m text a b h k =
    let first = written_is one l (before_first (λ c. c == s) text) a h in
    let second = written_is two m (after_first (λ c. c == s) text) b k in
    let some : 0 < length (two b) =
    not_empty (two b) (λ e. written_empty two m b (ap (number_written two m) (sym (second.1 ∙ e)) ∙ k)) in
    round_separator s text (two b) second.1 some ∙ ap (λ t. t ++ (s ∷ two b)) first.1
  where
    not_empty : (t : List ℕ) → (t ≡ [] → ⊥) → 0 < length t
    not_empty [] none = absurd (none refl)
    not_empty (c ∷ t) none = omega arith

-- what up to nine digits read is their number
pub digits_read : (text : List ℕ) (r : Option ℕ) → r ≡ number_of_digits text → 1 ≤ length text → length text ≤ 9
    → SomeIff r (AllDigits 10 text) (digits_value 10 text)
digits_read text r e some short = step (list_all is_ascii_digit text) refl
  where
    inside : (nat_le 1 (length text) && nat_le (length text) 9) ≡ true
    inside = grind (arith, nat_tests)

    is : (b : Bool) → list_all is_ascii_digit text ≡ b → cond b (Some (digits_value 10 text)) None ≡ r
    is b h = sym (e ∙ (λ i. cond (inside i && h i) (Some (digits_value 10 text)) None))

    step : (b : Bool) → list_all is_ascii_digit text ≡ b → SomeIff r (AllDigits 10 text) (digits_value 10 text)
    step true all = subst (λ (o : Option ℕ). SomeIff o (AllDigits 10 text) (digits_value 10 text)) (is true all)
        (digits_own.to text (sym (digits_test text) ∙ all), refl)
    step false all = subst (λ (o : Option ℕ). SomeIff o (AllDigits 10 text) (digits_value 10 text)) (is false all)
        (λ h. let yes : list_all is_ascii_digit text ≡ true = digits_test text ∙ digits_own.from text h in cc)
