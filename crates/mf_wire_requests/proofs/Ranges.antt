-- Whatever the bytes are, what a request names lies in range: the members of its body, and the numbers of its path.
use Rattle.std.proofs.Common.{◌≡◌, ℕ, ◌+◌, ◌≤◌, ◌<◌, nat_le, Bool, true, false, cond, List, Option, Some, None, refl}
use Rattle.std.proofs.Common.{sym, ap, ◌∙◌, arith}
use Rattle.std.specs.Prelude.{◌==◌, ◌&&◌, IfSome, length}
use Rattle.std.specs.Char.{is_ascii_digit}
use Rattle.std.specs.List.{list_all, before_first, after_first}
use Rattle.std.specs.Option.{option_map, option_and_then}
use Rattle.std.specs.Str.{is_utf8, chars}
use Rattle.std.specs.Str.Parse.{digits_value}
use Rattle.std.proofs.lemmas.Bool.{and_parts, leb-true, le-leb}
use Rattle.std.proofs.lemmas.Str.{IsUtf8-from_is_utf8, is_utf8-from_IsUtf8}
use Rattle.matchit.specs.Params.{named}
use Rattle.serde_json.specs.Data.{Data}
use Rattle.serde_json.specs.Find.{as_str}
use Rattle.mf_base.specs.DayText.{last_entered_day}
use Rattle.mf_base.specs.Digits.{number_of_digits}
use Rattle.mf_base.proofs.DigitsLemmas.{digits_test, value_of_nine}
use Rattle.mf_office.specs.Numbers.{IsNumberUpTo, is_number_up_to, number_up_to}
use Rattle.mf_office.specs.Texts.{IsAccount, account_of}
use Rattle.mf_office.specs.Written.{zero_padded, number_written}
use Rattle.mf_office.specs.declared.account.Account.{Account}
use Rattle.mf_office.proofs.WrittenLemmas.{written_is}
use Rattle.mf_account.specs.Receipts.{is_receipt, IsReceipt}
use Rattle.mf_model.specs.Sound.{IsName, is_plain}
use Rattle.mf_wire_requests.specs.Bodies.{whole_at, text_at, is_name_text, name_at, office_number_at, within, number_at}
use Rattle.mf_wire_requests.specs.Bodies.{present_at}
use Rattle.mf_wire_requests.specs.Bodies.{optional, optional_receipt_at, account_number_at, day_named, day_at}
use Rattle.mf_wire_requests.specs.PathParts.{PathParts, number_in, account_number_in}
use Rattle.mf_wire_requests.proofs.DayTexts.{day_among_below}

-- a value that passes a test
passes : {A : Type 0} (P : A → Type 0) (b : Bool) (a : A) → (b ≡ true → P a) → IfSome (cond b (Some a) None) P
passes P true a h = h refl
passes P false a h = tt

-- what a step finds of a value, if there is one
then_some : {A B : Type 0} (P : B → Type 0) (f : A → Option B) → ((a : A) → IfSome (f a) P) → (o : Option A)
    → IfSome (option_and_then f o) P
then_some P f h None = tt
then_some P f h (Some a) = h a

-- ---- members

name_tests : (text : List ℕ) → is_name_text text ≡ true → IsName text
name_tests text h =
    let plain = and_parts (is_utf8 text && nat_le 1 (length (chars text)) && nat_le (length (chars text)) 100)
    (list_all is_plain (chars text)) h in
    let most = and_parts (is_utf8 text && nat_le 1 (length (chars text))) (nat_le (length (chars text)) 100) plain.0 in
    let some = and_parts (is_utf8 text) (nat_le 1 (length (chars text))) most.0 in record {
      text = IsUtf8-from_is_utf8 text some.0;
      some = leb-true 1 (length (chars text)) some.1;
      most = leb-true (length (chars text)) 100 most.1;
      plain = plain.1;
    }

pub name_range : (member : List ℕ) (d : Data) → IfSome (name_at member d) IsName
name_range member d = then_some IsName (λ text. cond (is_name_text text) (Some text) None)
    (λ text. passes IsName (is_name_text text) text (name_tests text)) (text_at member d)

number_tests : (limit n : ℕ) → is_number_up_to limit n ≡ true → IsNumberUpTo limit n
number_tests limit n h = let both =
    and_parts (nat_le 1 n) (nat_le n limit) h in (leb-true 1 n both.0, leb-true n limit both.1)

pub office_range : (member : List ℕ) (d : Data) → IfSome (office_number_at member d) (IsNumberUpTo 9999)
office_range member d = then_some (IsNumberUpTo 9999) (number_up_to 9999) (λ n. passes (IsNumberUpTo 9999)
    (is_number_up_to 9999 n) n (number_tests 9999 n)) (whole_at member d)

-- the number lies from the least to the greatest
abbrev pub IsWithin : ℕ → ℕ → ℕ → Type 0
IsWithin least greatest n = (least ≤ n) × (n ≤ greatest)

pub within_range : (least greatest n : ℕ) → IfSome (within least greatest n) (IsWithin least greatest)
within_range least greatest n =
    passes (IsWithin least greatest) (nat_le least n && nat_le n greatest) n
    (λ h. let both = and_parts (nat_le least n) (nat_le n greatest) h in (
      leb-true least n both.0,
      leb-true n greatest both.1,
    ))

pub number_range : (least greatest : ℕ) (name : List ℕ) (d : Data) → IfSome (number_at least greatest name d)
    (IsWithin least greatest)
number_range least greatest name d =
    then_some (IsWithin least greatest) (within least greatest) (within_range least greatest) (whole_at name d)

receipt_in : (d : Data) → IfSome (option_and_then (λ text. cond (is_receipt text) (Some text) None) (as_str d))
    IsReceipt
receipt_in d = then_some IsReceipt (λ text. cond (is_receipt text) (Some text) None)
    (λ text. passes IsReceipt (is_receipt text) text (λ h. h)) (as_str d)

pub receipt_range : (name : List ℕ) (d : Data) → IfSome (optional_receipt_at name d)
    (λ receipt. IfSome receipt IsReceipt)
receipt_range name d = step (present_at name d)
  where
    read : (o : Option (List ℕ)) → IfSome o IsReceipt → IfSome (option_map (λ r. Some r) o)
        (λ receipt. IfSome receipt IsReceipt)
    read None h = tt
    read (Some r) h = h

    step : (o : Option Data) → IfSome (optional (λ r. option_and_then (λ text. cond (is_receipt text) (Some text) None)
        (as_str r)) o) (λ receipt. IfSome receipt IsReceipt)
    step None = tt
    step (Some r) = read (option_and_then (λ text. cond (is_receipt text) (Some text) None) (as_str r)) (receipt_in r)

written_range : (text_of : ℕ → List ℕ) (limit : ℕ) (text : List ℕ) → IfSome (number_written text_of limit text)
    (IsNumberUpTo limit)
written_range text_of limit text = step (number_written text_of limit text) refl
  where
    step : (o : Option ℕ) → number_written text_of limit text ≡ o → IfSome o (IsNumberUpTo limit)
    step None e = tt
    step (Some n) e = (written_is text_of limit text n e).0

account_text_range : (text : List ℕ) → IfSome (account_of text) IsAccount
unfolding account_of
account_text_range text =
    step (number_written (zero_padded 4) 9999 (before_first (λ b. b == 45) text))
    (number_written (zero_padded 6) 999999 (after_first (λ b. b == 45) text))
    (written_range (zero_padded 4) 9999 (before_first (λ b. b == 45) text))
    (written_range (zero_padded 6) 999999 (after_first (λ b. b == 45) text))
  where
    step : (office number : Option ℕ) → IfSome office (IsNumberUpTo 9999) → IfSome number (IsNumberUpTo 999999)
        → IfSome (option_and_then (λ (o : ℕ). option_map (λ (n : ℕ). let account : Account = record {
          office = o;
          number = n;
        } in account) number) office) IsAccount
    step None number h k = tt
    step (Some o) None h k = tt
    step (Some o) (Some n) h k = (h, k)

pub account_range : (name : List ℕ) (d : Data) → IfSome (account_number_at name d) IsAccount
account_range name d = then_some IsAccount account_of account_text_range (text_at name d)

-- a day that may be entered
abbrev pub IsEntered : ℕ → Type 0
IsEntered day = day ≤ last_entered_day

day_text_range : (text : List ℕ) → IfSome (day_named text) IsEntered
day_text_range text = below (day_named text) (day_among_below (last_entered_day + 1) text)
  where
    below : (o : Option ℕ) → IfSome o (λ day. day < last_entered_day + 1) → IfSome o IsEntered
    below None h = tt
    below (Some day) h = omega (arith, h)

pub day_range : (name : List ℕ) (d : Data) → IfSome (day_at name d) IsEntered
day_range name d = then_some IsEntered day_named day_text_range (text_at name d)

-- ---- the parameters of a path

-- nine digits write it
abbrev pub IsOfNineDigits : ℕ → Type 0
IsOfNineDigits n = n ≤ 999999999

digits_range : (text : List ℕ) → IfSome (number_of_digits text) IsOfNineDigits
digits_range text =
    passes IsOfNineDigits ((nat_le 1 (length text) && nat_le (length text) 9) && list_all is_ascii_digit text)
    (digits_value 10 text)
    (λ h.
    let digits = and_parts (nat_le 1 (length text) && nat_le (length text) 9) (list_all is_ascii_digit text) h in
    let short = and_parts (nat_le 1 (length text)) (nat_le (length text) 9) digits.0 in
    let below = value_of_nine text (sym (digits_test text) ∙ digits.1) (leb-true (length text) 9 short.1) in
    omega (arith, below))

pub number_in_range : (name : List ℕ) (parts : PathParts) → IfSome (number_in name parts) IsOfNineDigits
number_in_range name parts = then_some IsOfNineDigits number_of_digits digits_range (named name parts)

pub account_in_range : (name : List ℕ) (parts : PathParts) → IfSome (account_number_in name parts) IsAccount
account_in_range name parts = then_some IsAccount account_of account_text_range (named name parts)

-- ---- the test of a name, for what reads it

is_name_of : (text : List ℕ) → IsName text → is_name_text text ≡ true
is_name_of text h = all (is_utf8 text) (nat_le 1 (length (chars text))) (nat_le (length (chars text)) 100)
    (list_all is_plain (chars text))
    (is_utf8-from_IsUtf8 text h.text) (le-leb 1 (length (chars text)) h.some) (le-leb (length (chars text)) 100 h.most)
    h.plain
  where
    all : (a b c d : Bool) → a ≡ true → b ≡ true → c ≡ true → d ≡ true → (a && b && c && d) ≡ true
    all a b c d p q r s = cc

pub name_read : (member : List ℕ) (d : Data) (text : List ℕ) → text_at member d ≡ Some text → IsName text
    → name_at member d ≡ Some text
name_read member d text there h = ap (option_and_then (λ t. cond (is_name_text t) (Some t) None)) there
    ∙ ap (λ b. cond b (Some text) None) (is_name_of text h)
