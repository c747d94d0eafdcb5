-- What a body says, as JSON.
use Rattle.std.specs.Prelude.{◌≡◌, ◌⊎◌, ℕ, ◌+◌, ◌<◌, Bool, true, ◌&&◌, cond, List, length, nat_le, Option, Some}
use Rattle.std.specs.Prelude.{None, is_some, option_map, option_and_then, Result, MatchResult}
use Rattle.std.specs.List.{list_all, find, range_with_len}
use Rattle.std.specs.Str.{is_utf8, chars, bytes_eq}
use Rattle.serde_json.specs.Data.{Data}
use Rattle.serde_json.specs.Read.{read}
use Rattle.serde_json.specs.Find.{get, as_null, as_number, as_u64, as_str}
use Rattle.mf_base.specs.DayText.{day_text, last_entered_day}
use Rattle.mf_base.specs.declared.fault.Fault.{Fault}
use Rattle.mf_base.specs.declared.fault.Fault.TheVariants.{F1, F20}
use Rattle.mf_office.specs.Numbers.{number_up_to}
use Rattle.mf_office.specs.Texts.{account_of}
use Rattle.mf_office.specs.declared.account.Account.{Account}
use Rattle.mf_model.specs.Sound.{is_plain}
use Rattle.mf_account.specs.Receipts.{is_receipt}

-- the JSON whose text the bytes are
abbrev pub json_of : List ℕ → Option Data
json_of bytes = cond (is_utf8 bytes) (read bytes) None

-- a member that is a whole number of at least 0
abbrev pub whole_at : List ℕ → Data → Option ℕ
whole_at name d = option_and_then as_u64 (option_and_then as_number (get name d))

-- a member that is a text
abbrev pub text_at : List ℕ → Data → Option (List ℕ)
text_at name d = option_and_then as_str (get name d)

-- a name is a text of 1 to 100 characters, and no control character of ASCII among them
abbrev pub is_name_text : List ℕ → Bool
is_name_text text = is_utf8 text && nat_le 1 (length (chars text)) && nat_le (length (chars text)) 100
    && list_all is_plain
    (chars text)

-- a member that is a name
abbrev pub name_at : List ℕ → Data → Option (List ℕ)
name_at member d = option_and_then (λ text. cond (is_name_text text) (Some text) None) (text_at member d)

-- a member that is an office's number
abbrev pub office_number_at : List ℕ → Data → Option ℕ
office_number_at member d = option_and_then (number_up_to 9999) (whole_at member d)

-- the number, where it lies from a least to a greatest
abbrev pub within : ℕ → ℕ → ℕ → Option ℕ
within least greatest n = cond (nat_le least n && nat_le n greatest) (Some n) None

-- a member that is a whole number from a least to a greatest
abbrev pub number_at : ℕ → ℕ → List ℕ → Data → Option ℕ
number_at least greatest name d = option_and_then (within least greatest) (whole_at name d)

-- a value that is not null
abbrev pub unless_null : Option Data → Option Data
unless_null None = None
unless_null (Some d) = cond (is_some (as_null d)) None (Some d)

-- a member that is neither absent nor null
abbrev pub present_at : List ℕ → Data → Option Data
present_at name d = unless_null (get name d)

-- nothing where there is no value, and else what it is read as
abbrev pub optional : {A : Type 0} → (Data → Option A) → Option Data → Option (Option A)
optional reading None = Some None
optional reading (Some d) = option_map (λ a. Some a) (reading d)

-- a member that may be absent or null, and else is a whole number up to a greatest
abbrev pub optional_number_at : ℕ → List ℕ → Data → Option (Option ℕ)
optional_number_at greatest name d =
    optional (λ n. option_and_then (within 0 greatest) (option_and_then as_u64 (as_number n))) (present_at name d)

-- a member that may be absent or null, and else is a receipt
abbrev pub optional_receipt_at : List ℕ → Data → Option (Option (List ℕ))
optional_receipt_at name d =
    optional (λ r. option_and_then (λ text. cond (is_receipt text) (Some text) None) (as_str r)) (present_at name d)

-- a member that is an account's text
abbrev pub account_number_at : List ℕ → Data → Option Account
account_number_at name d = option_and_then account_of (text_at name d)

-- the day of a text, of so many days
unfoldable pub day_among : ℕ → List ℕ → Option ℕ
day_among count text = find (λ day. bytes_eq text (day_text day)) (range_with_len 0 count)

-- the day of a text, of those that may be entered
abbrev pub day_named : List ℕ → Option ℕ
day_named text = day_among (last_entered_day + 1) text

-- a member that is a day's text
abbrev pub day_at : List ℕ → Data → Option ℕ
day_at name d = option_and_then day_named (text_at name d)

-- a call that reads gives what is there, or F1 where nothing is, or gives up with F20 where this holds
abbrev pub GivesOrLacks : {A : Type 0} → Type 0 → Option A → Result A Fault → Type 0
GivesOrLacks lacks there result =
    MatchResult result (λ r. there ≡ Some r) (λ f. ((f ≡ F20) × lacks) ⊎ ((f ≡ F1) × (there ≡ None)))

-- numbers and accounts are read without memory: never F20
abbrev pub Reads : {A : Type 0} → Option A → Result A Fault → Type 0
Reads there result = GivesOrLacks ⊥ there result

-- a text is copied, or what has one: F20 only in place of what is there
abbrev pub Copies : {A : Type 0} → Option A → Result A Fault → Type 0
Copies there result = GivesOrLacks (is_some there ≡ true) there result

-- a text that may be absent is copied where there is one
abbrev pub has_text : {A : Type 0} → Option (Option A) → Bool
has_text there = is_some (option_and_then (λ text. text) there)

-- F20 only in place of a text
abbrev pub CopiesText : {A : Type 0} → Option (Option A) → Result (Option A) Fault → Type 0
CopiesText there result = GivesOrLacks (has_text there ≡ true) there result

-- the bytes of a body are read as JSON: F20 only where there are some
abbrev pub Gives : {A : Type 0} → List ℕ → Option A → Result A Fault → Type 0
Gives body there result = GivesOrLacks (0 < length body) there result
