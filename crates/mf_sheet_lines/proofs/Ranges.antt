-- Whatever the fields of a line are, what it asks for lies in range.
use Rattle.std.proofs.Common.{◌≡◌, ℕ, ◌≤◌, nat_le, Bool, true, false, cond, List, Option, Some, None, refl}
use Rattle.std.specs.Prelude.{◌==◌, IfSome}
use Rattle.std.specs.List.{before_first, after_first}
use Rattle.std.specs.Option.{option_map, option_and_then}
use Rattle.std.proofs.lemmas.Bool.{leb-true}
use Rattle.mf_account.specs.Receipts.{IsReceipt, is_receipt}
use Rattle.mf_base.specs.DayText.{last_entered_day}
use Rattle.mf_base.specs.Money.{money_limit}
use Rattle.mf_office.specs.Numbers.{IsNumberUpTo}
use Rattle.mf_office.specs.Texts.{account_of, IsAccount}
use Rattle.mf_office.specs.Written.{zero_padded, number_written}
use Rattle.mf_office.specs.declared.account.Account.{Account}
use Rattle.mf_office.proofs.WrittenLemmas.{written_is}
use Rattle.mf_sheet_lines.specs.declared.line.SheetRepayment.{SheetRepayment}
use Rattle.mf_sheet_lines.specs.Fields.{without_blanks, receipt_written, day_written, cents_written, at_least_one}
use Rattle.mf_sheet_lines.specs.Fields.{amount_written}
use Rattle.mf_sheet_lines.specs.Lines.{LineFields, four_columns_of, repayment_of, repayment_in, repay_or_bad}
use Rattle.mf_sheet_lines.specs.Lines.{sheet_line_of}
use Rattle.mf_sheet_lines.specs.Lines.{IsRepaymentInRange, IsLineInRange}
use Rattle.mf_sheet_lines.proofs.Amounts.{cents_range}
use Rattle.mf_sheet_lines.proofs.Days.{day_range}

-- a value that passes a test
passes : {A : Type 0} (P : A → Type 0) (b : Bool) (a : A) → (b ≡ true → P a) → IfSome (cond b (Some a) None) P
passes P true a h = h refl
passes P false a h = tt

receipt_range : (text : List ℕ) → IfSome (receipt_written text) IsReceipt
receipt_range text = passes IsReceipt (is_receipt text) text (λ h. h)

written_range : (text_of : ℕ → List ℕ) (limit : ℕ) (text : List ℕ) → IfSome (number_written text_of limit text)
    (IsNumberUpTo limit)
written_range text_of limit text = step (number_written text_of limit text) refl
  where
    step : (o : Option ℕ) → number_written text_of limit text ≡ o → IfSome o (IsNumberUpTo limit)
    step None e = tt
    step (Some n) e = (written_is text_of limit text n e).0

account_range : (text : List ℕ) → IfSome (account_of text) IsAccount
unfolding account_of
account_range text =
    step (number_written (zero_padded 4) 9999 (before_first (λ b. b == 45) text))
    (number_written (zero_padded 6) 999999 (after_first (λ b. b == 45) text))
    (written_range (zero_padded 4) 9999 (before_first (λ b. b == 45) text))
    (written_range (zero_padded 6) 999999 (after_first (λ b. b == 45) text))
  where
    step : (office number : Option ℕ) → IfSome office (IsNumberUpTo 9999) → IfSome number (IsNumberUpTo 999999)
        → IfSome (option_and_then (λ (o : ℕ). option_map (λ (n : ℕ). let account : Account = record {
          office = o;
          number = n;
        } in account) number) office) IsAccount
    step None number h k = tt
    step (Some o) None h k = tt
    step (Some o) (Some n) h k = (h, k)

-- an amount that may be entered
abbrev IsAmount : ℕ → Type 0
IsAmount amount = (1 ≤ amount) × (amount ≤ money_limit)

amount_range : (text : List ℕ) → IfSome (amount_written text) IsAmount
amount_range text = step (cents_written text) (cents_range text)
  where
    step : (o : Option ℕ) → IfSome o (λ cents. cents ≤ money_limit) → IfSome (option_and_then at_least_one o) IsAmount
    step None h = tt
    step (Some cents) h = passes IsAmount (nat_le 1 cents) cents (λ some. (leb-true 1 cents some, h))

repayment_range : (receipt loan date amount : List ℕ) → IfSome (repayment_of receipt loan date amount)
    IsRepaymentInRange
repayment_range receipt loan date amount =
    step (receipt_written receipt) (account_of loan) (day_written date) (amount_written amount) (receipt_range receipt)
    (account_range loan) (day_range date) (amount_range amount)
  where
    step : (r : Option (List ℕ)) (l : Option Account) (d a : Option ℕ) → IfSome r IsReceipt → IfSome l IsAccount
        → IfSome d (λ day. day ≤ last_entered_day) → IfSome a IsAmount
        → IfSome (option_and_then (λ x. option_and_then (λ y. option_and_then (λ z. option_map
        (λ w. let it : SheetRepayment = record { receipt = x; loan = y; day = z; amount = w } in it) a) d) l) r)
        IsRepaymentInRange
    step None l d a h k m n = tt
    step (Some x) None d a h k m n = tt
    step (Some x) (Some y) None a h k m n = tt
    step (Some x) (Some y) (Some z) None h k m n = tt
    step (Some x) (Some y) (Some z) (Some w) h k m n =
        record { receipt = h; loan = k; day = m; least = n.0; most = n.1 }

pub line_in_range : (fields : List (List ℕ)) → IsLineInRange (sheet_line_of fields)
line_in_range fields = among (four_columns_of fields)
  where
    told : (o : Option SheetRepayment) → IfSome o IsRepaymentInRange → IsLineInRange (repay_or_bad o)
    told None h = tt
    told (Some r) h = h

    among : (o : Option LineFields) → IsLineInRange (repay_or_bad (option_and_then repayment_in o))
    among None = tt
    among (Some c) =
        told (repayment_in c) (repayment_range (without_blanks c.receipt) (without_blanks c.loan)
        (without_blanks c.date) (without_blanks c.amount))
