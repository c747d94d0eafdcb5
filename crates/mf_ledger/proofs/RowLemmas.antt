-- What a row of a sheet tells of its posting.
use Rattle.std.proofs.Common.{◌≡◌, ◌<◌, ◌+◌, ◌*◌, ◌/◌, ◌%◌, ◌^◌, ℕ, List, [], ◌∷◌, ◌++◌, length, take, drop, Option}
use Rattle.std.proofs.Common.{Some, None}
use Rattle.std.proofs.Common.{refl, sym, ap, ◌∙◌, arith}
use Rattle.std.specs.Prelude.{ℤ, pos, negsuc, decimal}
use Rattle.std.proofs.Math.Seq.{take-append_seam, drop-append_seam}
use Rattle.std.proofs.lemmas.Fmt.{decimal_injective}
use Rattle.std.proofs.lemmas.List.{length-append}
use Rattle.mf_base.specs.DayText.{two_digits}
use Rattle.mf_base.specs.Money.{money_text}
use Rattle.mf_base.specs.DayText.{day_text}
use Rattle.mf_base.proofs.DayTextLemmas.{day_text-injective}
use Rattle.mf_office.specs.declared.account.Account.{Account}
use Rattle.mf_office.specs.Texts.{account_of}
use Rattle.mf_office.proofs.ReadLemmas.{account_of-text}
use Rattle.mf_ledger.specs.declared.books.Posting.{Posting}
use Rattle.mf_ledger.specs.declared.names.GivenName.{GivenName}
use Rattle.mf_ledger.specs.declared.names.Program.TheVariants.{Hledger}
use Rattle.mf_ledger.specs.declared.occasion.Occasion.{Occasion}
use Rattle.mf_ledger.specs.Names.{name_of}
use Rattle.mf_ledger.specs.Sheet.{loan_text, debit_text, credit_text, IsLoan, IsWritten, IsOccasion, fields_of}

-- two texts that end in parts of one length
cut : (a b c d : List ℕ) → length b ≡ length d → a ++ b ≡ c ++ d → (a ≡ c) × (b ≡ d)
cut a b c d size e =
    let whole = ap length e in
    let left = length-append a b in
    let right = length-append c d in
    let fronts : length a ≡ length c = omega (arith, whole, left, right, size) in (
      sym (take-append_seam a b) ∙ ap (take (length a)) e ∙ ap (λ n. take n (c ++ d)) fronts ∙ take-append_seam c d,
      sym (drop-append_seam a b) ∙ ap (drop (length a)) e ∙ ap (λ n. drop n (c ++ d)) fronts ∙ drop-append_seam c d,
    )

-- two digits tell a number below 100
digits-apart : (a b : ℕ) → a < 100 → b < 100 → two_digits a ≡ two_digits b → a ≡ b
digits-apart a b low high e =
    let tens : 48 + a / 10 ≡ 48 + b / 10 = cc in
    let ones : 48 + a % 10 ≡ 48 + b % 10 = cc in
    omega (arith, tens, ones)

pub money-apart : (a b : ℕ) → a < 100 * 2 ^ 64 → b < 100 * 2 ^ 64 → money_text a ≡ money_text b → a ≡ b
money-apart a b low high e =
    let parts = cut (decimal (a / 100)) (46 ∷ two_digits (a % 100)) (decimal (b / 100)) (46 ∷ two_digits (b % 100))
    refl e in
    let units = decimal_injective (a / 100) (b / 100) (omega (arith, low)) (omega (arith, high)) parts.0 in
    let behind : two_digits (a % 100) ≡ two_digits (b % 100) = ap (drop 1) parts.1 in
    let cents = digits-apart (a % 100) (b % 100) (omega arith) (omega arith) behind in
    omega (arith, units, cents)

-- a money text is no empty one
money-some : (a : ℕ) → money_text a ≡ [] → ⊥
money-some a e =
    let none = ap length e in
    let parts = length-append (decimal (a / 100)) (46 ∷ two_digits (a % 100)) in
    omega (arith, none, parts)

pub amount-apart : (y z : ℤ) → IsWritten y → IsWritten z → debit_text y ≡ debit_text z → credit_text y ≡ credit_text z
    → y ≡ z
amount-apart (pos a) (pos b) low high debit credit = ap pos (money-apart a b low high debit)
amount-apart (pos a) (negsuc b) low high debit credit = absurd (money-some a debit)
amount-apart (negsuc a) (pos b) low high debit credit = absurd (money-some b (sym debit))
amount-apart (negsuc a) (negsuc b) low high debit credit =
    let same = money-apart (a + 1) (b + 1) low high credit in
    let less : a ≡ b = omega (arith, same) in
    ap negsuc less

no-account : account_of [] ≡ None
unfolding account_of
no-account = refl

pub loan-apart : (x y : Option Account) → IsLoan x → IsLoan y → loan_text x ≡ loan_text y → x ≡ y
loan-apart None None a b e = refl
loan-apart None (Some loan) a b e =
    let read = account_of-text [] loan b e in
    let none = no-account in absurd (cc)
loan-apart (Some loan) None a b e =
    let read = account_of-text [] loan a (sym e) in
    let none = no-account in absurd (cc)
loan-apart (Some loan) (Some other) a b e =
    sym (account_of-text (loan_text (Some loan)) loan a refl) ∙ account_of-text (loan_text (Some loan)) other b e

occasion-same : (o q : Occasion) → o.day ≡ q.day → o.number ≡ q.number → o.loan ≡ q.loan → o ≡ q
occasion-same o q day number loan = λ t. record { day = day t; number = number t; loan = loan t }

pub one-row : (names : List GivenName) (o q : Occasion) (p r : Posting) → IsOccasion o → IsOccasion q
    → IsWritten p.amount → IsWritten r.amount → fields_of names o p ≡ fields_of names q r
    → (o ≡ q) × (name_of Hledger names p.account ≡ name_of Hledger names r.account) × (p.amount ≡ r.amount)
one-row names o q p r is also low high e =
    let day : day_text o.day ≡ day_text q.day = cc in
    let number : decimal o.number ≡ decimal q.number = cc in
    let loan : loan_text o.loan ≡ loan_text q.loan = cc in
    let name : name_of Hledger names p.account ≡ name_of Hledger names r.account = cc in
    let debit : debit_text p.amount ≡ debit_text r.amount = cc in
    let credit : credit_text p.amount ≡ credit_text r.amount = cc in
    let days = day_text-injective o.day q.day day in
    let numbers = decimal_injective o.number q.number is.number also.number number in
    let loans = loan-apart o.loan q.loan is.loan also.loan loan in (
      occasion-same o q days numbers loans,
      name,
      amount-apart p.amount r.amount low high debit credit,
    )
