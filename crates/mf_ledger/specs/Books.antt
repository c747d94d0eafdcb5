-- Books of double entry: what a loan has on each account, and the postings of a change.
use Rattle.std.specs.Prelude.{ℕ, ◌==◌, Bool, true, not, ℤ, pos, ◌+ℤ◌, ◌-ℤ◌, neg_ℤ, List, [], ◌∷◌, map, slice_index}
use Rattle.std.specs.List.{list_any}
use Rattle.mf_account.specs.Balance.{sum_repaid}
use Rattle.mf_account.specs.Loan.{DisbursedLoan}
use Rattle.mf_model.specs.Accounts.{account_in, of_account, balances_in}
use Rattle.mf_model.specs.Institution.{Catalogue, Ledger}
use Rattle.mf_ledger.specs.declared.books.LoanSums.{LoanSums}
use Rattle.mf_ledger.specs.declared.books.Posting.{Posting}
use Rattle.mf_ledger.specs.declared.books.Title.{Title}
use Rattle.mf_ledger.specs.declared.books.Title.TheVariants.{Cash, Principal, Interest, Fees, Penalties}
use Rattle.mf_ledger.specs.declared.books.Title.TheVariants.{DisbursementFees, Overpaid, WrittenOff}
use Rattle.mf_ledger.specs.declared.books.Title.TheVariants.{InterestReceivable, FeesReceivable, PenaltiesReceivable}
use Rattle.mf_ledger.specs.declared.books.Title.TheVariants.{InterestWaived, FeesWaived, PenaltiesWaived}
use Rattle.mf_ledger.specs.declared.books.Title.TheVariants.{InterestWrittenOff, FeesWrittenOff, PenaltiesWrittenOff}

-- the titles of the books on a cash basis, in their order
abbrev pub titles : List Title
titles = Cash ∷ Principal ∷ Interest ∷ Fees ∷ Penalties ∷ DisbursementFees ∷ Overpaid ∷ WrittenOff ∷ []

-- the number of a title; those that only books on an accrual basis have come last
abbrev pub title_number : Title → ℕ
title_number Cash = 0
title_number Principal = 1
title_number Interest = 2
title_number Fees = 3
title_number Penalties = 4
title_number DisbursementFees = 5
title_number Overpaid = 6
title_number WrittenOff = 7
title_number InterestReceivable = 8
title_number FeesReceivable = 9
title_number PenaltiesReceivable = 10
title_number InterestWaived = 11
title_number FeesWaived = 12
title_number PenaltiesWaived = 13
title_number InterestWrittenOff = 14
title_number FeesWrittenOff = 15
title_number PenaltiesWrittenOff = 16

-- they are one title
abbrev pub is_title : Title → Title → Bool
is_title a b = title_number a == title_number b

-- a sum of signed numbers
abbrev pub signed_sum : {X : Type 0} → (X → ℤ) → List X → ℤ
signed_sum read [] = pos 0
signed_sum read (x ∷ xs) = read x +ℤ signed_sum read xs

-- what was lent on a loan: its principal, once it is disbursed
abbrev pub lent_on : Catalogue → Ledger → ℕ
lent_on k l = of_account {A = ℕ} 0 (λ (a : DisbursedLoan). a.principal) (account_in k l)

-- what the books read of a loan
abbrev pub sums_in : Catalogue → Ledger → LoanSums
sums_in k l = record { lent = lent_on k l; repaid = sum_repaid l.entries; balances = balances_in k l }

-- Cash: what was repaid, and the fee that was kept when the loan was paid out, less what was lent and refunded. So a
-- loan is paid out less its fee, an overpayment comes in whole, and a refund goes out. A write-off, a waiver and their
-- reversals move no cash.
abbrev pub cash : LoanSums → ℤ
cash s = (pos s.repaid +ℤ pos s.balances.disbursement_fee) -ℤ (pos s.lent +ℤ pos s.balances.refunded)

-- what a loan with these sums has on the account of a title, in cents; a debit is positive. Penalties, fees, interest
-- and principal are the portions 0 to 3. On a
-- cash basis there are no receivables and no waivers
abbrev pub amount_on : Title → LoanSums → ℤ
amount_on Cash s = cash s
amount_on Principal s = pos (slice_index s.balances.outstanding 3)
amount_on Interest s = neg_ℤ (pos (slice_index s.balances.paid 2))
amount_on Fees s = neg_ℤ (pos (slice_index s.balances.paid 1))
amount_on Penalties s = neg_ℤ (pos (slice_index s.balances.paid 0))
amount_on DisbursementFees s = neg_ℤ (pos s.balances.disbursement_fee)
amount_on Overpaid s = neg_ℤ (pos s.balances.overpaid)
amount_on WrittenOff s = pos (slice_index s.balances.written_off 3)
amount_on _ s = pos 0

-- what a change moves on the account of a title: what its loan has there afterwards, less what it had before
abbrev pub posting_between : ℕ → ℕ → LoanSums → LoanSums → Title → Posting
posting_between office product before after title = record {
  account = record { title = title; office = office; product = product };
  amount = amount_on title after -ℤ amount_on title before;
}

-- the postings of a change of a loan of this office and product
abbrev pub postings_between : ℕ → ℕ → LoanSums → LoanSums → List Posting
postings_between office product before after = map (posting_between office product before after) titles

-- an amount isn't 0
abbrev pub is_moved : ℤ → Bool
is_moved (pos n) = not (n == 0)
is_moved _ = true

-- one of these moves something
abbrev pub some_moves : List Posting → Bool
some_moves postings = list_any (λ (p : Posting). is_moved p.amount) postings
