-- Books on an accrual basis: what they add to those on a cash basis. Interest, fees and penalties are income on the day
-- on which they fall due, or are paid, waived or written off before; what fell due and is outstanding is receivable,
-- and what is waived or written off is an expense.
use Rattle.std.specs.Prelude.{ℕ, zero, suc, ◌+◌, ◌-◌, nat_le, cond, ℤ, pos, ◌+ℤ◌, ◌-ℤ◌, neg_ℤ, List, [], ◌∷◌, ◌++◌, map}
use Rattle.std.specs.Prelude.{filter}
use Rattle.std.specs.Prelude.{slice_index, is_some, Option, Some, None}
use Rattle.std.specs.List.{flat_map, range_with_len}
use Rattle.mf_alloc.specs.Sums.{Instalment}
use Rattle.mf_account.specs.Balance.{open_in}
use Rattle.mf_account.specs.Loan.{DisbursedLoan, state_of_loan}
use Rattle.mf_model.specs.declared.request.Request.{Request}
use Rattle.mf_model.specs.declared.request.Request.TheVariants as request
use Rattle.mf_model.specs.Accounts.{account_in, of_account, balances_in, no_sums}
use Rattle.mf_model.specs.Institution.{Institution, Catalogue, Ledger, Office}
use Rattle.mf_model.specs.Run.{Line, change_of_line, next}
use Rattle.mf_model.specs.Store.{ledger_at}
use Rattle.mf_ledger.specs.declared.accrual.AccruedSums.{AccruedSums}
use Rattle.mf_ledger.specs.declared.books.Posting.{Posting}
use Rattle.mf_ledger.specs.declared.books.Title.{Title}
use Rattle.mf_ledger.specs.declared.books.Title.TheVariants.{Interest, Fees, Penalties}
use Rattle.mf_ledger.specs.declared.books.Title.TheVariants.{InterestReceivable, FeesReceivable, PenaltiesReceivable}
use Rattle.mf_ledger.specs.declared.books.Title.TheVariants.{InterestWaived, FeesWaived, PenaltiesWaived}
use Rattle.mf_ledger.specs.declared.books.Title.TheVariants.{InterestWrittenOff, FeesWrittenOff, PenaltiesWrittenOff}
use Rattle.mf_ledger.specs.declared.books.Transaction.{Transaction}
use Rattle.mf_ledger.specs.Books.{signed_sum}
use Rattle.mf_ledger.specs.Runs.{Selection, where_meant, product_of_loan}

-- the titles to which accrual adds, in their order
abbrev pub accrual_titles : List Title
accrual_titles =
    InterestReceivable ∷ InterestWaived ∷ InterestWrittenOff ∷ Interest
    ∷ FeesReceivable ∷ FeesWaived ∷ FeesWrittenOff ∷ Fees
    ∷ PenaltiesReceivable ∷ PenaltiesWaived ∷ PenaltiesWrittenOff ∷ Penalties ∷ []

-- what is outstanding of a portion in the instalments that fell due by the end of a day
abbrev pub due_open : ℕ → List Instalment → ℕ → ℕ
due_open day rows p = open_in p (filter (λ (row : Instalment). nat_le row.due day) rows)

-- the same of a loan, by portion
abbrev pub due_of : ℕ → DisbursedLoan → List ℕ
due_of day a =
    due_open day (state_of_loan a).rows 0 ∷ due_open day (state_of_loan a).rows 1
    ∷ due_open day (state_of_loan a).rows 2 ∷ due_open day (state_of_loan a).rows 3 ∷ []

-- what accrual reads of a loan at the end of a day
abbrev pub accrued_in : ℕ → Catalogue → Ledger → AccruedSums
accrued_in day k l = record {
  due = of_account no_sums (due_of day) (account_in k l);
  waived = (balances_in k l).waived;
  written_off = (balances_in k l).written_off;
}

-- the income of a portion that was not paid: what fell due and is outstanding, what is waived and what is written off
abbrev pub unpaid_income : ℕ → AccruedSums → ℤ
unpaid_income p s =
    neg_ℤ (pos (slice_index s.due p) +ℤ (pos (slice_index s.waived p) +ℤ pos (slice_index s.written_off p)))

-- what accrual adds on the account of a title, in cents; a debit is positive
abbrev pub accrued_on : Title → AccruedSums → ℤ
accrued_on InterestReceivable s = pos (slice_index s.due 2)
accrued_on FeesReceivable s = pos (slice_index s.due 1)
accrued_on PenaltiesReceivable s = pos (slice_index s.due 0)
accrued_on InterestWaived s = pos (slice_index s.waived 2)
accrued_on FeesWaived s = pos (slice_index s.waived 1)
accrued_on PenaltiesWaived s = pos (slice_index s.waived 0)
accrued_on InterestWrittenOff s = pos (slice_index s.written_off 2)
accrued_on FeesWrittenOff s = pos (slice_index s.written_off 1)
accrued_on PenaltiesWrittenOff s = pos (slice_index s.written_off 0)
accrued_on Interest s = unpaid_income 2 s
accrued_on Fees s = unpaid_income 1 s
accrued_on Penalties s = unpaid_income 0 s
accrued_on _ s = pos 0

-- the titles of a portion: of penalties, fees and interest, the portions 0 to 2
abbrev pub receivable_of : ℕ → Title
receivable_of zero = PenaltiesReceivable
receivable_of (suc zero) = FeesReceivable
receivable_of (suc (suc p)) = InterestReceivable

-- what of it is waived
abbrev pub waived_of : ℕ → Title
waived_of zero = PenaltiesWaived
waived_of (suc zero) = FeesWaived
waived_of (suc (suc p)) = InterestWaived

-- what of it is written off
abbrev pub written_off_of : ℕ → Title
written_off_of zero = PenaltiesWrittenOff
written_off_of (suc zero) = FeesWrittenOff
written_off_of (suc (suc p)) = InterestWrittenOff

-- its income
abbrev pub income_of : ℕ → Title
income_of zero = Penalties
income_of (suc zero) = Fees
income_of (suc (suc p)) = Interest

-- what a change, or a day, adds to the account of a title: what is there afterwards, less what was there before
abbrev pub adjusting_posting : ℕ → ℕ → AccruedSums → AccruedSums → Title → Posting
adjusting_posting office product before after title = record {
  account = record { title = title; office = office; product = product };
  amount = accrued_on title after -ℤ accrued_on title before;
}

-- the adjusting postings of a loan of this office and product
abbrev pub adjusting_between : ℕ → ℕ → AccruedSums → AccruedSums → List Posting
adjusting_between office product before after = map (adjusting_posting office product before after) accrual_titles

-- ---- balances

-- what accrual adds for a loan on the account of a title, where it is meant
abbrev pub loan_accrued : Title → Selection → ℕ → Catalogue → ℕ → Ledger → ℤ
loan_accrued title meant day k office l =
    where_meant (meant office l.loan.product) (accrued_on title (accrued_in day k l))

-- the same for the loans of an office
abbrev pub office_accrued : Title → Selection → ℕ → Catalogue → Office → ℤ
office_accrued title meant day k f = signed_sum (loan_accrued title meant day k f.number) f.rows.loans

-- What accrual adds at the end of a day to the accounts of a title, over the offices and products that are meant.
abbrev pub accrued : Title → Selection → ℕ → Institution → ℤ
accrued title meant day i = signed_sum (office_accrued title meant day i.catalogue) i.offices

-- ---- the adjusting transactions of a run

-- what accrual reads of a loan that may be there
abbrev pub accrued_of : ℕ → Catalogue → Option Ledger → AccruedSums
accrued_of day k None = record { due = no_sums; waived = no_sums; written_off = no_sums }
accrued_of day k (Some l) = accrued_in day k l

-- of a request on a loan: what it changes, on the business day on which it is accepted
abbrev pub adjusting_of : ℕ → Request → Institution → Institution → List Transaction
adjusting_of n (request.Loan loan asked) i j = record {
  number = n;
  day = i.catalogue.day;
  loan = loan;
  postings = adjusting_between loan.office (product_of_loan (ledger_at loan i))
      (accrued_of i.catalogue.day i.catalogue (ledger_at loan i))
      (accrued_of i.catalogue.day j.catalogue (ledger_at loan j));
} ∷ []
adjusting_of n _ i j = []

-- what falls due of a loan on a day
abbrev pub falling_due : ℕ → ℕ → Catalogue → ℕ → ℕ → Ledger → Transaction
falling_due n day k office number l = record {
  number = n;
  day = day;
  loan = record { office = office; number = number };
  postings = adjusting_between office l.loan.product (accrued_in (day - 1) k l) (accrued_in day k l);
}

-- of loans, numbered from m on
abbrev pub due_of_loans : ℕ → ℕ → Catalogue → ℕ → ℕ → List Ledger → List Transaction
due_of_loans n day k office m [] = []
due_of_loans n day k office m (l ∷ ls) =
    falling_due n day k office m l ∷ due_of_loans n day k office (m + 1) ls

-- on a day, in all offices
abbrev pub due_on : ℕ → Institution → ℕ → List Transaction
due_on n i day =
    flat_map (λ (f : Office). due_of_loans n day i.catalogue f.number 1 f.rows.loans) i.offices

-- on each day behind a first one, up to a last one
abbrev pub due_between : ℕ → ℕ → ℕ → Institution → List Transaction
due_between n first last i = flat_map (due_on n i) (range_with_len (first + 1) (last - first))

-- the adjusting transactions of the line of the journal of this number: that of its loan, and what falls due on the
-- days by which it moves the business day
abbrev pub adjustments_of : ℕ → Request → Institution → Institution → List Transaction
adjustments_of n r i j = adjusting_of n r i j ++ due_between n i.catalogue.day j.catalogue.day j

-- the adjusting transactions of a run, behind so many lines of the journal
abbrev pub adjustments : ℕ → List Line → Institution → List Transaction
adjustments n [] i = []
adjustments n (l ∷ ls) i = cond (is_some (change_of_line l i))
    (adjustments_of (n + 1) l.call.request i (next l i) ++ adjustments (n + 1) ls (next l i))
    (adjustments n ls (next l i))
