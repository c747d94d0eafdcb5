-- What books that begin after some of the worked days open with, on an accrual basis. Worked out by hand.
use Rattle.std.specs.Prelude.{ℕ, pos, List, [], ◌∷◌, take, codes, Result}
use Rattle.mf_base.specs.declared.fault.Fault.{Fault}
use Rattle.mf_model.specs.Run.{Line}
use Rattle.mf_model.specs.declared.reply.Reply.{Reply}
use Rattle.mf_ledger.specs.declared.books.Posting.{Posting}
use Rattle.mf_ledger.specs.declared.books.Title.TheVariants.{Cash, Principal, Interest, Fees, Penalties}
use Rattle.mf_ledger.specs.declared.books.Title.TheVariants.{DisbursementFees, Overpaid, WrittenOff}
use Rattle.mf_ledger.specs.declared.books.Title.TheVariants.{InterestReceivable, FeesReceivable, PenaltiesReceivable}
use Rattle.mf_ledger.specs.declared.books.Title.TheVariants.{InterestWaived, FeesWaived, PenaltiesWaived}
use Rattle.mf_ledger.specs.declared.books.Title.TheVariants.{InterestWrittenOff, FeesWrittenOff, PenaltiesWrittenOff}
use Rattle.mf_ledger.specs.WorkedBooks.{worked_days, worked_opening, moved, debit, credit}

-- the loan is paid out, and on 2024-03-31 the second instalment's interest is waived
abbrev pub worked_until_waived : List (Line × Result Reply Fault)
worked_until_waived = take 8 worked_days

-- an adjusting opening of the loan that has interest alone
abbrev pub adjusting_interest : ℕ → ℕ → ℕ → List Posting
adjusting_interest receivable waived income =
    moved InterestReceivable (debit receivable) ∷ moved InterestWaived (debit waived) ∷ moved InterestWrittenOff (pos 0)
    ∷ moved Interest (credit income) ∷ moved FeesReceivable (pos 0) ∷ moved FeesWaived (pos 0)
    ∷ moved FeesWrittenOff (pos 0) ∷ moved Fees (pos 0) ∷ moved PenaltiesReceivable (pos 0)
    ∷ moved PenaltiesWaived (pos 0) ∷ moved PenaltiesWrittenOff (pos 0) ∷ moved Penalties (pos 0) ∷ []

-- Books that begin then open with 980.00 paid out, 1,000.00 of principal and the fee of 20.00. Interest of 10.00 and
-- of 6.67 fell due, which is income: 10.00 are receivable, and 6.67 are an expense, since they were waived.
abbrev pub worked_waived_openings : List (List Posting)
worked_waived_openings =
    (moved Cash (credit 98000) ∷ moved Principal (debit 100000) ∷ moved Interest (pos 0) ∷ moved Fees (pos 0)
    ∷ moved Penalties (pos 0) ∷ moved DisbursementFees (credit 2000) ∷ moved Overpaid (pos 0)
    ∷ moved WrittenOff (pos 0) ∷ []) ∷ adjusting_interest 1000 667 1667 ∷ []

-- Once all was repaid nothing is receivable. The interest that was waived is still an expense, and income that nobody
-- paid.
abbrev pub worked_repaid_openings : List (List Posting)
worked_repaid_openings = worked_opening ∷ adjusting_interest 0 667 667 ∷ []

-- the first of these as hledger's journal
abbrev pub accrual_opening_lines : List (List ℕ)
accrual_opening_lines =
    codes "2024-03-31 (0) opening balances"
    ∷ codes "    assets:cash:office-0001:product-001                          -980.00"
    ∷ codes "    assets:principal:office-0001:product-001                     1000.00"
    ∷ codes "    income:disbursement-fees:office-0001:product-001              -20.00"
    ∷ codes ""
    ∷ codes "2024-03-31 (0) opening balances"
    ∷ codes "    assets:interest-receivable:office-0001:product-001             10.00"
    ∷ codes "    expenses:interest-waived:office-0001:product-001                6.67"
    ∷ codes "    income:interest:office-0001:product-001                       -16.67"
    ∷ codes ""
    ∷ []
