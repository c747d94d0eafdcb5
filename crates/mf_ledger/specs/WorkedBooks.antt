-- A loan of 1,000.00 over three months at 12 percent a year, by equal principal, with 20.00 kept when it is paid out,
-- and what the books have of it. Its instalments owe interest of 10.00, 6.67 and 3.33, and principal of 333.33, 333.33
-- and 333.34. The figures are worked out by hand from the rules of accounts.
use Rattle.std.specs.Prelude.{ℕ, ℤ, pos, neg_ℤ, List, [], ◌∷◌, ◌++◌, codes, None, Some, Result, Ok}
use Rattle.mf_base.specs.declared.fault.Fault.{Fault}
use Rattle.mf_catalog.specs.declared.charge.Calc.TheVariants.{Flat}
use Rattle.mf_catalog.specs.declared.charge.ChargeKind.TheVariants.{Disbursement}
use Rattle.mf_statement.specs.WorkedRows.{january, february, march}
use Rattle.mf_model.specs.declared.reply.Reply.{Reply}
use Rattle.mf_model.specs.declared.reply.Reply.TheVariants.{ChargeMade}
use Rattle.mf_model.specs.declared.request.CatalogueRequest.TheVariants.{AddCharge}
use Rattle.mf_model.specs.declared.request.Posting.TheVariants.{Waiver, WriteOff, Refund}
use Rattle.mf_model.specs.declared.request.Request.TheVariants.{Catalogue}
use Rattle.mf_model.specs.declared.waivable.Waivable.TheVariants as waivable
use Rattle.mf_model.specs.Run.{Line}
use Rattle.mf_model.specs.WorkedRows.{caller, account, row, usual}
use Rattle.mf_model.specs.WorkedAccounts.{start_by, repayment_row}
use Rattle.mf_model.specs.WorkedEntries.{posting_row, taken_back}
use Rattle.mf_ledger.specs.declared.books.Posting.{Posting}
use Rattle.mf_ledger.specs.declared.books.Title.{Title}
use Rattle.mf_ledger.specs.declared.books.Title.TheVariants.{Cash, Principal, Interest, Fees, Penalties}
use Rattle.mf_ledger.specs.declared.books.Title.TheVariants.{DisbursementFees, Overpaid, WrittenOff}
use Rattle.mf_ledger.specs.declared.books.Title.TheVariants.{InterestReceivable, FeesReceivable, PenaltiesReceivable}
use Rattle.mf_ledger.specs.declared.books.Title.TheVariants.{InterestWaived, FeesWaived, PenaltiesWaived}
use Rattle.mf_ledger.specs.declared.books.Title.TheVariants.{InterestWrittenOff, FeesWrittenOff, PenaltiesWrittenOff}
use Rattle.mf_ledger.specs.declared.books.Transaction.{Transaction}

-- The loan is paid out, and the business day becomes 2024-03-31. Then the second instalment's interest is waived. A
-- repayment that counts from February leaves nothing to waive, and is taken back. The loan is written off, which is
-- taken back too. At last 1,100.00 is repaid, and what is overpaid is refunded.
abbrev pub worked_days : List (Line × Result Reply Fault)
worked_days =
    row (caller 1 1) (Catalogue (AddCharge (codes "Entry") Disbursement Flat 2000)) (Ok (ChargeMade 1))
    ∷ start_by (record (usual None) { disbursement_charge = Some 1 })
    ++ (
    posting_row (Waiver 2 waivable.Interest) 1
    ∷ repayment_row 40000 february 2
    ∷ taken_back 2
    ∷ posting_row WriteOff 3
    ∷ taken_back 3
    ∷ repayment_row 110000 march 4
    ∷ posting_row Refund 5
    ∷ []
    )

-- a debit, and a credit
abbrev pub debit : ℕ → ℤ
debit cents = pos cents

-- a credit is negative
abbrev pub credit : ℕ → ℤ
credit cents = neg_ℤ (pos cents)

-- an amount of this loan on an account
abbrev pub moved : Title → ℤ → Posting
moved title amount = record { account = record { title = title; office = 1; product = 1 }; amount = amount }

-- a transaction of the loan that moves no fee and no penalty
abbrev pub worked : ℕ → ℕ → ℤ → ℤ → ℤ → ℤ → ℤ → ℤ → Transaction
worked number day cash principal interest kept overpaid written_off = record {
  number = number;
  day = day;
  loan = account 1 1;
  postings = moved Cash cash ∷ moved Principal principal ∷ moved Interest interest ∷ moved Fees (pos 0)
      ∷ moved Penalties (pos 0) ∷ moved DisbursementFees kept ∷ moved Overpaid overpaid
      ∷ moved WrittenOff written_off ∷ [];
}

-- it is approved
abbrev pub approved_row : Transaction
approved_row = worked 5 january (pos 0) (pos 0) (pos 0) (pos 0) (pos 0) (pos 0)

-- it is paid out, less the fee
abbrev pub paid_out_row : Transaction
paid_out_row = worked 6 january (credit 98000) (debit 100000) (pos 0) (credit 2000) (pos 0) (pos 0)

-- interest is waived
abbrev pub waived_row : Transaction
waived_row = worked 8 march (pos 0) (pos 0) (pos 0) (pos 0) (pos 0) (pos 0)

-- 400.00 is repaid, as of February
abbrev pub repaid_row : Transaction
repaid_row = worked 9 march (debit 40000) (credit 38333) (credit 1667) (pos 0) (pos 0) (pos 0)

-- that is taken back
abbrev pub taken_back_row : Transaction
taken_back_row = worked 10 march (credit 40000) (debit 38333) (debit 1667) (pos 0) (pos 0) (pos 0)

-- what is outstanding is written off
abbrev pub written_off_row : Transaction
written_off_row = worked 11 march (pos 0) (credit 100000) (pos 0) (pos 0) (pos 0) (debit 100000)

-- that is taken back too
abbrev pub reinstated_row : Transaction
reinstated_row = worked 12 march (pos 0) (debit 100000) (pos 0) (pos 0) (pos 0) (credit 100000)

-- 1,100.00 is repaid, and 86.67 of it are too much
abbrev pub overpaid_row : Transaction
overpaid_row = worked 13 march (debit 110000) (credit 100000) (credit 1333) (pos 0) (credit 8667) (pos 0)

-- these are refunded
abbrev pub refunded_row : Transaction
refunded_row = worked 14 march (credit 8667) (pos 0) (pos 0) (pos 0) (debit 8667) (pos 0)

-- of its 14 lines of the journal these are on the loan; approval and waiver move nothing
abbrev pub worked_transactions : List Transaction
worked_transactions = approved_row ∷ paid_out_row ∷ waived_row ∷ repaid_row ∷ taken_back_row ∷ written_off_row
    ∷ reinstated_row ∷ overpaid_row ∷ refunded_row ∷ []

-- Books that begin after these days open with 33.33 of cash: what was repaid and not refunded, less what was lent.
-- Interest of 13.33 and the fee of 20.00 are its income.
abbrev pub worked_opening : List Posting
worked_opening = moved Cash (debit 3333) ∷ moved Principal (pos 0) ∷ moved Interest (credit 1333) ∷ moved Fees (pos 0)
    ∷ moved Penalties (pos 0) ∷ moved DisbursementFees (credit 2000) ∷ moved Overpaid (pos 0)
    ∷ moved WrittenOff (pos 0) ∷ []

-- ---- on an accrual basis

-- an adjusting transaction of the loan that moves interest alone
abbrev pub adjusted : ℕ → ℕ → ℤ → ℤ → ℤ → ℤ → Transaction
adjusted number day receivable waived written_off interest = record {
  number = number;
  day = day;
  loan = account 1 1;
  postings = moved InterestReceivable receivable ∷ moved InterestWaived waived ∷ moved InterestWrittenOff written_off
      ∷ moved Interest interest ∷ moved FeesReceivable (pos 0) ∷ moved FeesWaived (pos 0)
      ∷ moved FeesWrittenOff (pos 0) ∷ moved Fees (pos 0) ∷ moved PenaltiesReceivable (pos 0)
      ∷ moved PenaltiesWaived (pos 0) ∷ moved PenaltiesWrittenOff (pos 0) ∷ moved Penalties (pos 0) ∷ [];
}

-- Interest of 10.00 and of 6.67 falls due while the business day moves to 2024-03-31. 6.67 is waived, which becomes an
-- expense. The repayment pays both, so that nothing is receivable and nothing waived, until it is taken back. The
-- write-off takes 3.33 with it that is not yet due. At last 13.33 is paid, 3.33 of it ahead of time.
abbrev pub worked_adjustments : List Transaction
worked_adjustments =
    adjusted 7 february (debit 1000) (pos 0) (pos 0) (credit 1000)
    ∷ adjusted 7 march (debit 667) (pos 0) (pos 0) (credit 667)
    ∷ adjusted 8 march (credit 667) (debit 667) (pos 0) (pos 0)
    ∷ adjusted 9 march (credit 1000) (credit 667) (pos 0) (debit 1667)
    ∷ adjusted 10 march (debit 1000) (debit 667) (pos 0) (credit 1667)
    ∷ adjusted 11 march (credit 1000) (pos 0) (debit 1333) (credit 333)
    ∷ adjusted 12 march (debit 1000) (pos 0) (credit 1333) (debit 333)
    ∷ adjusted 13 march (credit 1000) (pos 0) (pos 0) (debit 1000)
    ∷ []
