-- Days of a disbursed loan with fees, penalties, waivers, a write-off, a refund and reversals, line by line, with what
-- each line is answered.
use Rattle.std.specs.Prelude.{ℕ, ◌+◌, ◌-◌, true, false, List, [], ◌∷◌, ◌++◌, codes, Some, None, Result, Ok, Err}
use Rattle.mf_base.specs.declared.fault.Fault.{Fault}
use Rattle.mf_base.specs.declared.fault.Fault.TheVariants.{F4, F8, F9, F10, F11, F12, F13, F14}
use Rattle.mf_catalog.specs.declared.charge.Calc.TheVariants.{Flat, OfInterest, OfBoth}
use Rattle.mf_catalog.specs.declared.charge.ChargeKind.TheVariants.{DueDate, Overdue}
use Rattle.mf_catalog.specs.declared.terms.StrategyName.{StrategyName}
use Rattle.mf_catalog.specs.declared.terms.StrategyName.TheVariants.{MifosStandard, PrincipalFirst, InterestFirst}
use Rattle.mf_alloc.specs.declared.row.Portion.{Portion}
use Rattle.mf_alloc.specs.declared.row.Portion.TheVariants as portion
use Rattle.mf_alloc.specs.declared.row.Share.{Share}
use Rattle.mf_account.specs.declared.entry.Entry.{Entry}
use Rattle.mf_account.specs.declared.entry.Kind.{Kind}
use Rattle.mf_account.specs.declared.entry.Kind.TheVariants as kind
use Rattle.mf_statement.specs.WorkedRows.{january, february, march, share, line_told}
use Rattle.mf_model.specs.declared.loan.Statement.{Statement}
use Rattle.mf_model.specs.declared.reply.Reply.{Reply}
use Rattle.mf_model.specs.declared.reply.Reply.TheVariants.{ChargeMade}
use Rattle.mf_model.specs.declared.reply.LoanReply.TheVariants.{Shown, Entries, Entered, Repeated, Reversed}
use Rattle.mf_model.specs.declared.request.CatalogueRequest.TheVariants.{AddCharge}
use Rattle.mf_model.specs.declared.request.LoanRequest.{LoanRequest}
use Rattle.mf_model.specs.declared.request.LoanRequest.TheVariants.{Show, ShowEntries, ChargeFee, Post, Reverse}
use Rattle.mf_model.specs.declared.request.Posting.{Posting}
use Rattle.mf_model.specs.declared.request.Posting.TheVariants.{Penalty, Waiver, WriteOff, Refund}
use Rattle.mf_model.specs.declared.request.Request.TheVariants.{Catalogue, Loan}
use Rattle.mf_model.specs.declared.waivable.Waivable.TheVariants.{Interest}
use Rattle.mf_model.specs.Accounts.{no_sums}
use Rattle.mf_model.specs.Run.{Line}
use Rattle.mf_model.specs.WorkedRows.{caller, account, row, usual}
use Rattle.mf_model.specs.WorkedAccounts.{start_by, common_start, repayment_row, not_repaid}
use Rattle.mf_model.specs.WorkedAccounts.{show_row, stands_at, sums, repayment_line, sent_with, loan_reply}

-- something asked of the first loan, and what it is answered
abbrev pub first_loan_row : LoanRequest → Result Reply Fault → Line × Result Reply Fault
first_loan_row what reply = row (caller 1 1) (Loan (account 1 1) what) reply

-- an entry that is made under a number, and one that is refused
abbrev pub posting_row : Posting → ℕ → Line × Result Reply Fault
posting_row what seq = first_loan_row (Post what) (loan_reply 1 1 (Entered seq))

-- an entry of the first loan that is refused
abbrev pub not_posted : Posting → Fault → Line × Result Reply Fault
not_posted what fault = first_loan_row (Post what) (Err fault)

-- a fee by the first charge, and one that is refused
abbrev pub fee_row : ℕ → ℕ → Line × Result Reply Fault
fee_row due seq = first_loan_row (ChargeFee 1 due) (loan_reply 1 1 (Entered seq))

-- a fee of the first loan that is refused
abbrev pub not_charged : ℕ → ℕ → Fault → Line × Result Reply Fault
not_charged charge due fault = first_loan_row (ChargeFee charge due) (Err fault)

-- an entry that counts no more, and one that does still
abbrev pub taken_back : ℕ → Line × Result Reply Fault
taken_back seq = first_loan_row (Reverse seq) (loan_reply 1 1 (Reversed seq))

-- a reversal of the first loan that is refused
abbrev pub not_taken_back : ℕ → Fault → Line × Result Reply Fault
not_taken_back seq fault = first_loan_row (Reverse seq) (Err fault)

-- a due-date charge of 500 cents
abbrev pub visit : Line × Result Reply Fault
visit = row (caller 1 1) (Catalogue (AddCharge (codes "Visit") DueDate Flat 500)) (Ok (ChargeMade 1))

-- an entry of the business day
abbrev pub entry_now : Kind → ℕ → ℕ → Portion → ℕ → Entry
entry_now kind seq instalment portion amount = record {
  seq = seq;
  kind = kind;
  day = march;
  amount = amount;
  instalment = instalment;
  portion = portion;
  receipt = None;
  staff = record { office = 1; staff = 1 };
  reversed = false;
}

-- all that the fresh schedule owes, cell by cell
abbrev pub whole_schedule : List Share
whole_schedule =
    share 1 portion.Interest 1000 ∷ share 1 portion.Principal 33333
    ∷ share 2 portion.Interest 667 ∷ share 2 portion.Principal 33333
    ∷ share 3 portion.Interest 333 ∷ share 3 portion.Principal 33334
    ∷ []

-- the loan with fees, by what of them is owed and paid
abbrev pub with_fees : ℕ → ℕ → Statement → Statement
with_fees owed paid s = record s {
  balances = record s.balances {
    owed = 0 ∷ owed ∷ 2000 ∷ 100000 ∷ [];
    paid = 0 ∷ paid ∷ 2000 ∷ 100000 ∷ [];
  };
}

-- a fee that is settled by what a payment of an earlier day left over: the share stands with the fee; without the fee
-- it is left over again
abbrev pub fee_paid_before : List (Line × Result Reply Fault)
fee_paid_before = common_start ++ (
    visit
    ∷ fee_row march 1
    ∷ repayment_row 102500 february 2
    ∷ show_row Show (Shown (with_fees 500 500 (stands_at 600 no_sums no_sums 0)))
    ∷ show_row ShowEntries (Entries (
    line_told (entry_now kind.Fee 1 2 portion.Fee 500) 500 (share 2 portion.Fee 500 ∷ [])
    ∷ repayment_line 2 february 102500 whole_schedule
    ∷ []
    ))
    ∷ taken_back 1
    ∷ show_row Show (Shown (stands_at 700 (sums 2000 100000) no_sums 500))
    ∷ []
    )

-- on which instalment a fee is laid by its due day, and which charge is none
abbrev pub fees_by_day : List (Line × Result Reply Fault)
fees_by_day = common_start ++ (
    visit
    ∷ not_charged 2 march F4
    ∷ not_charged 1 (january - 1) F10
    ∷ fee_row february 1
    ∷ fee_row (february + 1) 2
    ∷ fee_row (march + 45) 3
    ∷ row (caller 1 1) (Catalogue (AddCharge (codes "Late") Overdue Flat 500)) (Ok (ChargeMade 2))
    ∷ not_charged 2 march F8
    ∷ not_charged 2 (january - 1) F10
    ∷ row (caller 1 1) (Catalogue (AddCharge (codes "Speck") DueDate OfInterest 1)) (Ok (ChargeMade 3))
    ∷ not_charged 3 march F8
    ∷ show_row ShowEntries (Entries (
    line_told (entry_now kind.Fee 1 1 portion.Fee 500) 500 []
    ∷ line_told (entry_now kind.Fee 2 2 portion.Fee 500) 500 []
    ∷ line_told (entry_now kind.Fee 3 3 portion.Fee 500) 500 []
    ∷ []
    ))
    ∷ []
    )

-- a waiver clears what is outstanding as the entries stand now
abbrev pub waiving : List (Line × Result Reply Fault)
waiving = common_start ++ (
    posting_row (Waiver 2 Interest) 1
    ∷ show_row ShowEntries (Entries (line_told (entry_now kind.Waive 1 2 portion.Interest 0) 667
    (share 2 portion.Interest 667 ∷ []) ∷ []))
    ∷ not_posted (Waiver 2 Interest) F14
    ∷ not_posted (Waiver 4 Interest) F14
    ∷ repayment_row 40000 february 2
    ∷ show_row Show (Shown (stands_at 300 (sums 1667 38333) (sums 333 61667) 0))
    ∷ show_row ShowEntries (Entries (
    line_told (entry_now kind.Waive 1 2 portion.Interest 0) 0 []
    ∷ repayment_line 2 february 40000 (share 1 portion.Interest 1000 ∷ share 1 portion.Principal 33333
    ∷ share 2 portion.Interest 667 ∷ share 2 portion.Principal 5000 ∷ [])
    ∷ []
    ))
    ∷ []
    )

-- the common start with an overdue charge of 10 percent, under a strategy; the charge is entered first
abbrev pub overdue_start : StrategyName → List (Line × Result Reply Fault)
overdue_start strategy =
    row (caller 1 1) (Catalogue (AddCharge (codes "Late") Overdue OfBoth 1000)) (Ok (ChargeMade 1))
    ∷ start_by (record (usual None) { strategy = strategy; overdue_charge = Some 1 })

-- a penalty on the first instalment, of which one stands at most, and what a repayment then fills
abbrev pub penalty_by : StrategyName → List Share → List (Line × Result Reply Fault)
penalty_by strategy shares = overdue_start strategy ++ (
    posting_row (Penalty 1) 1
    ∷ not_posted (Penalty 1) F14
    ∷ not_posted (Penalty 2) F14
    ∷ not_posted (Penalty 4) F14
    ∷ repayment_row 5000 march 2
    ∷ show_row ShowEntries (Entries (
    line_told (entry_now kind.Penalty 1 1 portion.Penalty 3433) 3433 []
    ∷ repayment_line 2 march 5000 shares
    ∷ []
    ))
    ∷ []
    )

-- a penalty, and what is paid by the standard strategy
abbrev pub penalties_first : List (Line × Result Reply Fault)
penalties_first = penalty_by MifosStandard (share 1 portion.Penalty 3433 ∷ share 1 portion.Interest 1000
    ∷ share 1 portion.Principal 567 ∷ [])

-- the same where principal comes first
abbrev pub principal_before : List (Line × Result Reply Fault)
principal_before = penalty_by PrincipalFirst (share 1 portion.Principal 5000 ∷ [])

-- the same where interest comes first
abbrev pub interest_before : List (Line × Result Reply Fault)
interest_before = penalty_by InterestFirst (share 1 portion.Interest 1000 ∷ share 1 portion.Principal 4000 ∷ [])

-- a penalty that is reversed leaves its money to the rest, and may be entered again
abbrev pub penalty_taken_back : List (Line × Result Reply Fault)
penalty_taken_back = overdue_start MifosStandard ++ (
    posting_row (Penalty 1) 1
    ∷ repayment_row 5000 march 2
    ∷ taken_back 1
    ∷ show_row ShowEntries (Entries (
    line_told (record (entry_now kind.Penalty 1 1 portion.Penalty 3433) { reversed = true }) 3433 []
    ∷ repayment_line 2 march 5000 (share 1 portion.Interest 1000 ∷ share 1 portion.Principal 4000 ∷ [])
    ∷ []
    ))
    ∷ posting_row (Penalty 1) 3
    ∷ []
    )

-- an entry that is reversed leaves its place to the later ones
abbrev pub reversing : List (Line × Result Reply Fault)
reversing = common_start ++ (
    repayment_row 20000 february 1
    ∷ repayment_row 50000 march 2
    ∷ taken_back 1
    ∷ show_row Show (Shown (stands_at 300 (sums 1667 48333) (sums 333 51667) 0))
    ∷ not_taken_back 1 F13
    ∷ not_taken_back 9 F12
    ∷ not_taken_back 0 F12
    ∷ []
    )

-- the loan with what was refunded
abbrev pub with_refund : ℕ → Statement → Statement
with_refund amount s = record s { balances = record s.balances { refunded = amount } }

-- what is overpaid is given back; the refund seals the loan until it is reversed
abbrev pub refunding : List (Line × Result Reply Fault)
refunding = common_start ++ (
    not_posted Refund F9
    ∷ repayment_row 110000 march 1
    ∷ posting_row Refund 2
    ∷ show_row Show (Shown (with_refund 8000 (stands_at 600 (sums 2000 100000) no_sums 0)))
    ∷ not_taken_back 1 F11
    ∷ not_posted Refund F11
    ∷ taken_back 2
    ∷ show_row Show (Shown (stands_at 700 (sums 2000 100000) no_sums 8000))
    ∷ not_taken_back 2 F13
    ∷ []
    )

-- the loan with what was written off
abbrev pub with_write_off : ℕ → Statement → Statement
with_write_off principal s = record s { balances = record s.balances { written_off = sums 0 principal } }

-- what is outstanding is written off; the write-off seals the loan until it is reversed
abbrev pub writing_off : List (Line × Result Reply Fault)
writing_off = common_start ++ (
    repayment_row 20000 february 1
    ∷ repayment_row 50000 march 2
    ∷ posting_row WriteOff 3
    ∷ show_row Show (Shown (with_write_off 32000 (stands_at 601 (sums 2000 68000) no_sums 0)))
    ∷ not_repaid 1 march F11
    ∷ not_taken_back 1 F11
    ∷ taken_back 3
    ∷ show_row Show (Shown (stands_at 300 (sums 2000 68000) (sums 0 32000) 0))
    ∷ not_posted (Penalty 1) F14
    ∷ []
    )

-- a receipt stays known where its entry is reversed
abbrev pub receipt_of_a_reversed_entry : List (Line × Result Reply Fault)
receipt_of_a_reversed_entry = common_start ++ (
    sent_with (codes "R-1") 1 1 20000 february (loan_reply 1 1 (Entered 1))
    ∷ taken_back 1
    ∷ sent_with (codes "R-1") 1 1 20000 february (loan_reply 1 1 (Repeated 1))
    ∷ show_row Show (Shown (stands_at 300 no_sums (sums 2000 100000) 0))
    ∷ []
    )
