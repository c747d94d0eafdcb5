-- Days of a disbursed loan, line by line, with what each line is answered: 100000 cents at 12 percent for three months,
-- by equal principal, disbursed on 2024-01-31.
use Rattle.std.specs.Prelude.{ℕ, ◌+◌, ◌-◌, false, List, [], ◌∷◌, ◌++◌, codes, Option, Some, None, Result, Ok, Err}
use Rattle.mf_base.specs.declared.fault.Fault.{Fault}
use Rattle.mf_base.specs.declared.fault.Fault.TheVariants.{F9, F10, F15}
use Rattle.mf_catalog.specs.declared.product.ProductMembers.{ProductMembers}
use Rattle.mf_catalog.specs.declared.terms.StrategyName.TheVariants.{PrincipalFirst}
use Rattle.mf_alloc.specs.declared.row.Portion.{Portion}
use Rattle.mf_alloc.specs.declared.row.Portion.TheVariants.{Interest, Principal}
use Rattle.mf_alloc.specs.declared.row.Share.{Share}
use Rattle.mf_account.specs.declared.entry.Kind.TheVariants.{Repay}
use Rattle.mf_statement.specs.declared.lines.EntryLine.{EntryLine}
use Rattle.mf_statement.specs.declared.lines.InstalmentLine.{InstalmentLine}
pub use Rattle.mf_statement.specs.WorkedRows.{january, february, march, april, share}
use Rattle.mf_model.specs.declared.loan.Statement.{Statement}
use Rattle.mf_model.specs.declared.reply.Reply.{Reply}
use Rattle.mf_model.specs.declared.reply.Reply.TheVariants.{OfficeMade, ClientMade, ProductMade, ProductRetired}
use Rattle.mf_model.specs.declared.reply.Reply.TheVariants as reply
use Rattle.mf_model.specs.declared.reply.Reply.TheVariants.{LoanMade, DaySet, LoansShown}
use Rattle.mf_model.specs.declared.reply.LoanReply.{LoanReply}
use Rattle.mf_model.specs.declared.reply.LoanReply.TheVariants.{Shown, Instalments, Entries, Status, Entered, Repeated}
use Rattle.mf_model.specs.declared.request.CatalogueRequest.TheVariants.{SetDay, AddProduct, RetireProduct}
use Rattle.mf_model.specs.declared.request.LoanRequest.{LoanRequest}
use Rattle.mf_model.specs.declared.request.LoanRequest.TheVariants.{Show, ShowInstalments, ShowEntries, Take, Repay}
use Rattle.mf_model.specs.declared.request.LoanStep.TheVariants.{Plain, Disburse}
use Rattle.mf_model.specs.declared.request.PlainStep.TheVariants.{Approve}
use Rattle.mf_model.specs.declared.request.OfficeRequest.TheVariants.{SubmitLoan, ListLoans}
use Rattle.mf_model.specs.declared.request.Request.{Request}
use Rattle.mf_model.specs.declared.request.Request.TheVariants.{Catalogue, Office, Loan, NewOffice}
use Rattle.mf_model.specs.Accounts.{no_sums}
use Rattle.mf_model.specs.Run.{Line}
use Rattle.mf_model.specs.WorkedRows.{caller, account, enter_client, submit_request, take_step, status_reply}
use Rattle.mf_model.specs.WorkedRows.{loan_at_status, row}
use Rattle.mf_model.specs.WorkedRows.{usual}

-- a product, a client and a loan that is approved, on 2024-01-31
abbrev pub approved_by : ProductMembers → List (Line × Result Reply Fault)
approved_by product =
    row (caller 1 1) (Catalogue (AddProduct product)) (Ok (ProductMade 1))
    ∷ row (caller 1 1) (enter_client 1 (codes "Amina")) (Ok (ClientMade (account 1 1)))
    ∷ row (caller 1 1) (submit_request 1 100000 3) (Ok (LoanMade (account 1 1)))
    ∷ row (caller 1 1) (take_step Approve) (status_reply 200)
    ∷ []

-- the loan is disbursed, on a day
abbrev pub disburse : ℕ → Request
disburse day = Loan (account 1 1) (Take (Disburse day))

-- the loan is disbursed, and the business day becomes 2024-03-31
abbrev pub start_by : ProductMembers → List (Line × Result Reply Fault)
start_by product = approved_by product ++ (
    row (caller 1 1) (disburse january) (status_reply 300)
    ∷ row (caller 1 1) (Catalogue (SetDay march)) (Ok (DaySet march))
    ∷ []
    )

-- the common start, by a product without a charge
abbrev pub common_start : List (Line × Result Reply Fault)
common_start = start_by (usual None)

-- a repayment of loan n of office x
abbrev pub repay_request : ℕ → ℕ → ℕ → ℕ → Option (List ℕ) → Request
repay_request x n amount day receipt = Loan (account x n)
    (Repay (record { amount = amount; day = day; receipt = receipt }))

-- one of the first loan without a receipt, entered under a number
abbrev pub repayment_row : ℕ → ℕ → ℕ → Line × Result Reply Fault
repayment_row amount day seq = row (caller 1 1) (repay_request 1 1 amount day None)
    (Ok (reply.Loan (account 1 1) (Entered seq)))

-- one that is refused
abbrev pub not_repaid : ℕ → ℕ → Fault → Line × Result Reply Fault
not_repaid amount day fault = row (caller 1 1) (repay_request 1 1 amount day None) (Err fault)

-- what is told of the loan
abbrev pub show_row : LoanRequest → LoanReply → Line × Result Reply Fault
show_row asked told = row (caller 1 1) (Loan (account 1 1) asked) (Ok (reply.Loan (account 1 1) told))

-- the loans of the office: the one, with its status
abbrev pub listed_at : ℕ → Line × Result Reply Fault
listed_at status =
    row (caller 1 1) (Office 1 (ListLoans 0)) (Ok (LoansShown (record { loan = account 1 1; status = status } ∷ [])))

-- penalties, fees, interest and principal
abbrev pub sums : ℕ → ℕ → List ℕ
sums interest principal = 0 ∷ 0 ∷ interest ∷ principal ∷ []

-- the loan with what was repaid
abbrev pub stands_at : ℕ → List ℕ → List ℕ → ℕ → Statement
stands_at status paid outstanding overpaid = record {
  client = 1;
  product = 1;
  principal = 100000;
  periods = 3;
  day = Some january;
  status = status;
  balances = record {
    disbursement_fee = 0;
    owed = sums 2000 100000;
    paid = paid;
    waived = no_sums;
    written_off = no_sums;
    outstanding = outstanding;
    overpaid = overpaid;
    refunded = 0;
  };
}

-- the line of an instalment of which nothing else was settled
abbrev pub plain_line : ℕ → ℕ → ℕ → ℕ → ℕ → InstalmentLine
plain_line number due interest principal outstanding =
    record { number = number; due = due; owed = sums interest principal; outstanding = outstanding }

-- the line of a repayment with its shares
abbrev pub repayment_line : ℕ → ℕ → ℕ → List Share → EntryLine
repayment_line seq day amount shares = record {
  entry = record {
    seq = seq;
    kind = Repay;
    day = day;
    amount = amount;
    instalment = 0;
    portion = Principal;
    receipt = None;
    staff = record { office = 1; staff = 1 };
    reversed = false;
  };
  amount = amount;
  shares = shares;
}

-- the first repayment's line
abbrev pub first_line : EntryLine
first_line = repayment_line 1 february 20000 (share 1 Interest 1000 ∷ share 1 Principal 19000 ∷ [])

-- the second repayment's line
abbrev pub second_line : EntryLine
second_line = repayment_line 2 march 50000 (share 1 Principal 14333 ∷ share 2 Interest 667 ∷ share 2 Principal 33333
    ∷ share 3 Interest 333 ∷ share 3 Principal 1334 ∷ [])

-- two repayments, with what each settles and what is left
abbrev pub repaying : List (Line × Result Reply Fault)
repaying = common_start ++ (
    repayment_row 20000 february 1
    ∷ repayment_row 50000 march 2
    ∷ show_row Show (Shown (stands_at 300 (sums 2000 68000) (sums 0 32000) 0))
    ∷ show_row ShowEntries (Entries (first_line ∷ second_line ∷ []))
    ∷ []
    )

-- its instalments then
abbrev pub schedule_shown : List (Line × Result Reply Fault)
schedule_shown = common_start ++ (
    repayment_row 20000 february 1
    ∷ repayment_row 50000 march 2
    ∷ show_row ShowInstalments
    (Instalments (plain_line 1 february 1000 33333 0 ∷ plain_line 2 march 667 33333 0
    ∷ plain_line 3 april 333 33334 32000 ∷ []))
    ∷ []
    )

-- the same two the other way round: the one that is entered last counts from an earlier day
abbrev pub back_dated : List (Line × Result Reply Fault)
back_dated = common_start ++ (
    repayment_row 50000 march 1
    ∷ repayment_row 20000 february 2
    ∷ show_row Show (Shown (stands_at 300 (sums 2000 68000) (sums 0 32000) 0))
    ∷ []
    )

-- more than is owed, and then no more is taken
abbrev pub overpaying : List (Line × Result Reply Fault)
overpaying = common_start ++ (
    repayment_row 110000 march 1
    ∷ show_row Show (Shown (stands_at 700 (sums 2000 100000) no_sums 8000))
    ∷ listed_at 700
    ∷ not_repaid 1 march F9
    ∷ []
    )

-- principal before interest, under a product that lends no more
abbrev pub principal_first : List (Line × Result Reply Fault)
principal_first = start_by (record (usual None) { strategy = PrincipalFirst }) ++ (
    row (caller 1 1) (Catalogue (RetireProduct 1)) (Ok (ProductRetired 1))
    ∷ repayment_row 20000 february 1
    ∷ repayment_row 50000 march 2
    ∷ show_row Show (Shown (stands_at 300 (sums 1667 68333) (sums 333 31667) 0))
    ∷ show_row ShowEntries (Entries (
    repayment_line 1 february 20000 (share 1 Principal 20000 ∷ [])
    ∷ repayment_line 2 march 50000 (share 1 Principal 13333 ∷ share 1 Interest 1000 ∷ share 2 Principal 33333
    ∷ share 2 Interest 667 ∷ share 3 Principal 1667 ∷ [])
    ∷ []
    ))
    ∷ []
    )

-- a day before disbursement, and one after the business day
abbrev pub out_of_order : List (Line × Result Reply Fault)
out_of_order = common_start ++ (
    not_repaid 20000 (january - 1) F10
    ∷ not_repaid 20000 (march + 1) F10
    ∷ repayment_row 20000 january 1
    ∷ repayment_row 20000 march 2
    ∷ []
    )

-- the days on which it may be disbursed, and what may be done of it before
abbrev pub disbursing : List (Line × Result Reply Fault)
disbursing = approved_by (usual None) ++ (
    row (caller 1 1) (Catalogue (SetDay february)) (Ok (DaySet february))
    ∷ show_row Show (Shown (loan_at_status 200))
    ∷ show_row ShowInstalments (Instalments [])
    ∷ show_row ShowEntries (Entries [])
    ∷ not_repaid 20000 february F9
    ∷ row (caller 1 1) (disburse (january - 1)) (Err F10)
    ∷ row (caller 1 1) (disburse (february + 1)) (Err F10)
    ∷ row (caller 1 1) (disburse february) (status_reply 300)
    ∷ row (caller 1 1) (disburse february) (Err F9)
    ∷ listed_at 300
    ∷ []
    )

-- a repayment with a receipt, and what it is answered
abbrev pub sent_with : List ℕ → ℕ → ℕ → ℕ → ℕ → Result Reply Fault → Line × Result Reply Fault
sent_with receipt x n amount day reply = row (caller 1 1) (repay_request x n amount day (Some receipt)) reply

-- a reply on a loan
abbrev pub loan_reply : ℕ → ℕ → LoanReply → Result Reply Fault
loan_reply x n what = Ok (reply.Loan (account x n) what)

-- a receipt that is known is answered as it was, where the loan, the day and the amount are the same; it is one of its
-- office
abbrev pub receipt_lines : List (Line × Result Reply Fault)
receipt_lines = common_start ++ (
    sent_with (codes "R-1") 1 1 20000 february (loan_reply 1 1 (Entered 1))
    ∷ sent_with (codes "R-1") 1 1 20000 february (loan_reply 1 1 (Repeated 1))
    ∷ sent_with (codes "R-1") 1 1 20001 february (Err F15)
    ∷ sent_with (codes "R-1") 1 1 20000 march (Err F15)
    ∷ sent_with (codes "R-2") 1 1 82000 march (loan_reply 1 1 (Entered 2))
    ∷ sent_with (codes "R-3") 1 1 1 march (Err F9)
    ∷ sent_with (codes "R-1") 1 1 20000 february (loan_reply 1 1 (Repeated 1))
    ∷ row (caller 1 1) (submit_request 1 100000 3) (Ok (LoanMade (account 1 2)))
    ∷ sent_with (codes "R-1") 1 2 20000 february (Err F15)
    ∷ row (caller 1 1) (repay_request 1 2 20000 february None) (Err F9)
    ∷ row (caller 1 1) (NewOffice 2 1 (codes "North")) (Ok (OfficeMade 2))
    ∷ row (caller 1 1) (enter_client 2 (codes "Ben")) (Ok (ClientMade (account 2 1)))
    ∷ row (caller 1 1) (Office 2 (SubmitLoan (record { client = 1; product = 1; principal = 100000; periods = 3 })))
    (Ok (LoanMade (account 2 1)))
    ∷ row (caller 1 1) (Loan (account 2 1) (Take (Plain Approve))) (loan_reply 2 1 (Status 200))
    ∷ row (caller 1 1) (Loan (account 2 1) (Take (Disburse march))) (loan_reply 2 1 (Status 300))
    ∷ sent_with (codes "R-1") 2 1 20000 march (loan_reply 2 1 (Entered 1))
    ∷ []
    )
