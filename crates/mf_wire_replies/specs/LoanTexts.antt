-- How loans are shown.
use Rattle.std.specs.Prelude.{ℕ, codes, List, map, Option, Some, None}
use Rattle.serde_json.specs.Data.{Data, null, string, array, object, Members, member, no_members}
use Rattle.serde_json.specs.View.{items_of}
use Rattle.mf_base.specs.DayText.{day_text}
use Rattle.mf_office.specs.Written.{account_text}
use Rattle.mf_office.specs.declared.account.Account.{Account}
use Rattle.mf_alloc.specs.declared.row.Portion.TheVariants.{Penalty, Fee, Interest, Principal}
use Rattle.mf_model.specs.declared.loan.LoanLine.{LoanLine}
use Rattle.mf_model.specs.declared.loan.Statement.{Statement}
use Rattle.mf_model.specs.declared.reply.LoanReply.{LoanReply}
use Rattle.mf_model.specs.declared.reply.LoanReply.TheVariants.{Shown, Instalments, Entries, Status, Entered, Repeated}
use Rattle.mf_model.specs.declared.reply.LoanReply.TheVariants.{Reversed}
use Rattle.mf_wire_replies.specs.Json.{whole}
use Rattle.mf_wire_replies.specs.AccountTexts.{sum_of, instalments_data, entries_data}

-- an account number, as its text
abbrev pub account_data : Account → Data
account_data account = string (account_text account.office account.number)

-- a day's text, or null where there is none
abbrev pub day_or_null : Option ℕ → Data
day_or_null None = null
day_or_null (Some day) = string (day_text day)

-- sums by portion
abbrev pub sums_data : List ℕ → Data
sums_data sums = object
    (member (codes "fees") (sum_of Fee sums)
    (member (codes "interest") (sum_of Interest sums)
    (member (codes "penalties") (sum_of Penalty sums)
    (member (codes "principal") (sum_of Principal sums) no_members))))

-- a loan's members from product on
abbrev pub loan_end : Statement → Members
loan_end loan =
    member (codes "product") (whole loan.product)
    (member (codes "refunded") (whole loan.balances.refunded)
    (member (codes "status") (whole loan.status)
    (member (codes "waived") (sums_data loan.balances.waived)
    (member (codes "written_off") (sums_data loan.balances.written_off) no_members))))

-- a loan's members from outstanding on
abbrev pub loan_rest : Statement → Members
loan_rest loan =
    member (codes "outstanding") (sums_data loan.balances.outstanding)
    (member (codes "overpaid") (whole loan.balances.overpaid)
    (member (codes "paid") (sums_data loan.balances.paid)
    (member (codes "periods") (whole loan.periods)
    (member (codes "principal") (whole loan.principal) (loan_end loan)))))

-- a loan, by the texts of its client's account and its own
abbrev pub loan_by_texts : List ℕ → List ℕ → Statement → Data
loan_by_texts client account loan = object
    (member (codes "client") (string client)
    (member (codes "day") (day_or_null loan.day)
    (member (codes "disbursement_fee") (whole loan.balances.disbursement_fee)
    (member (codes "loan") (string account) (loan_rest loan)))))

-- A loan as GET /loans/{loan} shows it. Its client has the loan's office.
abbrev pub loan_data : Account → Statement → Data
loan_data account loan =
    loan_by_texts (account_text account.office loan.client) (account_text account.office account.number) loan

-- a loan and its status
abbrev pub status_data : Account → ℕ → Data
status_data account status =
    object (member (codes "loan") (account_data account) (member (codes "status") (whole status) no_members))

-- an entry, by its number
abbrev pub entered_data : ℕ → Data
entered_data entry = object (member (codes "entry") (whole entry) no_members)

-- what is told of a loan
abbrev pub told_data : Account → LoanReply → Data
told_data account (Shown loan) = loan_data account loan
told_data account (Instalments lines) = instalments_data lines
told_data account (Entries lines) = entries_data lines
told_data account (Status status) = status_data account status
told_data account (Entered entry) = entered_data entry
told_data account (Repeated entry) = entered_data entry
told_data account (Reversed entry) = entered_data entry

-- 201 where an entry was made, 200 where something is shown, was there already or counts no more
abbrev pub told_status : LoanReply → ℕ
told_status (Shown loan) = 200
told_status (Instalments lines) = 200
told_status (Entries lines) = 200
told_status (Status status) = 200
told_status (Entered entry) = 201
told_status (Repeated entry) = 200
told_status (Reversed entry) = 200

-- a loan in a list of loans
abbrev pub loan_line_data : LoanLine → Data
loan_line_data line = status_data line.loan line.status

-- the loans of an office
abbrev pub lines_data : List LoanLine → Data
lines_data lines = object (member (codes "loans") (array (items_of (map loan_line_data lines))) no_members)
