use Rattle.std.proofs.Common.{◌≡◌, Option, Some, None, refl, ap}
use Rattle.mf_base.specs.declared.fault.Fault.TheVariants.{F2}
use Rattle.mf_office.specs.declared.caller.Caller.{Caller}
use Rattle.mf_model.specs.declared.request.Request.{Request}
use Rattle.mf_model.specs.Institution.{Institution, Staff}
use Rattle.mf_model.specs.Desk.{Plan, On_office, reply_in, where_permitted, staff_at}
use Rattle.mf_model.specs.Loans.{on_loan, in_loan}
use Rattle.mf_model.specs.declared.request.LoanRequest.TheVariants as asks
use Rattle.mf_sheet_lines.specs.declared.line.SheetRepayment.{SheetRepayment}
use Rattle.mf_sheet_lines.specs.declared.line.SheetLine.TheVariants.{Repay}
use Rattle.mf_sheet_lines.specs.declared.results.SheetResult.TheVariants.{Refused}
use Rattle.mf_sheet.specs.Lines.{request_of_line, result_of}
use Rattle.mf_sheet.proofs.laws.refused_by_sender.Goals as goal

unknown_refused : (c : Caller) (request : Request) (p : Plan) (staff : Option Staff) (i : Institution) → staff ≡ None
    → result_of (reply_in (where_permitted c request p staff i)) ≡ Refused F2
unknown_refused c request p staff i e = ap (λ s. result_of (reply_in (where_permitted c request p s i))) e

pub returns-clause-bad : goal.returns-clause-bad
returns-clause-bad c = λ told caller i. refl

-- what a repayment looks at
looked_at : SheetRepayment → Plan
looked_at r = On_office r.loan.office (λ k catalogue f. in_loan r.loan (on_loan (asks.Repay (record {
  amount = r.amount;
  day = r.day;
  receipt = Some r.receipt;
})) k catalogue f.rows r.loan.number) f.rows)

pub returns-clause-unknown : goal.returns-clause-unknown
unfolding looked_at
returns-clause-unknown c = λ told caller i r unknown. unknown_refused caller (request_of_line (Repay r)) (looked_at r)
    (staff_at i caller) i unknown
