-- What requests on loans ask.
use Rattle.std.specs.Prelude.{ℕ, Bool, true, false, List, codes, Option, Some, option_map, option_and_then}
use Rattle.serde_json.specs.Data.{Data}
use Rattle.mf_catalog.specs.Limits.{greatest_amount, most_periods}
use Rattle.mf_model.specs.declared.request.OfficeRequest.TheVariants.{SubmitLoan, ListLoans}
use Rattle.mf_model.specs.declared.request.LoanRequest.{LoanRequest}
use Rattle.mf_model.specs.declared.request.LoanRequest.TheVariants.{Show, ShowInstalments, ShowEntries, Take, Repay}
use Rattle.mf_model.specs.declared.request.LoanRequest.TheVariants.{ChargeFee, Post, Reverse}
use Rattle.mf_model.specs.declared.request.LoanStep.TheVariants.{Plain, Disburse}
use Rattle.mf_model.specs.declared.request.Posting.TheVariants.{Penalty, Waiver, WriteOff, Refund}
use Rattle.mf_model.specs.declared.request.Request.{Request}
use Rattle.mf_model.specs.declared.request.Request.TheVariants.{Office, Loan}
use Rattle.mf_wire_requests.specs.declared.routes.LoanEndpoint.{LoanEndpoint}
use Rattle.mf_wire_requests.specs.declared.routes.LoanEndpoint.TheVariants as endpoint
use Rattle.mf_wire_requests.specs.Bodies.{json_of, within, number_at, account_number_at, day_at, optional_receipt_at}
use Rattle.mf_wire_requests.specs.Named.{waivable_at}
use Rattle.mf_wire_requests.specs.PathParts.{PathParts, number_in, account_number_in}

-- a new loan, by the members client, product, principal and periods
abbrev pub new_loan_request : Data → Option Request
new_loan_request d =
    option_and_then (λ client.
    option_and_then (λ product.
    option_and_then (λ principal.
    option_map (λ periods. Office client.office (SubmitLoan (record {
      client = client.number;
      product = product;
      principal = principal;
      periods = periods;
    }))) (number_at 1 most_periods (codes "periods") d))
    (number_at 1 greatest_amount (codes "principal") d))
    (number_at 0 999999999 (codes "product") d))
    (account_number_at (codes "client") d)

-- the loans of an office above a number of at most 999,999, which a path names
abbrev pub loans_request : PathParts → Option Request
loans_request parts =
    option_and_then (λ office.
    option_map (λ after. Office office (ListLoans after)) (option_and_then (within 0 999999)
    (number_in (codes "after") parts)))
    (number_in (codes "office") parts)

-- a disbursement, by the member day
abbrev pub disbursement_request : Data → Option LoanRequest
disbursement_request d = option_map (λ day. Take (Disburse day)) (day_at (codes "day") d)

-- a repayment, by the members amount, day and receipt
abbrev pub repayment_request : Data → Option LoanRequest
repayment_request d =
    option_and_then (λ amount.
    option_and_then (λ day.
    option_map (λ receipt. Repay (record { amount = amount; day = day; receipt = receipt }))
    (optional_receipt_at (codes "receipt") d))
    (day_at (codes "day") d))
    (number_at 1 greatest_amount (codes "amount") d)

-- a fee, by the members charge and due
abbrev pub fee_request : Data → Option LoanRequest
fee_request d =
    option_and_then (λ charge.
    option_map (λ due. ChargeFee charge due) (day_at (codes "due") d))
    (number_at 0 999999999 (codes "charge") d)

-- an instalment, by its number in the member instalment
abbrev pub instalment_at : Data → Option ℕ
instalment_at d = number_at 1 999999999 (codes "instalment") d

-- a penalty, by the member instalment
abbrev pub penalty_request : Data → Option LoanRequest
penalty_request d = option_map (λ instalment. Post (Penalty instalment)) (instalment_at d)

-- a waiver, by the members instalment and portion
abbrev pub waiver_request : Data → Option LoanRequest
waiver_request d =
    option_and_then (λ instalment.
    option_map (λ portion. Post (Waiver instalment portion)) (waivable_at (codes "portion") d))
    (instalment_at d)

-- a reversal, by the number of an entry, or 0, that the path names
abbrev pub reversal_request : PathParts → Option LoanRequest
reversal_request parts = option_map (λ entry. Reverse entry) (number_in (codes "entry") parts)

-- what is asked of a loan has members, which stand in the body
abbrev pub loan_has_members : LoanEndpoint → Bool
loan_has_members endpoint.Show = false
loan_has_members endpoint.ShowInstalments = false
loan_has_members endpoint.ShowEntries = false
loan_has_members (endpoint.Step step) = false
loan_has_members endpoint.Disburse = true
loan_has_members endpoint.Repay = true
loan_has_members endpoint.ChargeFee = true
loan_has_members endpoint.ChargePenalty = true
loan_has_members endpoint.Waive = true
loan_has_members endpoint.WriteOff = false
loan_has_members endpoint.Refund = false
loan_has_members endpoint.Reverse = false

-- what is asked of a loan, by the members of the body where it has some, or by the path
abbrev pub loan_request : LoanEndpoint → PathParts → List ℕ → Option LoanRequest
loan_request endpoint.Show parts body = Some Show
loan_request endpoint.ShowInstalments parts body = Some ShowInstalments
loan_request endpoint.ShowEntries parts body = Some ShowEntries
loan_request (endpoint.Step step) parts body = Some (Take (Plain step))
loan_request endpoint.Disburse parts body = option_and_then disbursement_request (json_of body)
loan_request endpoint.Repay parts body = option_and_then repayment_request (json_of body)
loan_request endpoint.ChargeFee parts body = option_and_then fee_request (json_of body)
loan_request endpoint.ChargePenalty parts body = option_and_then penalty_request (json_of body)
loan_request endpoint.Waive parts body = option_and_then waiver_request (json_of body)
loan_request endpoint.WriteOff parts body = Some (Post WriteOff)
loan_request endpoint.Refund parts body = Some (Post Refund)
loan_request endpoint.Reverse parts body = reversal_request parts

-- what is asked of the loan that a path names
abbrev pub request_on_loan : LoanEndpoint → PathParts → List ℕ → Option Request
request_on_loan endpoint parts body = option_and_then (λ loan. option_map (λ asked. Loan loan asked)
    (loan_request endpoint parts body)) (account_number_in (codes "loan") parts)
