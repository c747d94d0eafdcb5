-- The text by which a line of a sheet is noted reads as its repayment.
use Rattle.std.proofs.Common.{◌≡◌, ℕ, List, [], ◌∷◌, ◌++◌, Some, refl, ap, ◌∙◌}
use Rattle.std.specs.Prelude.{codes, option_map, option_and_then}
use Rattle.mf_office.specs.Texts.{IsAccount, account_of}
use Rattle.mf_office.specs.Written.{zero_padded, account_text}
use Rattle.mf_office.specs.declared.account.Account.{Account}
use Rattle.mf_office.proofs.ReadLemmas.{account_of-text}
use Rattle.mf_model.specs.Notes.{repayment_body}
use Rattle.mf_model.specs.declared.request.LoanRequest.{LoanRequest}
use Rattle.mf_model.specs.declared.request.LoanRequest.TheVariants.{Repay}
use Rattle.mf_model.specs.declared.request.Request.TheVariants.{Loan}
use Rattle.mf_wire_requests.specs.declared.routes.LoanEndpoint.TheVariants as endpoint
use Rattle.mf_wire_requests.specs.Bodies.{json_of}
use Rattle.mf_wire_requests.specs.LoanRequests.{repayment_request, request_on_loan}
use Rattle.mf_wire_requests.specs.PathParts.{PathParts}
use Rattle.mf_wire_requests.specs.Requests.{or_malformed, asked_on, request_of}
use Rattle.mf_wire_requests.specs.Routes.{route_at}
use Rattle.mf_play.specs.Play.{if_readable}
use Rattle.mf_journal_runs.proofs.Bodies.{IsEntered, repayment_read}
use Rattle.mf_journal_runs.proofs.Figures.{AreFigures, account_figures}
use Rattle.mf_journal_runs.proofs.Paths.{path_of, route_is, parts_are, repayments_route}

-- what is asked on the route of repayments
on_route : (text body : List ℕ) → AreFigures text
    → asked_on (Some repayments_route) (codes "POST") (path_of text) body
    ≡ or_malformed (option_and_then (λ loan. option_map (λ asked. Loan loan asked)
    (option_and_then repayment_request (json_of body))) (account_of text))
on_route text body figures =
    ap (λ (parts : PathParts). or_malformed (request_on_loan endpoint.Repay parts body)) (parts_are text figures)

asked_of : (text body : List ℕ) (loan : Account) (asked : LoanRequest) → AreFigures text
    → route_at (path_of text) ≡ Some repayments_route → account_of text ≡ Some loan
    → option_and_then repayment_request (json_of body) ≡ Some asked
    → request_of (codes "POST") (path_of text) body ≡ Loan loan asked
unfolding request_of
asked_of text body loan asked figures route account members =
    ap (λ r. asked_on r (codes "POST") (path_of text) body) route
    ∙ on_route text body figures
    ∙ ap (λ o. or_malformed (option_and_then (λ x. option_map (λ y. Loan x y)
    (option_and_then repayment_request (json_of body))) o)) account
    ∙ ap (λ o. or_malformed (option_map (λ y. Loan loan y) o)) members

-- a text of figures that isn't empty has the route
routed : (text rest : List ℕ) (b : ℕ) → AreFigures (text ++ b ∷ rest)
    → route_at (path_of (text ++ b ∷ rest)) ≡ Some repayments_route
routed [] rest b figures = route_is b rest figures
routed (x ∷ xs) rest b figures = route_is x (xs ++ b ∷ rest) figures

pub reads_back : (loan : Account) (amount day : ℕ) (receipt : List ℕ) → IsAccount loan
    → IsEntered amount day receipt
    → if_readable (request_of (codes "POST") (path_of (account_text loan.office loan.number))
    (repayment_body amount day receipt))
    ≡ Some (Loan loan (Repay (record { amount = amount; day = day; receipt = Some receipt })))
reads_back loan amount day receipt is_account is =
    let text = account_text loan.office loan.number in
    let figures = account_figures loan is_account in
    ap if_readable (asked_of text (repayment_body amount day receipt) loan _ figures
    (routed (zero_padded 4 loan.office) (zero_padded 6 loan.number) 45 figures)
    (account_of-text text loan is_account refl) (repayment_read amount day receipt is))
