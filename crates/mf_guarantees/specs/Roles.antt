-- Which requests are repayments, and which give money up.
use Rattle.std.specs.Prelude.{Bool, true, false}
use Rattle.mf_model.specs.declared.request.LoanRequest.{LoanRequest}
use Rattle.mf_model.specs.declared.request.LoanRequest.TheVariants.{Repay, Post, Reverse, ChargeFee, Take, Show}
use Rattle.mf_model.specs.declared.request.LoanRequest.TheVariants.{ShowInstalments, ShowEntries}
use Rattle.mf_model.specs.declared.request.Posting.TheVariants.{Waiver, WriteOff, Refund, Penalty}
use Rattle.mf_model.specs.declared.request.Request.{Request}
use Rattle.mf_model.specs.declared.request.Request.TheVariants as request

-- a request on a loan that enters a repayment
abbrev pub is_repayment_on_loan : LoanRequest → Bool
is_repayment_on_loan (Repay repayment) = true
is_repayment_on_loan _ = false

-- a request that enters a repayment
abbrev pub is_repayment : Request → Bool
is_repayment (request.Loan loan asked) = is_repayment_on_loan asked
is_repayment _ = false

-- A request on a loan that gives money up, hands it back or takes an entry back. Each kind is named, so that a new one
-- is asked for.
abbrev pub is_concession_on_loan : LoanRequest → Bool
is_concession_on_loan (Post (Waiver instalment portion)) = true
is_concession_on_loan (Post WriteOff) = true
is_concession_on_loan (Post Refund) = true
is_concession_on_loan (Reverse entry) = true
is_concession_on_loan (Post (Penalty instalment)) = false
is_concession_on_loan (Repay repayment) = false
is_concession_on_loan (ChargeFee charge due) = false
is_concession_on_loan (Take step) = false
is_concession_on_loan Show = false
is_concession_on_loan ShowInstalments = false
is_concession_on_loan ShowEntries = false

-- a request that does so
abbrev pub is_concession : Request → Bool
is_concession (request.Loan loan asked) = is_concession_on_loan asked
is_concession _ = false
