-- Clients and loans that a caller may not see, and those that aren't there.
use Rattle.std.specs.Prelude.{◌≡◌, ◌⊎◌, ℕ, Bool, false, is_some, Some}
use Rattle.mf_office.specs.Tree.{is_at_or_below}
use Rattle.mf_office.specs.declared.caller.Caller.{Caller}
use Rattle.mf_office.specs.declared.account.Account.{Account}
use Rattle.mf_model.specs.Calls.{Received, Call}
use Rattle.mf_model.specs.declared.request.LoanRequest.{LoanRequest}
use Rattle.mf_model.specs.declared.request.OfficeRequest.TheVariants.{ShowClient, SubmitLoan}
use Rattle.mf_model.specs.declared.request.Request.{Request}
use Rattle.mf_model.specs.declared.request.Request.TheVariants.{Office, Loan}
use Rattle.mf_model.specs.Institution.{Institution}
use Rattle.mf_model.specs.Tree.{parent_of}
use Rattle.mf_model.specs.Store.{client_at, ledger_at}

-- what is asked of an account: something of a loan; a client's name; or a loan to a client, of so much of a product for
-- so many periods
pub data Asked : Type 0 where
  Of_loan : LoanRequest → Asked
  Of_client : Asked
  Loan_to_client : ℕ → ℕ → ℕ → Asked

-- the request that asks it of this account
abbrev pub asked_of : Asked → Account → Request
asked_of (Of_loan asked) account = Loan account asked
asked_of Of_client account = Office account.office (ShowClient account.number)
asked_of (Loan_to_client product principal periods) account =
    Office account.office (SubmitLoan (record {
      client = account.number;
      product = product;
      principal = principal;
      periods = periods;
    }))

-- the account is there: a loan where a loan is asked for, else a client
abbrev pub is_account_there : Asked → Account → Institution → Bool
is_account_there (Of_loan asked) account i = is_some (ledger_at account i)
is_account_there Of_client account i = is_some (client_at account i)
is_account_there (Loan_to_client product principal periods) account i = is_some (client_at account i)

-- the account's office isn't at or below the caller's, or the account isn't there
abbrev pub IsUnseen : Caller → Asked → Account → Institution → Type 0
IsUnseen c asked account i = (is_at_or_below (parent_of i.offices) account.office c.office ≡ false)
    ⊎ (is_account_there asked account i ≡ false)

-- this caller sends a request in this text
abbrev pub call_from : Caller → Request → Received → Call
call_from c request received = record { caller = Some c; request = request; received = received }
