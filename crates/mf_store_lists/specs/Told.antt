-- What is told of one loan after another of an office.
use Rattle.std.specs.Prelude.{ℕ, Bool, cond, ◌&&◌, ◌||◌, ◌==◌, nat_lt, List, [], ◌∷◌}
use Rattle.mf_lists.specs.declared.lines.ClientLoan.{ClientLoan}
use Rattle.mf_lists.specs.declared.lines.StageLine.{StageLine}
use Rattle.mf_lists.specs.Lists.{client_loan, is_of_client, stage_day, stage_line}
use Rattle.mf_model.specs.declared.loan.Loan.{Loan}
use Rattle.mf_model.specs.Accounts.{status_in}
use Rattle.mf_model.specs.Institution.{Catalogue, Ledger, Rows}

-- what is told where something is so, else nothing
abbrev pub told_if : {Y : Type 0} → Bool → Y → List Y
told_if is y = cond is (y ∷ []) []

-- ---- loans of a status

-- the status of a loan that was disbursed is one of these
abbrev pub is_of_disbursed : ℕ → Bool
is_of_disbursed status = (status == 300) || (status == 600) || (status == 601) || (status == 700)

-- a loan as it is told among those of its status, with its client's name
abbrev pub staged_line : ℕ → Loan → List ℕ → StageLine
staged_line number loan name = record {
  loan = number;
  client = loan.client;
  name = name;
  product = loan.product;
  principal = loan.principal;
  day = stage_day loan.stage;
}

-- a loan of an office, where its number is above one and it has a status
abbrev pub stage_told : ℕ → ℕ → Catalogue → Rows → ℕ × Ledger → List StageLine
stage_told status after k rows l = told_if (nat_lt after l.0 && (status_in k l.1 == status)) (stage_line rows l)

-- ---- loans of a client

-- a loan, where it is one of this client
abbrev pub client_told : ℕ → Catalogue → ℕ × Ledger → List ClientLoan
client_told client k l = told_if (is_of_client client l.1) (client_loan k l)
