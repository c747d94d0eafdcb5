-- What is told of arrears: a line for each office that the caller sees, over its active loans.
use Rattle.std.specs.Prelude.{ℕ, cond, List, [], ◌∷◌, ◌==◌, map, pos, slice_index, Option, Some, None, Result, Ok}
use Rattle.std.specs.List.{flat_map}
use Rattle.mf_base.specs.declared.fault.Fault.{Fault}
use Rattle.mf_alloc.specs.Rows.{place_in_row}
use Rattle.mf_alloc.specs.declared.row.Portion.TheVariants.{Principal}
use Rattle.mf_account.specs.Balance.{balances_of}
use Rattle.mf_account.specs.Loan.{DisbursedLoan, state_of_loan, status_of_loan}
use Rattle.mf_arrears.specs.Ageing.{days_overdue}
use Rattle.mf_arrears.specs.Line.{AgedLoan, OfficeLine, line_of_loans}
use Rattle.mf_model.specs.declared.reply.Reply.{Reply}
use Rattle.mf_model.specs.declared.reply.Reply.TheVariants.{ArrearsShown}
use Rattle.mf_model.specs.Accounts.{account_in}
use Rattle.mf_model.specs.Institution.{Institution, Catalogue, Office, Ledger}
use Rattle.mf_model.specs.Tree.{seen_by}

-- what is outstanding of the principal of an account
abbrev pub principal_left : DisbursedLoan → ℕ
principal_left a = slice_index (balances_of a).outstanding (place_in_row Principal)

-- an account as the report counts it on a day
abbrev pub aged_loan : ℕ → DisbursedLoan → AgedLoan
aged_loan today a = record { principal = principal_left a; days = pos (days_overdue (state_of_loan a).rows today) }

-- an account where it is active: its status is 300
abbrev pub if_active : ℕ → Option DisbursedLoan → List AgedLoan
if_active today None = []
if_active today (Some a) = cond (status_of_loan a == 300) (aged_loan today a ∷ []) []

-- the active ones of these loans, on the business day
abbrev pub active_in : Catalogue → List Ledger → List AgedLoan
active_in k ls = flat_map (λ l. if_active k.day (account_in k l)) ls

-- an office's line; one without active loans has its line too
abbrev pub arrears_line : Catalogue → Office → OfficeLine
arrears_line k f = line_of_loans f.number (active_in k f.rows.loans)

-- the lines of the offices at or below office o, by number
abbrev pub arrears_seen : ℕ → Institution → List OfficeLine
arrears_seen o i = map (arrears_line i.catalogue) (seen_by o i.offices)

-- the lines of the offices that the caller sees, by number
abbrev pub list_arrears : Catalogue → List Office → Result Reply Fault
list_arrears k fs = Ok (ArrearsShown (map (arrears_line k) fs))
