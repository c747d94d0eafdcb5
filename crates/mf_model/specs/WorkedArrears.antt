-- Days of a disbursed loan and what the report of arrears says of it, line by line.
use Rattle.std.specs.Prelude.{ℕ, ◌+◌, List, [], ◌∷◌, ◌++◌, codes, None, Result, Ok}
use Rattle.mf_base.specs.declared.fault.Fault.{Fault}
use Rattle.mf_office.specs.declared.staff.Role.TheVariants.{Teller}
use Rattle.mf_arrears.specs.Line.{OfficeLine, line_of_loans}
use Rattle.mf_catalog.specs.declared.terms.StrategyName.TheVariants.{PrincipalFirst}
use Rattle.mf_statement.specs.WorkedRows.{february, april}
use Rattle.mf_model.specs.declared.reply.Reply.{Reply}
use Rattle.mf_model.specs.declared.reply.Reply.TheVariants.{OfficeMade, StaffMade, DaySet, ArrearsShown}
use Rattle.mf_model.specs.declared.request.CatalogueRequest.TheVariants.{SetDay}
use Rattle.mf_model.specs.declared.request.OfficeRequest.TheVariants.{AddStaff}
use Rattle.mf_model.specs.declared.request.Request.TheVariants.{Catalogue, Office, NewOffice, SeenArrears}
use Rattle.mf_model.specs.Run.{Line}
use Rattle.mf_model.specs.WorkedRows.{caller, row, usual}
use Rattle.mf_model.specs.WorkedAccounts.{start_by, common_start, repayment_row}

-- the report of a member of staff
abbrev pub report_row : ℕ → ℕ → List OfficeLine → Line × Result Reply Fault
report_row office number lines = row (caller office number) SeenArrears (Ok (ArrearsShown lines))

-- the line of office 1 with one loan: its outstanding principal, and that of 1 to 30 and of 31 to 60 days
abbrev pub one_loan : ℕ → ℕ → ℕ → OfficeLine
one_loan outstanding to_thirty to_sixty = record {
  office = 1;
  loans = 1;
  outstanding = outstanding;
  c1_30 = to_thirty;
  c31_60 = to_sixty;
  c61_90 = 0;
  over_90 = 0;
}

-- a later business day
abbrev pub day_comes : ℕ → Line × Result Reply Fault
day_comes day = row (caller 1 1) (Catalogue (SetDay day)) (Ok (DaySet day))

-- the first instalment is paid, and the second falls due on 2024-03-31: 30 and 31 days later, and then beside an office
-- without loans
abbrev pub thirty_days : List (Line × Result Reply Fault)
thirty_days = common_start ++ (
    repayment_row 34333 february 1
    ∷ report_row 1 1 (one_loan 66667 0 0 ∷ [])
    ∷ day_comes april
    ∷ report_row 1 1 (one_loan 66667 66667 0 ∷ [])
    ∷ day_comes (april + 1)
    ∷ report_row 1 1 (one_loan 66667 0 66667 ∷ [])
    ∷ row (caller 1 1) (NewOffice 2 1 (codes "North")) (Ok (OfficeMade 2))
    ∷ row (caller 1 1) (Office 2 (AddStaff (codes "Ben") Teller)) (Ok (StaffMade (record { office = 2; staff = 1 })))
    ∷ report_row 1 1 (one_loan 66667 0 66667 ∷ line_of_loans 2 [] ∷ [])
    ∷ report_row 2 1 (line_of_loans 2 [] ∷ [])
    ∷ []
    )

-- where interest alone is left the loan still counts, and once it is paid it does not
abbrev pub interest_left : List (Line × Result Reply Fault)
interest_left = start_by (record (usual None) { strategy = PrincipalFirst }) ++ (
    repayment_row 101667 february 1
    ∷ report_row 1 1 (one_loan 0 0 0 ∷ [])
    ∷ repayment_row 333 february 2
    ∷ report_row 1 1 (line_of_loans 1 [] ∷ [])
    ∷ []
    )
