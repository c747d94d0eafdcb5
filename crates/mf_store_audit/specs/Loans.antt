-- What is wrong with rows of loans.
use Rattle.std.specs.Prelude.{◌≡◌, ◌≢◌, ℕ, ◌≤◌, ◌≤ℤ◌, ◌<◌, ◌==◌, ◌&&◌, Bool, true, false, List, Option, Some, None}
use Rattle.std.specs.List.{list_any}
use Rattle.mf_base.specs.DayText.{last_entered_day, day_text}
use Rattle.mf_model.specs.Institution.{item_numbered}
use Rattle.mf_model.specs.Sound.{IsStageBy}
use Rattle.mf_model.specs.Stages.{stage_number}
use Rattle.mf_model.specs.declared.loan.Stage.{Stage}
use Rattle.mf_store_values.specs.Flat.{approval_text, disbursal_text}
use Rattle.mf_store_schema.specs.Rows.{by_loan}
use Rattle.mf_store_schema.specs.declared.clients.ClientRow.{ClientRow}
use Rattle.mf_store_schema.specs.declared.loans.LoanRow.{LoanRow}
use Rattle.mf_store_schema.specs.declared.offices.OfficeRow.{OfficeRow}
use Rattle.mf_store_schema.specs.declared.products.ProductRow.{ProductRow}
use Rattle.mf_store_sound.specs.Stages.{IsStageOf}
use Rattle.mf_store_audit.specs.Catalogue.{IsNoNumber}
use Rattle.mf_store_audit.specs.Offices.{is_office}
use Rattle.mf_store_audit.specs.Places.{number_within, IsAfter}
use Rattle.mf_store_audit.specs.declared.loans.LoanSetting.{LoanSetting}
use Rattle.mf_store_audit.specs.declared.finding.LoanFlaw.{LoanFlaw}
use Rattle.mf_store_audit.specs.declared.finding.LoanFlaw.TheVariants as loan

-- a client of this office and number is there
abbrev pub is_client : List ClientRow → ℕ → ℕ → Bool
is_client clients office number = list_any (λ (c : ClientRow). (c.office == office) && (c.number == number)) clients

-- the text of a day that can be entered where one is needed, and no text where none is
abbrev pub IsDayIf : Bool → Option (List ℕ) → Type 0
IsDayIf true text = (day : ℕ) × (day ≤ last_entered_day) × (Some (day_text day) ≡ text)
IsDayIf false text = text ≡ None

-- no stage with the row's status has such a text, of a day that can be entered
abbrev pub IsNoStageText : (Stage → Option (List ℕ)) → ℕ → Option (List ℕ) → Type 0
IsNoStageText text_of number text =
    (s : Stage) → IsStageBy last_entered_day s → stage_number s ≡ number → text_of s ≢ text

-- a row of a loan, after another, over these offices, clients and products, on a business day
abbrev pub BreaksLoan : ℕ → List OfficeRow → List ClientRow → List ProductRow → LoanFlaw → Option LoanRow
    → LoanRow → Type 0
BreaksLoan today offices clients products loan.Order before row = ¬ IsAfter by_loan before row
BreaksLoan today offices clients products loan.Office before row = is_office offices row.office ≡ false
BreaksLoan today offices clients products loan.Number before row =
    row.number ≢ number_within (λ (l : LoanRow). l.office == row.office) (λ l. l.number) before
BreaksLoan today offices clients products loan.Limit before row = 999999 < row.number
BreaksLoan today offices clients products loan.Client before row = is_client clients row.office row.client ≡ false
BreaksLoan today offices clients products loan.Product before row = item_numbered products row.product ≡ None
BreaksLoan today offices clients products loan.Principal before row =
    (p : ProductRow) → item_numbered products row.product ≡ Some p
    → ¬ ((p.min_principal ≤ℤ row.principal) × (row.principal ≤ℤ p.max_principal))
BreaksLoan today offices clients products loan.Periods before row =
    (p : ProductRow) → item_numbered products row.product ≡ Some p
    → ¬ ((p.min_periods ≤ row.periods) × (row.periods ≤ p.max_periods))
BreaksLoan today offices clients products loan.Stage before row = IsNoNumber stage_number row.stage
BreaksLoan today offices clients products loan.Approved before row = IsNoStageText approval_text row.stage row.approved
BreaksLoan today offices clients products loan.Disbursed before row =
    IsNoStageText disbursal_text row.stage row.disbursed
BreaksLoan today offices clients products loan.Days before row = ¬ IsStageOf today row.stage row.approved row.disbursed

-- the same under a setting
abbrev pub BreaksLoanIn : LoanSetting → LoanFlaw → Option LoanRow → LoanRow → Type 0
BreaksLoanIn s = BreaksLoan s.today s.offices.now s.clients.now s.products.now
