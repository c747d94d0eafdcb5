-- What the report of arrears is made of, a loan and an office at a time.
use Rattle.std.specs.Prelude.{◌≡◌, ◌<◌, ℕ, List, [], ◌∷◌, map}
use Rattle.std.specs.List.{AllByRecursion, flat_map}
use Rattle.sqlite.specs.Order.{Row}
use Rattle.mf_alloc.specs.Sums.{Instalment, IsWhole}
use Rattle.mf_office.specs.declared.office.Office.{Office}
pub use Rattle.mf_arrears.specs.Folding.{aged_rows}
use Rattle.mf_arrears.specs.Line.{AgedLoan, OfficeLine, line_of_loans}
use Rattle.mf_model.specs.Arrears.{active_in}
use Rattle.mf_model.specs.Institution.{Institution}
use Rattle.mf_model.specs.Store.{rows_at}
use Rattle.mf_store_schema.specs.Rows.{instalment_row}
use Rattle.mf_store_schema.specs.declared.instalments.InstalmentRow.{InstalmentRow}
use Rattle.mf_store_values.specs.Flat.{instalment_in}

-- the line of an office as it is shown
abbrev pub line_at : Institution → Office → OfficeLine
line_at i f = line_of_loans f.number (active_in i.catalogue (rows_at f.number i).loans)

-- a loan by its number, with its instalments and their numbers
abbrev pub NumberedLoan : Type 0
NumberedLoan = ℕ × List (ℕ × Instalment)

-- the rows of a loan's instalments, in this office
abbrev pub rows_of_loan : ℕ → NumberedLoan → List InstalmentRow
rows_of_loan office loan = map (instalment_in office loan.0) loan.1

-- the rows of an office's instalments, by loan and number: loan by loan, those of the loan
abbrev pub rows_of_office : ℕ → List NumberedLoan → List InstalmentRow
rows_of_office office loans = flat_map (rows_of_loan office) loans

-- the numbers of the loans are above this one, and ascend
abbrev pub AreAbove : ℕ → List NumberedLoan → Type 0
AreAbove n [] = Unit {0}
AreAbove n (l ∷ ls) = (n < l.0) × AreAbove l.0 ls

-- each instalment has its four sums of each kind
abbrev pub AreWholeLoans : List NumberedLoan → Type 0
AreWholeLoans loans = AllByRecursion (λ loan. AllByRecursion (λ item. IsWhole item.1) loan.1) loans

-- the loans that count on a day: those where something is outstanding in one of their instalments
abbrev pub aged_loans : ℕ → List NumberedLoan → List AgedLoan
aged_loans today loans = flat_map (λ loan. aged_rows today (map (λ item. item.1) loan.1)) loans

-- rows that are those of an office's instalments make of an empty line the line of its loans on that day
abbrev pub IsLineOf : ℕ → List Row → OfficeLine → OfficeLine → Type 0
IsLineOf today rows empty line = (office : ℕ) (loans : List NumberedLoan) → AreAbove 0 loans → AreWholeLoans loans
    → rows ≡ map instalment_row (rows_of_office office loans) → empty ≡ line_of_loans office []
    → line ≡ line_of_loans office (aged_loans today loans)
