-- What is shown of an instalment's principal.
use Rattle.std.specs.Prelude.{◌≡◌, ℕ, Bool, true, List, find, Some}
use Rattle.sqlite.specs.Order.{Row}
use Rattle.mf_alloc.specs.Sums.{Instalment, is_open}
use Rattle.mf_store_schema.specs.Rows.{sums_row}
use Rattle.mf_store_schema.specs.declared.instalments.InstalmentRow.{InstalmentRow}
use Rattle.mf_store_values.specs.Flat.{instalment_in}

-- what is owed, paid, waived and written off of it
abbrev pub principal_row : InstalmentRow → Row
principal_row x = sums_row x.principal

-- the sums whose row it is have something outstanding
abbrev pub IsOpenRow : InstalmentRow → Type 0
IsOpenRow r = (office loan number : ℕ) (sums : Instalment) → r ≡ instalment_in office loan (number, sums) → is_open sums
    ≡ true

-- the first of the rows that pass the test is such a row
pub record IsFirstOpen (test : InstalmentRow → Bool) (rows : List InstalmentRow) : Type 0 where
  pub row : InstalmentRow
  pub found : find test rows ≡ Some row
  pub is_open : IsOpenRow row
