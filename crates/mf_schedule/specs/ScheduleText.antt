-- The text of a schedule.
use Rattle.std.specs.Prelude.{ℕ, ◌+◌, List, [], ◌∷◌, ◌++◌, codes}
use Rattle.std.specs.Fmt.{decimal}
use Rattle.std.specs.List.{enumerate_from, flat_map}
use Rattle.mf_base.specs.DayText.{day_text}
use Rattle.mf_base.specs.Money.{money_text}
use Rattle.mf_base.specs.Texts.{right}
use Rattle.mf_schedule.specs.Fresh.{total_interest, total_principal}
use Rattle.mf_schedule.specs.declared.instalment.FreshInstalment.{FreshInstalment}

-- a money text at the right of 18 columns
abbrev pub money_column : ℕ → List ℕ
money_column cents = right 18 (money_text cents)

-- principal, interest and both together, and the line's end
abbrev pub amounts_text : ℕ → ℕ → List ℕ
amounts_text principal interest =
    money_column principal ++ money_column interest ++ money_column (principal + interest) ++ 10 ∷ []

-- the number at the right of 3 columns, a space, the due day, and the amounts
abbrev pub row_line : ℕ → FreshInstalment → List ℕ
row_line number row =
    right 3 (decimal number) ++ 32 ∷ [] ++ day_text row.due ++ amounts_text row.principal row.interest

-- a line an instalment, numbered from 1
abbrev pub row_lines : List FreshInstalment → List ℕ
row_lines rows = flat_map (λ numbered. row_line numbered.0 numbered.1) (enumerate_from 1 rows)

-- `sum` and 11 spaces, and the sums of all rows
abbrev pub sum_line : List FreshInstalment → List ℕ
sum_line rows = codes "sum           " ++ amounts_text (total_principal rows) (total_interest rows)

-- the lines of the rows, and that of their sums
abbrev pub schedule_text : List FreshInstalment → List ℕ
schedule_text rows = row_lines rows ++ sum_line rows
