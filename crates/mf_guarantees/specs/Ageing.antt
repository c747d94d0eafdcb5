-- The classes of arrears in their order.
use Rattle.std.specs.Prelude.{ℕ, List, [], ◌∷◌, pos}
use Rattle.mf_arrears.specs.declared.line.Class.{Class}
use Rattle.mf_arrears.specs.declared.line.Class.TheVariants.{C0, C1To30, C31To60, C61To90, Over90}
use Rattle.mf_arrears.specs.Line.{AgedLoan, sum_in}

-- how late a class is: 0 of what is not overdue, 4 of what is overdue for over 90 days
abbrev pub lateness : Class → ℕ
lateness C0 = 0
lateness C1To30 = 1
lateness C31To60 = 2
lateness C61To90 = 3
lateness Over90 = 4

-- an amount that is not overdue
abbrev pub if_on_time : Class → ℕ → ℕ
if_on_time C0 amount = amount
if_on_time C1To30 amount = 0
if_on_time C31To60 amount = 0
if_on_time C61To90 amount = 0
if_on_time Over90 amount = 0

-- the outstanding principal of the loans that are not overdue
abbrev pub on_time : List AgedLoan → ℕ
on_time loans = sum_in if_on_time loans

-- 100.00 that is 31 days overdue, and 200.00 that is on time
abbrev pub worked_loans : List AgedLoan
worked_loans = record { principal = 10000; days = pos 31 } ∷ record { principal = 20000; days = pos 0 } ∷ []
