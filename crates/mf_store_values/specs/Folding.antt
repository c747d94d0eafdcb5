-- What is known of rows that a query gives one at a time, and of the line that is made of them.
use Rattle.std.specs.Prelude.{◌≡◌, ◌⊎◌, ℕ, ◌^◌, ◌≤◌, List, [], ◌++◌, map, length, Option}
use Rattle.std.specs.Prelude.{None, Some, Result, OnOk, IsTrue}
use Rattle.std.specs.List.{AllByRecursion}
use Rattle.sqlite.specs.Order.{Row}
use Rattle.sqlite.specs.Given.{HasGiven, Advances, FailsToAdvance}
use Rattle.sqlite.specs.Held.{Held, state}
use Rattle.sqlite.specs.State.{HasCleanDisk, IsUnchanged, Begins, Shown, FailsToQuery}
use Rattle.sqlite.specs.declared.error.Error.{Error}
use Rattle.sqlite_trees.specs.declared.store.Store.{Ghosts}
use Rattle.mf_alloc.specs.Sums.{Instalment, IsWhole}
use Rattle.mf_account.specs.Balance.{open_in}
use Rattle.mf_arrears.specs.Line.{OfficeLine, line_of_loans}
use Rattle.mf_store_schema.specs.Rows.{instalment_row}
use Rattle.mf_store_values.specs.Flat.{instalment_in}
use Rattle.mf_store_values.specs.Arrears.{NumberedLoan, AreAbove, AreWholeLoans, rows_of_office, IsLineOf}
use Rattle.mf_store_values.specs.declared.fold.NoLine.{NoLine}
use Rattle.mf_store_values.specs.declared.fold.NoLine.TheVariants.{TooGreat}

-- ---- what a line can sum

-- what is outstanding of a loan's principal, by its instalments
abbrev pub principal_left_of : NumberedLoan → ℕ
principal_left_of loan = open_in 3 (map (λ item. item.1) loan.1)

-- an office's loans are few, and none is large
pub record AreWithinSums (loans : List NumberedLoan) : Type 0 where
  pub few : length loans ≤ 999999
  pub small : AllByRecursion (λ loan. principal_left_of loan ≤ 10 ^ 12) loans

-- the rows begin those of no office whose loans are within
abbrev pub IsOver : List Row → OfficeLine → Type 0
IsOver rows empty = (office : ℕ) (loans : List NumberedLoan) (rest : List Row) → AreAbove 0 loans → AreWholeLoans loans
    → AreWithinSums loans → rows ++ rest ≡ map instalment_row (rows_of_office office loans)
    → empty ≡ line_of_loans office [] → ⊥

-- ---- rows of a query

-- the row is read as an instalment with the number of its loan
abbrev pub IsReadAs : Row → ℕ × Instalment → Type 0
IsReadAs row found = (office loan number : ℕ) (sums : Instalment) → IsWhole sums
    → row ≡ instalment_row (instalment_in office loan (number, sums)) → found ≡ (loan, sums)

module _ {S : Type 0} (g : Ghosts S) where
  -- while the connection is open, the tables are as they were, or as the last commit left them, which stays
  pub record IsKept (old new : Held S) : Type 0 where
    pub was_open : IsTrue (state g new).is_open → IsTrue (state g old).is_open
    pub committed : IsTrue (state g new).is_open → (state g new).committed ≡ (state g old).committed
    pub now_is : IsTrue (state g new).is_open → ((state g new).now ≡ (state g old).now)
        ⊎ ((state g new).now ≡ (state g old).committed)

  -- the next row is taken and read as this instalment, or none is left
  abbrev pub Takes : Held S → Held S → Option (ℕ × Instalment) → Type 0
  Takes old new None = HasCleanDisk (state g new) → Advances g old new None
  Takes old new (Some found) = (row : Row) × (HasCleanDisk (state g new) → Advances g old new (Some row))
      × IsReadAs row found

  -- the next row is taken and is no instalment's, or the query fails
  abbrev pub Refuses : Held S → Held S → Type 0
  Refuses old new =
      ((row : Row) × (HasCleanDisk (state g new) → Advances g old new (Some row) × IsUnchanged (state g old)
      (state g new)))
      ⊎ (HasCleanDisk (state g new) → (e : Error) × FailsToAdvance g old new e)

  -- the query gave these rows and no more: it failed when it was asked for the next
  abbrev pub HasFailed : List ℕ → Row → List Row → Held S → Held S → Type 0
  HasFailed sql params taken old new =
      (last : Held S) × HasGiven g sql params last taken × IsUnchanged (state g old) (state g last)
      × ((e : Error) × FailsToQuery sql params (state g last) (state g new) e)

  -- how a query is left that has given these rows: under way, at its end, or failed
  abbrev pub HasTaken : List ℕ → Row → List Row → Held S → Held S → Type 0
  HasTaken sql params taken old new = HasGiven g sql params new taken
      ⊎ (Shown sql params (state g old) (state g new) taken ⊎ HasFailed sql params taken old new)

  -- The rows that are taken begin the answer of the query that gives them, and it has given no others; at Ok they are
  -- all of it, and the line is that of the loans whose rows they are.
  pub record Folds (today : ℕ) (old new : Held S) (empty line : OfficeLine) {A E : Type 0} (result : Result A E) : Type
      0 where
    pub taken : List Row
    pub given : HasCleanDisk (state g new) → (sql : List ℕ) (params : Row) → HasGiven g sql params old []
        → HasTaken sql params taken old new
    pub begins : HasCleanDisk (state g new) → (sql : List ℕ) (params : Row) → HasGiven g sql params old []
        → Begins sql params (state g old) taken
    pub whole : HasCleanDisk (state g new) → (sql : List ℕ) (params : Row) → HasGiven g sql params old []
        → OnOk result (Shown sql params (state g old) (state g new) taken)
    pub line_is : OnOk result (IsLineOf today taken empty line)

  -- where they come to too much, the rows that were taken do, which begin the answer
  abbrev pub IsTooGreat : Held S → Held S → OfficeLine → NoLine → Type 0
  IsTooGreat old new empty why =
      why ≡ TooGreat → HasCleanDisk (state g new) → (sql : List ℕ) (params : Row) → HasGiven g sql params old []
      → (taken : List Row) × Begins sql params (state g old) taken × IsOver taken empty
