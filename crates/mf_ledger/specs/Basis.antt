-- The books on either basis. On an accrual basis they have the transactions of a cash basis, and the adjusting ones.
use Rattle.std.specs.Prelude.{ℕ, ◌+◌, cond, List, [], ◌∷◌, ◌++◌, is_some}
use Rattle.mf_model.specs.Institution.{Institution}
use Rattle.mf_model.specs.Run.{Line, change_of_line, next}
use Rattle.mf_model.specs.declared.request.Request.{Request}
use Rattle.mf_ledger.specs.Accrual.{adjustments_of}
use Rattle.mf_ledger.specs.Runs.{transactions_of}
use Rattle.mf_ledger.specs.declared.basis.Basis.{Basis}
use Rattle.mf_ledger.specs.declared.basis.Basis.TheVariants.{Cash, Accrual}
use Rattle.mf_ledger.specs.declared.books.Transaction.{Transaction}

-- what a basis adds to the line of the journal of this number
abbrev pub added_of : Basis → ℕ → Request → Institution → Institution → List Transaction
added_of Cash n r i j = []
added_of Accrual n r i j = adjustments_of n r i j

-- the transactions of that line: what its request moved on a cash basis, then what the basis adds
abbrev pub booked_of : Basis → ℕ → Request → Institution → Institution → List Transaction
booked_of basis n r i j = transactions_of n r i j ++ added_of basis n r i j

-- the transactions of a run on a basis, behind so many lines of the journal
abbrev pub booked : Basis → ℕ → List Line → Institution → List Transaction
booked basis n [] i = []
booked basis n (l ∷ ls) i = cond (is_some (change_of_line l i))
    (booked_of basis (n + 1) l.call.request i (next l i) ++ booked basis (n + 1) ls (next l i))
    (booked basis n ls (next l i))
