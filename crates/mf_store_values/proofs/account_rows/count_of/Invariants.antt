use Rattle.std.proofs.Common.{◌≡◌, ◌+◌, drop}
use Rattle.std.specs.List.{prefix_len}
use Rattle.mf_store_values.specs.Accounts.{is_of_loan}
use Rattle.mf_store_values.proofs.account_rows.count_of.Given as goal

abbrev pub invariant-loop-row : goal.invariant-loop-row
invariant-loop-row g l =
    (l.count ≡ l.row-index) × (prefix_len (is_of_loan g.T.OfLoan.office_of g.T.OfLoan.loan_of l.office l.loan) l.rows
    ≡ l.row-index + prefix_len (is_of_loan g.T.OfLoan.office_of g.T.OfLoan.loan_of l.office l.loan)
    (drop l.row-index l.rows))
