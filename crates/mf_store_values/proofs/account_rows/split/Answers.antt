use Rattle.std.proofs.Common.{◌≤◌, length, subst, sym}
use Rattle.std.proofs.lemmas.List.Sums.{prefix_len-le-length}
use Rattle.mf_store_values.specs.Accounts.{is_of_loan}
use Rattle.mf_store_values.proofs.account_rows.split.Goals as goal

pub split_at-requires : goal.split_at-requires
split_at-requires g c = subst (λ n. n ≤ length c.args.rows.now) (sym c.count_of-count.ensures)
    (prefix_len-le-length (is_of_loan g.T.OfLoan.office_of g.T.OfLoan.loan_of c.args.loan.now.office
    c.args.loan.now.number) c.args.rows.now)
