use Rattle.std.proofs.Common.{ap, ◌∙◌}
use Rattle.mf_model.specs.Accounts.{account_in}
use Rattle.mf_model.specs.Loans.{repayment, none_first, enter, unless_known}
use Rattle.mf_model.specs.Receipts.{uses_from, used_before}
use Rattle.mf_model.proofs.Lasting.{known_last}
use Rattle.mf_model.proofs.laws.receipts_stay_known.Goals as goal

pub returns-clause-known : goal.returns-clause-known
returns-clause-known c = λ i ls s r. known_last ls i s r

pub returns-clause-again : goal.returns-clause-again
returns-clause-again c = λ asked caller k rows n ledger receipt u has is.
    ap (λ o. unless_known n asked (used_before o (uses_from 1 rows.loans))
    (enter none_first (λ today. repayment asked caller) k (account_in k ledger))) has
    ∙ ap (λ o. unless_known n asked o (enter none_first (λ today. repayment asked caller) k (account_in k ledger))) is
