use Rattle.std.proofs.Common.{sym, ◌∙◌}
use Rattle.mf_store.specs.Facts.{account_key}
use Rattle.mf_store.proofs.KeptLemmas.{account_gone, accounts_become, accounts_left}
use Rattle.mf_store.proofs.known.Known.take_account.Goals as goal

pub returns-in_err-account-clause-gone : goal.returns-in_err-account-clause-gone
returns-in_err-account-clause-gone c = account_gone c.self.inside.accounts c.pop.new.self (account_key c.args.loan)
    c.self.inside.accounts.cap c.len-kept.ensures.valid.0 (rw c.key_of_loan.ensures at c.pop.ensures.entries)

pub returns-in_err-account-clause-same : goal.returns-in_err-account-clause-same
returns-in_err-account-clause-same c = rw (← c.self.view_is) (λ i known. accounts_become _ i _ known
    (accounts_left c.self.inside.accounts c.pop.new.self (account_key c.args.loan) c.self.inside.accounts.cap i
    c.len-kept.ensures.valid.0 (rw c.key_of_loan.ensures at c.pop.ensures.entries) known.accounts))

pub returns-clause-value : goal.returns-clause-value
returns-clause-value c =
    let found = rw c.key_of_loan.ensures at c.pop.ensures.value in
    rw (← c.self.view_is) (λ i known. known.accounts c.args.loan c.in_ok-account.account (sym found
    ∙ c.in_ok-account.was))

pub returns-clause-gone : goal.returns-clause-gone
returns-clause-gone c = account_gone c.self.inside.accounts c.pop.new.self (account_key c.args.loan)
    c.self.inside.accounts.cap c.len-kept.ensures.valid.0 (rw c.key_of_loan.ensures at c.pop.ensures.entries)

pub returns-clause-same : goal.returns-clause-same
returns-clause-same c = rw (← c.self.view_is) (λ i known. accounts_become _ i _ known
    (accounts_left c.self.inside.accounts c.pop.new.self (account_key c.args.loan) c.self.inside.accounts.cap i
    c.len-kept.ensures.valid.0 (rw c.key_of_loan.ensures at c.pop.ensures.entries) known.accounts))
