use Rattle.std.proofs.Common.{◌+◌, ◌++◌, drop, sym}
use Rattle.mf_store_values.specs.Accounts.{account_instalments, account_shares, rows_of_placed}
use Rattle.mf_store_values.specs.Flat.{instalment_in, share_in}
use Rattle.mf_store_values.proofs.AccountRowLemmas.{made_more, made_whole, at_end}
use Rattle.mf_store_values.proofs.MadeLemmas.{at_row}
use Rattle.mf_store_values.proofs.account_rows.rows_of_accounts.Goals as goal

pub loop-row-init : goal.loop-row-init
loop-row-init c k sound e f ps of = (
  ps,
  of,
  (
    sym (λ t. c.new-instalments.ensures.items t ++ rows_of_placed instalment_in (account_instalments k) ps),
    sym (λ t. c.new-shares.ensures.items t ++ rows_of_placed share_in (account_shares k) ps),
  ),
)

pub loop-row-preserved : goal.loop-row-preserved
loop-row-preserved c k sound e f ps of =
    let l = c.loop-row in
    let row = c.row-item.result in
    rw c.split.ensures.later (made_more k ps row (drop (l.row-index + 1) c.args.loans.now) l.entries_left.now
    l.instalments.items _ l.shares.items _ (rw c.split.ensures.first at (c.in_ok-add_account.ensures.added k sound e f))
    (rw (at_row c.args.loans.now l.row-index row c.loop-row-test.true c.row-item.is) at
    (l.invariant k sound e f ps of)))

pub returns-clause-accounts : goal.returns-clause-accounts
returns-clause-accounts c k sound e f ps of =
    let l = c.loop-row in
    made_whole k ps l.entries_left.now l.instalments.items l.shares.items
    (rw (at_end c.args.loans.now l.row-index c.loop-row-test.false) at (l.invariant k sound e f ps of))
