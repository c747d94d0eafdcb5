use Rattle.std.proofs.Common.{◌+◌, IsTrue, drop, true≢false, sym, ◌∙◌}
use Rattle.mf_store_values.specs.Accounts.{AreAccounts}
use Rattle.mf_store_values.proofs.AccountRowLemmas.{passed, refused, finished, at_end}
use Rattle.mf_store_values.proofs.AnswerLemmas.{no_answer}
use Rattle.mf_store_values.proofs.MadeLemmas.{at_row}
use Rattle.mf_store_values.proofs.account_rows.are_accounts.Goals as goal

pub loop-row-init : goal.loop-row-init
loop-row-init c k sound e f ps of = (ps, of, (λ w. w, λ w. w))

pub returns-then-not-branch-clause-accounts : goal.returns-then-not-branch-clause-accounts
returns-then-not-branch-clause-accounts c k sound e f ps of =
    let l = c.loop-row in
    let row = c.row-item.result in
    no_answer (refused k (AreAccounts k ps c.args.instalments.now c.args.shares.now)
    (IsTrue c.in_ok-is_account.field-0) row (drop (l.row-index + 1) c.args.loans.now) l.entries_left.now
    l.instalments_left.now l.shares_left.now
    (rw (c.split.ensures.first, c.split-in-loop-row.ensures.first, c.split-in-loop-row-2.ensures.first) at
    ((c.in_ok-is_account.ensures {u = tt}).account k sound e f))
    (rw (at_row c.args.loans.now l.row-index row c.loop-row-test.true c.row-item.is) at (l.invariant k sound e f ps of))
    (λ yes. absurd (true≢false (sym yes ∙ c.if-not-branch.true))))

pub loop-row-preserved : goal.loop-row-preserved
loop-row-preserved c k sound e f ps of =
    let l = c.loop-row in
    let row = c.row-item.result in
    rw (c.split.ensures.later, c.split-in-loop-row.ensures.later, c.split-in-loop-row-2.ensures.later) (passed k
    (AreAccounts k ps c.args.instalments.now c.args.shares.now) (IsTrue c.in_ok-is_account.field-0) row
    (drop (l.row-index + 1) c.args.loans.now) l.entries_left.now l.instalments_left.now l.shares_left.now
    (rw (c.split.ensures.first, c.split-in-loop-row.ensures.first, c.split-in-loop-row-2.ensures.first) at
    ((c.in_ok-is_account.ensures {u = tt}).account k sound e f))
    (rw (at_row c.args.loans.now l.row-index row c.loop-row-test.true c.row-item.is) at (l.invariant k sound e f ps of))
    c.if-not-branch.false)

pub returns-clause-accounts : goal.returns-clause-accounts
returns-clause-accounts c k sound e f ps of =
    let l = c.loop-row in
    finished k (AreAccounts k ps c.args.instalments.now c.args.shares.now) (IsTrue c.is_nothing_left-nothing.result)
    l.entries_left.now l.instalments_left.now l.shares_left.now c.is_nothing_left-nothing.ensures
    (rw (at_end c.args.loans.now l.row-index c.loop-row-test.false) at (l.invariant k sound e f ps of))
