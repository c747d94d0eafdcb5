use Rattle.std.proofs.Common.{◌≡◌, ◌≤◌, ◌-◌, true, List, length, ap, ◌∙◌, subst, arith}
use Rattle.mf_account.specs.declared.entry.Entry.{Entry}
use Rattle.mf_account.specs.Standing.{entry_at, with_mark}
use Rattle.mf_store_values.specs.Flat.{entry_in, reversed_entry}
use Rattle.mf_store_commits.proofs.EnteredLemmas.{account_of_loan, as_long, handed_changed, loan_numbered}
use Rattle.mf_store_commits.proofs.EnteredLemmas.{reversal_there}
use Rattle.mf_store_commits.proofs.EntryLemmas.{marked_entry}
use Rattle.mf_store_commits.proofs.LoanLemmas.{reversal_carries}
use Rattle.mf_store_commits.proofs.entering.reversal_writes.Goals as goal

pub returns-clause-carries : goal.returns-clause-carries
returns-clause-carries c i sound admitted =
    let loan = c.args.loan in
    let seq = c.args.seq in
    let account = c.args.account.now in
    let row = c.in_ok-row.row in
    let office = c.get-office.ensures.value in
    let number = c.get-loan.ensures.value in
    let handed = admitted.handed in
    let of = account_of_loan loan handed.before i handed.there in
    let before = of.ledger.entries in
    let marked : account.loan.entries ≡ with_mark before (seq - 1) true =
    handed.entries.marked ∙ ap (λ (es : List Entry). with_mark es (seq - 1) true) of.entries in
    let there = reversal_there handed.before.entries seq handed.entries.allowed in
    let first = there.0 in
    let last : seq ≤ length before = subst (λ (es : List Entry). seq ≤ length es) of.entries there.1 in
    let numbers = loan_numbered loan of.ledger i sound of.there in
    let changed = handed_changed loan account handed.before i sound admitted.sound of handed.others
    (as_long handed.before.entries account.loan.entries seq handed.entries.marked) handed.kept handed.change in
    let row_is : row ≡ entry_in loan.office loan.number (reversed_entry (entry_at before (seq - 1))) =
    c.in_ok-row.ensures.row ∙ rw (office, number, marked, marked_entry before (seq - 1) (omega (arith, first, last))) in
    rw (c.in_ok-put_change.ensures.writes, c.in_ok-push.ensures.items, c.new-writes.ensures.items, office, number)
    (reversal_carries loan account of.ledger i sound of.there changed seq admitted.sound numbers first last marked row
    row_is)
