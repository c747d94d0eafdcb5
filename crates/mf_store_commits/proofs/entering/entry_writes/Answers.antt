use Rattle.std.proofs.Common.{◌≡◌, ◌∷◌, [], ◌++◌, List, ap, ◌∙◌}
use Rattle.mf_account.specs.declared.entry.Entry.{Entry}
use Rattle.mf_store_values.specs.Flat.{entry_in}
use Rattle.mf_store_commits.proofs.EnteredLemmas.{account_of_loan, entry_last, entry_apart, handed_changed, longer}
use Rattle.mf_store_commits.proofs.EntryLemmas.{last_entry}
use Rattle.mf_store_commits.proofs.LoanLemmas.{entry_carries}
use Rattle.mf_store_commits.proofs.entering.entry_writes.Goals as goal

pub returns-clause-carries : goal.returns-clause-carries
returns-clause-carries c i sound admitted =
    let loan = c.args.loan in
    let account = c.args.account.now in
    let entries = account.loan.entries in
    let row = c.in_ok-row.row in
    let office = c.get-office.ensures.value in
    let number = c.get-loan.ensures.value in
    let handed = admitted.handed in
    let of = account_of_loan loan handed.before i handed.there in
    let entry = handed.entries.0 in
    let one_more : entries ≡ of.ledger.entries ++ entry ∷ [] =
    handed.entries.1 ∙ ap (λ (es : List Entry). es ++ entry ∷ []) of.entries in
    let last = entry_last loan account of.ledger i admitted.sound of.there entry one_more in
    let apart = entry_apart loan account of.ledger i admitted.sound of.there in
    let changed = handed_changed loan account handed.before i sound admitted.sound of handed.others
    (longer handed.before.entries entries entry handed.entries.1) handed.kept handed.change in
    let row_is : row ≡ entry_in loan.office loan.number entry = c.in_ok-row.ensures.row
    ∙ rw (office, number, c.entry_count.ensures.count, one_more, last_entry of.ledger.entries entry) in
    rw (c.in_ok-put_change.ensures.writes, c.in_ok-writes.ensures.writes, office, number) (entry_carries loan account
    of.ledger i sound of.there changed entry admitted.sound one_more last apart row row_is)
