-- A journal with a line that tells no request.
use Rattle.std.proofs.Common.{◌≡◌, ℕ, List, Some, sym, subst}
use Rattle.sqlite.specs.Tree.{Trees}
use Rattle.mf_journal.specs.declared.following.Head.{Head}
use Rattle.mf_model.specs.Institution.{JournalLine}
use Rattle.mf_store_journal.specs.Written.{KeepsJournalFrom}
use Rattle.mf_store_journal.specs.declared.journal.Journal.{Journal}
use Rattle.mf_store_told.proofs.ToldLemmas.{not_all_told}
use Rattle.mf_store_told.specs.Told.{IsUntold, TellsRequests}
use Rattle.mf_store_audit.specs.Audits.{KeepsSomeJournal}

-- where a line of the only journal that is kept tells none, no journal is kept whose lines all tell requests
pub none_told : (trees : Trees) (found : Journal)
    → ((begins : Head) (lines : List JournalLine) → KeepsJournalFrom begins trees lines → found.begins ≡ begins)
    → (number : ℕ) → ((lines : List JournalLine) → KeepsJournalFrom found.begins trees lines
    → IsUntold found.begins.number lines (Some number)) → ¬ KeepsSomeJournal trees
none_told trees found only number untold (journal, (begins, lines, is, from), told) =
    let here = subst (λ b. KeepsJournalFrom b trees lines) (sym (only begins lines from)) from in
    not_all_told found.begins.number lines number (untold lines here) (subst TellsRequests is told)
