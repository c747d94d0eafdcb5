-- A journal that was found, and whether its lines tell requests.
use Rattle.std.proofs.Common.{◌≡◌, List, Option, Some, None, Result, Ok, Err, IfOk, sym, ap, subst, ◌∙◌}
use Rattle.std.specs.Option.{IfSome, IfNone}
use Rattle.mf_base.specs.declared.fault.Fault.{Fault}
use Rattle.sqlite.specs.Effect.{Database}
use Rattle.sqlite.specs.Tree.{Trees}
use Rattle.mf_journal.specs.declared.following.Head.{Head}
use Rattle.mf_model.specs.Institution.{JournalLine}
use Rattle.mf_play.specs.Play.{AllTellRequests}
use Rattle.mf_store_journal.specs.Rows.{head_with_all}
use Rattle.mf_store_journal.specs.Written.{KeepsJournalFrom, KeepsTo}
use Rattle.mf_store_journal.specs.declared.journal.Journal.{Journal}
use Rattle.mf_store_told.specs.Told.{KeepsTold}

-- what is found is the journal
abbrev pub IsIt : Journal → Result (Option Journal) Fault → Type 0
IsIt journal result = IfOk result (λ x. IfSome x (λ found. found ≡ journal))

module _ (trees : Trees) (journal : Journal) where
  pub keeps_told : (to : KeepsTo journal trees) (r : Result (Option Journal) Fault) → IsIt journal r
      → IfOk r (λ x. IfSome x (λ found. AllTellRequests to.lines))
      → IfOk r (λ x. IfSome x (λ found. KeepsTold found trees))
  keeps_told to (Ok (Some found)) same told =
      subst (λ j. KeepsTold j trees) (sym same) (record { to = to; told = told })
  keeps_told to (Ok None) same told = tt
  keeps_told to (Err fault) same told = tt

  -- it is the only one that the trees keep
  abbrev pub IsOnly : Journal → Type 0
  IsOnly found = (begins : Head) (lines : List JournalLine) → KeepsJournalFrom begins trees lines
      → (found.begins ≡ begins) × (found.head ≡ head_with_all begins lines)

  pub is_only : IsOnly journal → (r : Result (Option Journal) Fault) → IsIt journal r
      → IfOk r (λ x. IfSome x IsOnly)
  is_only only (Ok (Some found)) same = subst IsOnly (sym same) only
  is_only only (Ok None) same = tt
  is_only only (Err fault) same = tt

-- what is so of each journal that is kept is so of them all where none is found
pub none_of : (P : Head → List JournalLine → Type 0) (Q : List JournalLine → Type 0)
    (r : Result (Option Journal) Fault)
    → ((begins : Head) (lines : List JournalLine) → P begins lines → IfOk r (λ x. IfNone x (Q lines)))
    → IfOk r (λ x. IfNone x ((begins : Head) (lines : List JournalLine) → P begins lines → Q lines))
none_of P Q (Ok (Some found)) each = tt
none_of P Q (Ok None) each = each
none_of P Q (Err fault) each = tt

-- what trees keep that a reading didn't change
pub keeps_there : (was now : Database) → now ≡ was → (begins : Head) (lines : List JournalLine)
    → KeepsJournalFrom begins was.trees lines → KeepsJournalFrom begins now.trees lines
keeps_there was now same begins lines keeps =
    subst (λ (d : Database). KeepsJournalFrom begins d.trees lines) (sym same) keeps
