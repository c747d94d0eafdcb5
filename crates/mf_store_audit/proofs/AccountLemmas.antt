-- What is told of rows of accounts, from the keys in which they and the replay differ.
use Rattle.std.proofs.Common.{◌≡◌, ◌≢◌, ◌∙◌, ℕ, List, [], ◌∷◌, ◌++◌, Ordering, refl, sym, subst}
use Rattle.std.specs.Cmp.{IsTotalOrder}
use Rattle.std.specs.List.{AllByRecursion, Contains}
use Rattle.sqlite_keyed.proofs.ListLemmas.{all-append}
use Rattle.mf_store_schema.specs.Rows.{Lists}
use Rattle.mf_store_schema.specs.declared.versions.Version.{Version}
use Rattle.mf_store_schema.specs.declared.versions.Version.TheVariants.{First, Second, Third}
use Rattle.mf_store_sound.specs.Held.{Rises}
use Rattle.mf_store_audit.specs.Differences.{AreDifferences, Differ}
use Rattle.mf_store_audit.specs.Findings.{AreDiffering, AreOfAccounts, AreOfRest, Breaks, OfReplay, or_unsound}
use Rattle.mf_store_audit.specs.Findings.{account_told}
use Rattle.mf_store_audit.specs.Keys.{instalment_key, share_key}
use Rattle.mf_store_audit.specs.declared.accounts.AccountTable.{AccountTable}
use Rattle.mf_store_audit.specs.declared.accounts.AccountTable.TheVariants.{Instalments, Shares}
use Rattle.mf_store_audit.specs.declared.finding.Finding.{Finding}
use Rattle.mf_store_audit.specs.declared.finding.Finding.TheVariants as finding
use Rattle.mf_store_audit.specs.declared.finding.RowKey.{RowKey}
use Rattle.mf_store_audit.proofs.DifferenceLemmas.{of_all}

-- the keys in which two lists differ are those of equal lists
pub differences_given : {R : Type 0} (by : R → R → Ordering) (key : R → ℕ × ℕ × ℕ) (made stored given theirs : List R)
    (keys : List RowKey) → IsTotalOrder by → made ≡ given → stored ≡ theirs → Rises by given → Rises by theirs
    → (IsTotalOrder by → Rises by made → Rises by stored → AreDifferences key made stored keys)
    → AreDifferences key given theirs keys
differences_given {R} by key made stored given theirs keys total made_is stored_is up_given up_theirs exact =
    subst (λ (l : List R). AreDifferences key l theirs keys) made_is
    (subst (λ (l : List R). AreDifferences key made l keys) stored_is
    (exact total (subst (Rises by) (sym made_is) up_given) (subst (Rises by) (sym stored_is) up_theirs)))

module _ (v : Version) (today : ℕ) (lists : Lists) where
  -- what is told of a table of accounts
  abbrev pub Told : AccountTable → List RowKey → List Finding → Type 0
  Told table keys found = AllByRecursion (λ f. (key : RowKey) × Contains keys key × (f ≡ account_told table key)) found

  each_told : (table : AccountTable) (keys : List RowKey) → ((key : RowKey) → Contains keys key
      → Breaks v today lists (account_told table key)) → (found : List Finding) → Told table keys found
      → AllByRecursion (Breaks v today lists) found
  each_told table keys is [] told = tt
  each_told table keys is (f ∷ fs) ((key, there, f_is), later) =
      (subst (Breaks v today lists) (sym f_is) (is key there), each_told table keys is fs later)

  -- instalments, and then shares, each of which differs
  pub both_told : (instalments shares : List RowKey) (old first second of_instalments of_shares : List Finding)
      → old ≡ [] → first ≡ old ++ of_instalments → second ≡ first ++ of_shares
      → Told Instalments instalments of_instalments → Told Shares shares of_shares
      → OfReplay v lists (λ made. AreDifferences instalment_key made.instalments lists.instalments instalments)
      → OfReplay v lists (λ made. AreDifferences share_key made.shares lists.shares shares)
      → AllByRecursion (Breaks v today lists) second
  both_told instalments shares old first second of_instalments of_shares none first_is second_is told told_too are
      are_too = subst (AllByRecursion (Breaks v today lists)) (sym (second_is ∙ (λ t. first_is t ++ of_shares)
      ∙ (λ t. (none t ++ of_instalments) ++ of_shares))) (all-append (Breaks v today lists) of_instalments of_shares
      (each_told Instalments instalments (λ key there i sound is up. of_all (Differ instalment_key _ _) instalments key
      (are i sound is up).each there) of_instalments told)
      (each_told Shares shares (λ key there i sound is up. of_all (Differ share_key _ _) shares key
      (are_too i sound is up).each there) of_shares told_too))

-- a version with tables of accounts
pub of_accounts : (v : Version) (lists : Lists) (found : List Finding) → v ≢ First → AreDiffering v lists found
    → AreOfAccounts v lists found
of_accounts First lists found apart are = absurd (apart refl)
of_accounts Second lists found apart are = are
of_accounts Third lists found apart are = are

-- ---- what is found of rows, or else of accounts

pub rest_of_rows : (v : Version) (lists : Lists) (rows found : List Finding) → rows ≢ [] → found ≡ rows
    → AreOfRest v lists rows found
rest_of_rows v lists [] found some is = absurd (some refl)
rest_of_rows v lists (first ∷ later) found some is = is

pub rest_of_accounts : (v : Version) (lists : Lists) (rows accounts found : List Finding) → rows ≡ []
    → AreOfAccounts v lists accounts → found ≡ or_unsound accounts → AreOfRest v lists rows found
rest_of_accounts v lists rows accounts found none are is =
    subst (λ (l : List Finding). AreOfRest v lists l found) (sym none) (accounts, are, is)

pub some_accounts : (accounts : List Finding) → accounts ≢ [] → accounts ≡ or_unsound accounts
some_accounts [] some = absurd (some refl)
some_accounts (first ∷ later) some = refl

pub no_accounts : (accounts found : List Finding) → accounts ≡ [] → found ≡ accounts ++ finding.Unsound ∷ []
    → found ≡ or_unsound accounts
no_accounts accounts found none is =
    is ∙ (λ t. none t ++ finding.Unsound ∷ []) ∙ (λ t. or_unsound (sym none t))
