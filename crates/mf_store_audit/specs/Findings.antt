-- What it means that a finding is one: the row at its place breaks the condition that it names.
use Rattle.std.specs.Prelude.{◌≡◌, ◌≢◌, ◌==◌, ◌≤◌, ℕ, List, [], ◌∷◌, ◌++◌, length, map, Bool, true, false}
use Rattle.std.specs.Prelude.{if◌then◌else◌}
use Rattle.std.specs.List.{AllByRecursion}
use Rattle.mf_base.specs.DayText.{last_entered_day}
use Rattle.mf_model.specs.Institution.{Institution}
use Rattle.mf_model.specs.Sound.{IsSound}
use Rattle.mf_store_values.specs.Flat.{tables_of}
use Rattle.mf_store_schema.specs.Rows.{Lists}
use Rattle.mf_store_schema.specs.Versions.{number_of}
use Rattle.mf_store_schema.specs.declared.meta.MetaRow.{MetaRow}
use Rattle.mf_store_schema.specs.declared.offices.OfficeRow.{OfficeRow}
use Rattle.mf_store_schema.specs.declared.versions.Version.{Version}
use Rattle.mf_store_schema.specs.declared.versions.Version.TheVariants.{First, Second, Third}
use Rattle.mf_store_sound.specs.Held.{DoRise}
use Rattle.mf_store_sound.specs.Schemas.{meta_under, tables_at, tables_under, without_accounts}
use Rattle.mf_store_audit.specs.Catalogue.{BreaksMeta, BreaksCharge, BreaksProduct}
use Rattle.mf_store_audit.specs.Differences.{AreDifferences, Differ}
use Rattle.mf_store_audit.specs.Entries.{BreaksEntry, BreaksReceipt}
use Rattle.mf_store_audit.specs.Keys.{instalment_key, share_key}
use Rattle.mf_store_audit.specs.Kinds.{charge_flaws, client_flaws, entry_flaws, loan_flaws, meta_flaws, office_flaws}
use Rattle.mf_store_audit.specs.Kinds.{product_flaws, receipt_flaws, staff_flaws}
use Rattle.mf_store_audit.specs.Loans.{BreaksLoan}
use Rattle.mf_store_audit.specs.Offices.{is_office, BreaksOffice, BreaksStaff, BreaksClient}
use Rattle.mf_store_audit.specs.Places.{AreFoundIn, AreInTurn, IsAt}
use Rattle.mf_store_audit.specs.Suspects.{IsSuspect}
use Rattle.mf_store_audit.specs.declared.accounts.AccountTable.{AccountTable}
use Rattle.mf_store_audit.specs.declared.accounts.AccountTable.TheVariants.{Instalments, Shares}
use Rattle.mf_store_audit.specs.declared.finding.Finding.{Finding}
use Rattle.mf_store_audit.specs.declared.finding.Finding.TheVariants as finding
use Rattle.mf_store_audit.specs.declared.finding.RowKey.{RowKey}

-- no sound institution has these rows, by the tables of a version
abbrev pub AreOfNone : Version → Lists → Type 0
AreOfNone v lists = (i : Institution) → IsSound i → tables_at v i ≢ lists

-- The business day of these rows of meta, where they are those of a schema on a day that can be entered; the last such
-- day where they are not.
pub record IsToday (schema : ℕ) (rows : List MetaRow) (today : ℕ) : Type 0 where
  pub told : (day : ℕ) → day ≤ last_entered_day → meta_under schema day ∷ [] ≡ rows → today ≡ day
  pub untold : ((day : ℕ) → day ≤ last_entered_day → meta_under schema day ∷ [] ≢ rows) → today ≡ last_entered_day

-- what is so of each sound institution that has the rows of all tables but those of accounts, which rise by their keys
abbrev pub OfReplay : Version → Lists → (Lists → Type 0) → Type 0
OfReplay v lists Holds = (i : Institution) → IsSound i → tables_under (number_of v) i ≡ without_accounts lists
    → DoRise lists → Holds (tables_of i)

-- the row at the finding's place breaks its condition, or is suspect, on a business day and by the tables of a version
abbrev pub Breaks : Version → ℕ → Lists → Finding → Type 0
Breaks v today lists finding.MetaRows = length lists.meta ≢ 1
Breaks v today lists (finding.Meta place flaw) = IsAt (λ before. BreaksMeta (number_of v) flaw) place lists.meta
Breaks v today lists (finding.Charge place flaw) = IsAt (BreaksCharge flaw) place lists.charges
Breaks v today lists (finding.Product place flaw) = IsAt (BreaksProduct lists.charges flaw) place lists.products
Breaks v today lists finding.NoHead = is_office lists.offices 1 ≡ false
Breaks v today lists (finding.Office place flaw) = IsAt (BreaksOffice lists.offices flaw) place lists.offices
Breaks v today lists (finding.Staff place flaw) = IsAt (BreaksStaff lists.offices flaw) place lists.staff
Breaks v today lists (finding.Client place flaw) = IsAt (BreaksClient lists.offices flaw) place lists.clients
Breaks v today lists (finding.Loan place flaw) =
    IsAt (BreaksLoan today lists.offices lists.clients lists.products flaw) place lists.loans
Breaks v today lists (finding.Entry place flaw) =
    IsAt (BreaksEntry today lists.loans lists.staff lists.receipts lists.entries flaw) place lists.entries
Breaks v today lists (finding.Receipt place flaw) = IsAt (BreaksReceipt lists.entries flaw) place lists.receipts
Breaks v today lists (finding.Instalment key) =
    OfReplay v lists (λ made. Differ instalment_key made.instalments lists.instalments key)
Breaks v today lists (finding.Share key) = OfReplay v lists (λ made. Differ share_key made.shares lists.shares key)
Breaks v today lists (finding.Suspect place doubt) =
    IsAt (λ before. IsSuspect lists.offices lists.staff doubt) place lists.entries
Breaks v today lists finding.Unsound = AreOfNone v lists

-- each finding is one, on the business day of the tables
abbrev pub AllBreak : Version → Lists → List Finding → Type 0
AllBreak v lists findings =
    (today : ℕ) → IsToday (number_of v) lists.meta today → AllByRecursion (Breaks v today lists) findings

-- what is told of rows of meta that are not one
abbrev pub told_of_meta : List MetaRow → List Finding
told_of_meta rows = if length rows == 1 then [] else finding.MetaRows ∷ []

-- what is told where the head office isn't there
abbrev pub told_of_head : List OfficeRow → List Finding
told_of_head offices = if is_office offices 1 then [] else finding.NoHead ∷ []

-- what is found of meta and of the catalogue, table by table
abbrev pub found_in_catalogue : Version → Lists → List (List Finding → Type 0)
found_in_catalogue v lists =
    (λ found. found ≡ told_of_meta lists.meta)
    ∷ AreFoundIn meta_flaws (λ flaw before. BreaksMeta (number_of v) flaw) finding.Meta lists.meta
    ∷ AreFoundIn charge_flaws BreaksCharge finding.Charge lists.charges
    ∷ AreFoundIn product_flaws (BreaksProduct lists.charges) finding.Product lists.products ∷ []

-- what is found of offices, their staff and their clients
abbrev pub found_in_offices : Lists → List (List Finding → Type 0)
found_in_offices lists =
    (λ found. found ≡ told_of_head lists.offices)
    ∷ AreFoundIn office_flaws (BreaksOffice lists.offices) finding.Office lists.offices
    ∷ AreFoundIn staff_flaws (BreaksStaff lists.offices) finding.Staff lists.staff
    ∷ AreFoundIn client_flaws (BreaksClient lists.offices) finding.Client lists.clients ∷ []

-- what is found of loans, entries and receipts, on a business day
abbrev pub found_in_loans : ℕ → Lists → List (List Finding → Type 0)
found_in_loans today lists =
    AreFoundIn loan_flaws (BreaksLoan today lists.offices lists.clients lists.products) finding.Loan lists.loans
    ∷ AreFoundIn entry_flaws (BreaksEntry today lists.loans lists.staff lists.receipts lists.entries) finding.Entry
    lists.entries
    ∷ AreFoundIn receipt_flaws (BreaksReceipt lists.entries) finding.Receipt lists.receipts ∷ []

-- what is found of all these tables
abbrev pub found_in_rows : Version → ℕ → Lists → List (List Finding → Type 0)
found_in_rows v today lists = found_in_catalogue v lists ++ (found_in_offices lists ++ found_in_loans today lists)

-- what is told of a row of accounts, by its key
abbrev pub account_told : AccountTable → RowKey → Finding
account_told Instalments key = finding.Instalment key
account_told Shares key = finding.Share key

-- what is found of the rows of accounts: each instalment, and the shares of each entry, that are not what replaying
-- gives
pub record AreDiffering (v : Version) (lists : Lists) (found : List Finding) : Type 0 where
  pub instalments : List RowKey
  pub shares : List RowKey
  pub found_are : found ≡ map (account_told Instalments) instalments ++ map (account_told Shares) shares
  pub instalments_are :
      OfReplay v lists (λ made. AreDifferences instalment_key made.instalments lists.instalments instalments)
  pub shares_are : OfReplay v lists (λ made. AreDifferences share_key made.shares lists.shares shares)

-- the same by the tables of a version, of which the first has none of accounts
abbrev pub AreOfAccounts : Version → Lists → List Finding → Type 0
AreOfAccounts First lists found = found ≡ []
AreOfAccounts Second lists found = AreDiffering Second lists found
AreOfAccounts Third lists found = AreDiffering Third lists found

-- these; or, where there are none, that no sound institution has the rows
abbrev pub or_unsound : List Finding → List Finding
or_unsound [] = finding.Unsound ∷ []
or_unsound (first ∷ later) = first ∷ later

-- what is found where this is found of rows: that, or else of accounts, or else that no sound institution has the rows
abbrev pub AreOfRest : Version → Lists → List Finding → List Finding → Type 0
AreOfRest v lists [] found =
    (accounts : List Finding) × AreOfAccounts v lists accounts × (found ≡ or_unsound accounts)
AreOfRest v lists (first ∷ later) found = found ≡ first ∷ later

-- All that is found of rows that no sound institution has: of each row that breaks a condition, table by table and row
-- by row, the first condition that it breaks; or else each row of accounts that is not what replaying gives.
abbrev pub AreFindings : Version → Lists → List Finding → Type 0
AreFindings v lists found = (today : ℕ) → IsToday (number_of v) lists.meta today → DoRise lists
    → (rows : List Finding) × AreInTurn (found_in_rows v today lists) rows × AreOfRest v lists rows found

-- Findings were added that are ones; and, where all were wanted and the rows rise by their keys, these in turn.
abbrev pub Adds : Version → ℕ → Lists → Bool → List (List Finding → Type 0) → List Finding → List Finding → Type 0
Adds v today lists all parts before after =
    (found : List Finding) × (after ≡ before ++ found) × AllByRecursion (Breaks v today lists) found
    × (all ≡ true → DoRise lists → AreInTurn parts found)
