-- What tables hold whatever rows stand there: rows of records, and those of a sound institution.
use Rattle.std.specs.Prelude.{◌≡◌, List, [], ◌∷◌, Option, None, Some, map}
use Rattle.std.specs.List.{AllByRecursion}
use Rattle.std.specs.declared.cmp.Ordering.{Ordering}
use Rattle.std.specs.declared.cmp.Ordering.TheVariants.{Less}
use Rattle.sqlite.specs.Order.{Row}
use Rattle.sqlite.specs.Tree.{Trees}
use Rattle.sqlite_trees.specs.Tree.{IsAscending}
use Rattle.mf_model.specs.Institution.{Institution, JournalLine}
use Rattle.mf_model.specs.Sound.{IsSound}
use Rattle.mf_journal.specs.declared.following.Head.{Head}
use Rattle.mf_store_journal.specs.Rows.{head_with_all}
use Rattle.mf_store_journal.specs.Written.{KeepsJournalFrom}
use Rattle.mf_store_journal.specs.declared.journal.Journal.{Journal}
use Rattle.mf_store_told.specs.Told.{TellsRequests}
use Rattle.mf_store_schema.specs.Tables as table
use Rattle.mf_store_sql.specs.Columns.{Named}
use Rattle.mf_store_schema.specs.Fields.{HasFields}
use Rattle.mf_store_schema.specs.Rows.{Lists, meta_row, office_row, staff_row, client_row, charge_row, product_row}
use Rattle.mf_store_schema.specs.Rows.{loan_row, entry_row, receipt_row, instalment_row, share_row, by_meta, by_office}
use Rattle.mf_store_schema.specs.Rows.{by_staff, by_client, by_charge, by_product, by_loan, by_entry, by_receipt}
use Rattle.mf_store_schema.specs.Rows.{by_instalment, by_share}
use Rattle.mf_store_schema.specs.Writes.{HoldsAt}
use Rattle.mf_store_sound.specs.Schemas.{tables_at}
use Rattle.mf_store_schema.specs.declared.versions.Version.{Version}
use Rattle.mf_store_schema.specs.declared.versions.Version.TheVariants.{First, Second, Third}

-- each comes before the next
abbrev pub Rises : {A : Type 0} → (A → A → Ordering) → List A → Type 0
Rises cmp items = IsAscending (λ a b. cmp a b ≡ Less) items

-- these columns can hold the rows of the items
abbrev pub CanHoldRows : {A : Type 0} → List Named → (A → Row) → List A → Type 0
CanHoldRows columns row items = AllByRecursion (HasFields columns) (map row items)

-- what is said of items by the columns of their table, their rows in it and the order of its key
abbrev pub Saying : Type 1
Saying = (A : Type 0) → List Named → (A → Row) → (A → A → Ordering) → List A → Type 0

-- what is said of the list of each table, in the order of the tables
abbrev pub said_of_each : Saying → Lists → List (Type 0)
said_of_each Says lists = Says _ (table.meta).columns meta_row by_meta lists.meta
    ∷ Says _ (table.offices).columns office_row by_office lists.offices
    ∷ Says _ (table.staff).columns staff_row by_staff lists.staff
    ∷ Says _ (table.clients).columns client_row by_client lists.clients
    ∷ Says _ (table.charges).columns charge_row by_charge lists.charges
    ∷ Says _ (table.products).columns product_row by_product lists.products
    ∷ Says _ (table.loans).columns loan_row by_loan lists.loans
    ∷ Says _ (table.entries).columns entry_row by_entry lists.entries
    ∷ Says _ (table.receipts).columns receipt_row by_receipt lists.receipts
    ∷ Says _ (table.instalments).columns instalment_row by_instalment lists.instalments
    ∷ Says _ (table.shares).columns share_row by_share lists.shares ∷ []

-- each of these holds
abbrev pub AllTrue : List (Type 0) → Type 0
AllTrue [] = Unit {0}
AllTrue (P ∷ Ps) = P × AllTrue Ps

-- each list rises by the key of its table
pub record DoRise (lists : Lists) : Type 0 where
  pub all : AllTrue (said_of_each (λ A columns row cmp items. Rises cmp items) lists)

-- the columns of tables can hold the rows of each list
pub record CanBeHeld (lists : Lists) : Type 0 where
  pub all : AllTrue (said_of_each (λ A columns row cmp items. CanHoldRows columns row items) lists)

-- the trees keep this journal where the version has a table of one; else there is none
abbrev pub KeepsJournalAt : Version → Trees → Option (List JournalLine) → Type 0
KeepsJournalAt First trees journal = journal ≡ None
KeepsJournalAt Second trees journal = journal ≡ None
KeepsJournalAt Third trees journal =
    (begins : Head) × (lines : List JournalLine) × (journal ≡ Some lines) × KeepsJournalFrom begins trees lines

-- the journal that was found is this one, as the trees keep it
abbrev pub IsFoundIn : Trees → Option Journal → Option (List JournalLine) → Type 0
IsFoundIn trees None journal = journal ≡ None
IsFoundIn trees (Some found) journal = (lines : List JournalLine) × (journal ≡ Some lines)
    × KeepsJournalFrom found.begins trees lines × (found.head ≡ head_with_all found.begins lines)

-- the trees hold the rows of a sound institution, and its journal's, by the tables of a version, and nothing else
pub record HoldsSoundAt (v : Version) (trees : Trees) : Type 0 where
  pub institution : Institution
  pub sound : IsSound institution
  pub holds : HoldsAt v trees (tables_at v institution)
  pub keeps : KeepsJournalAt v trees institution.journal

-- The same, and each line of the journal tells a request: tables that are opened.
pub record CanBeOpened (v : Version) (trees : Trees) : Type 0 where
  pub held : HoldsSoundAt v trees
  pub told : TellsRequests held.institution.journal

-- the rows of a sound institution, by tables without a journal
abbrev pub HoldsSound : Trees → Type 0
HoldsSound trees = HoldsSoundAt Second trees
