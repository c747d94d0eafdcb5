-- Where the journal begins of an institution that was there without one.
use Rattle.std.specs.Prelude.{◌≡◌, ℕ, List, [], ◌∷◌, ◌++◌, length, map, flat_map, codes, IsTrue, Result, OnOk, OnErr}
use Rattle.std.specs.Prelude.{IfOk, IfErr, None, Some}
use Rattle.std.specs.Int.{w64, cast_unsigned}
use Rattle.sha2.specs.Sha256.{sha256}
use Rattle.sha2.specs.Hashers.{Holds256}
use Rattle.sha2.specs.declared.Sha256.{Sha256}
use Rattle.sqlite.specs.Held.{Held, state}
use Rattle.sqlite.specs.Order.{Row}
use Rattle.sqlite.specs.State.{HasCleanDisk}
use Rattle.sqlite.specs.declared.types.Value.{Value}
use Rattle.sqlite.specs.declared.types.Value.TheVariants.{Null, Int, Text, Real, Blob}
use Rattle.sqlite_trees.specs.declared.store.Store.{Ghosts}
use Rattle.mf_base.specs.declared.fault.Fault.{Fault}
use Rattle.mf_base.specs.declared.fault.Fault.TheVariants.{F20}
use Rattle.mf_journal.specs.Chain.{number_text, bytes_text}
use Rattle.mf_journal.specs.declared.following.Head.{Head}
use Rattle.mf_model.specs.Institution.{Institution}
use Rattle.mf_store_schema.specs.Calls.{IsAsBefore, IsKeeping, OnlyFaultsShut}
use Rattle.mf_store_schema.specs.Rows.{Lists, meta_row, office_row, staff_row, client_row, charge_row, product_row}
use Rattle.mf_store_schema.specs.Rows.{loan_row, entry_row, receipt_row, instalment_row, share_row}
use Rattle.mf_store_values.specs.Flat.{tables_of}
use Rattle.mf_store_journal.specs.declared.journal.Journal.{Journal}
use Rattle.mf_store_noted.specs.Fitting.{FitsTables}
use Rattle.mf_store_noted.specs.Kept.{journaled}
use Rattle.mf_store_noted.specs.Tabled.{HasGoodDisk, IsTabled, LeavesTables}

-- The text of a value: its kind, and then an integer's 64 bits in two's complement, or a text behind its length. The
-- tables have no other kind.
abbrev pub value_text : Value → List ℕ
value_text Null = 0 ∷ []
value_text (Int n) = 1 ∷ number_text (cast_unsigned w64 n)
value_text (Text t) = 2 ∷ bytes_text t
value_text (Real x) = 3 ∷ []
value_text (Blob b) = 3 ∷ []

-- the text of a row, value by value
abbrev pub row_text : Row → List ℕ
row_text row = flat_map value_text row

-- the text of a table: the number of its rows, and then each row
abbrev pub table_text : List Row → List ℕ
table_text rows = number_text (length rows) ++ flat_map row_text rows

-- the text of all tables but the journal, in the order of the schema
abbrev pub tables_text : Lists → List ℕ
tables_text lists = table_text (map meta_row lists.meta) ++ (table_text (map office_row lists.offices)
    ++ (table_text (map staff_row lists.staff) ++ (table_text (map client_row lists.clients)
    ++ (table_text (map charge_row lists.charges) ++ (table_text (map product_row lists.products)
    ++ (table_text (map loan_row lists.loans) ++ (table_text (map entry_row lists.entries)
    ++ (table_text (map receipt_row lists.receipts) ++ (table_text (map instalment_row lists.instalments)
    ++ table_text (map share_row lists.shares))))))))))

-- the text of an institution that is upgraded: what happens to it, its business day, and its rows
abbrev pub upgrading_text : ℕ → Lists → List ℕ
upgrading_text day lists = codes "microloan upgraded" ++ (number_text day ++ tables_text lists)

-- before the first line, on its business day, at the digest of all its rows
abbrev pub upgrading : ℕ → Lists → Head
upgrading day lists = record { number = 0; day = day; chain = sha256 (upgrading_text day lists) }

-- the hasher takes in a text
abbrev pub TakesIn : Sha256 → Sha256 → List ℕ → Type 0
TakesIn old new text = (m : List ℕ) → Holds256 old m → Holds256 new (m ++ text)

module _ {S : Type 0} (g : Ghosts S) where
  -- A hasher takes in a text of the lists that the tables keep, of which this holds then. Nothing else is changed, and
  -- the call gives up with F20 alone.
  pub record TakesInTables (text : Lists → List ℕ) (Fit : Lists → Type 0) (old new : Held S) (was is : Sha256)
      (result : Result (Unit {0}) Fault) : Type 0 where
    pub kept : IsAsBefore (state g old) (state g new)
    pub gives_up : IfErr result (λ fault. fault ≡ F20)
    pub is_open : HasCleanDisk (state g new) → OnOk result (IsTrue (state g new).is_open)
    pub takes_in : HasCleanDisk (state g new) → OnOk result ((lists : Lists) → IsKeeping (state g old) lists
        → TakesIn was is (text lists))
    pub fits : HasCleanDisk (state g new) → OnOk result ((lists : Lists) → IsKeeping (state g old) lists → Fit lists)

  -- The institution, which keeps no journal and is on this business day, gets one that has no line yet and begins at
  -- the digest of all its rows; or, giving up, none. A stop leaves what it could leave before, or the institution with
  -- its journal, whole.
  pub record GetsJournal (day : ℕ) (old new : Held S) (result : Result Journal Fault) : Type 0 where
    pub premise : HasGoodDisk g new → HasGoodDisk g old
    pub gives_up : IfErr result (λ fault. fault ≡ F20)
    pub shuts : OnlyFaultsShut (state g old) (state g new)
    pub is_open : HasGoodDisk g new → OnOk result (IsTrue (state g new).is_open)
    pub begins : HasGoodDisk g new → IfOk result (λ journal. (i : Institution) → IsTabled g None old i
        → journal.begins ≡ upgrading day (tables_of i))
    pub fits : HasGoodDisk g new → OnOk result ((i : Institution) → IsTabled g None old i → FitsTables (tables_of i))
    pub made : HasGoodDisk g new → IfOk result (λ journal. (i : Institution) → IsTabled g None old i
        → i.catalogue.day ≡ day → IsTabled g (Some journal) new (journaled i))
    pub left : HasGoodDisk g new → OnOk result ((i : Institution) → IsTabled g None old i → i.catalogue.day ≡ day
        → LeavesTables g new (journaled i ∷ []))
    pub same : HasGoodDisk g new → OnErr result ((i : Institution) → IsTabled g None old i → IsTabled g None new i)
    pub stop : HasGoodDisk g new → (i : Institution) (is : List Institution) → IsTabled g None old i
        → i.catalogue.day ≡ day → LeavesTables g old is → LeavesTables g new (journaled i ∷ is)
