-- All tables as nested pairs, in the order of the schema, and as a record of lists.
use Rattle.std.proofs.Common.{◌≡◌, ℕ, zero, suc, true, false, List, [], ◌∷◌, take, drop, refl, sym, subst}
use Rattle.std.specs.List.{AllByRecursion}
use Rattle.sqlite.specs.Effect.{Database}
use Rattle.sqlite.specs.Schema.{Schema}
use Rattle.sqlite.specs.Table.{Table}
use Rattle.sqlite_catalog.specs.Listing.{IsSound}
use Rattle.mf_store_sql.proofs.SpareLemmas.{all_and}
use Rattle.mf_store_schema.proofs.ReadLemmas.{unchanged_then}
use Rattle.mf_store_schema.specs.Versions.{IsOfVersion, schema_at}
use Rattle.mf_store_schema.specs.Whole.{HasRowids, HaveRowids}
use Rattle.mf_store_schema.specs.Writes.{conditions, HoldsAt}
use Rattle.mf_store_schema.specs.declared.versions.Version.{Version}
use Rattle.mf_store_schema.specs.declared.versions.Version.TheVariants.{First, Second, Third}
use Rattle.sqlite.specs.State.{State}
use Rattle.sqlite.specs.Tree.{Trees}
use Rattle.mf_store_sql.specs.Trees.{Condition, AllHold}
use Rattle.mf_store_schema.specs.Calls.{IsAsBefore}
use Rattle.mf_store_schema.specs.Schemas.{IsKnown, IsUnchangedUnder}
use Rattle.mf_store_schema.specs.Tables.{IsPresent}
use Rattle.mf_store_schema.specs.Rows.{Lists}
use Rattle.mf_store_schema.specs.declared.charges.ChargeRow.{ChargeRow}
use Rattle.mf_store_schema.specs.declared.clients.ClientRow.{ClientRow}
use Rattle.mf_store_schema.specs.declared.entries.EntryRow.{EntryRow}
use Rattle.mf_store_schema.specs.declared.instalments.InstalmentRow.{InstalmentRow}
use Rattle.mf_store_schema.specs.declared.loans.LoanRow.{LoanRow}
use Rattle.mf_store_schema.specs.declared.meta.MetaRow.{MetaRow}
use Rattle.mf_store_schema.specs.declared.offices.OfficeRow.{OfficeRow}
use Rattle.mf_store_schema.specs.declared.products.ProductRow.{ProductRow}
use Rattle.mf_store_schema.specs.declared.receipts.ReceiptRow.{ReceiptRow}
use Rattle.mf_store_schema.specs.declared.shares.ShareRow.{ShareRow}
use Rattle.mf_store_schema.specs.declared.staff.StaffRow.{StaffRow}
use Rattle.mf_store_sound.specs.Held.{AllTrue, Saying, said_of_each}
use Rattle.mf_store_sound.specs.Schemas.{HasAccounts, lists_at, without_accounts, without_journal}

infixr 4 ◌also◌
-- one, and then the others
abbrev pub ◌also◌ : {A B : Type 0} → A → B → A × B
a also b = (a, b)

-- the lists of the nine tables that every version has, and of others
abbrev pub Nested : Type 0 → Type 0
Nested Others = List MetaRow × (List OfficeRow × (List StaffRow × (List ClientRow × (List ChargeRow ×
    (List ProductRow × (List LoanRow × (List EntryRow × (List ReceiptRow × Others))))))))

abbrev nested_with : {Others : Type 0} → Lists → Others → Nested Others
nested_with l others = l.meta also l.offices also l.staff also l.clients also l.charges also l.products also l.loans
    also l.entries also l.receipts also others

abbrev lists_with : {Others : Type 0} → Nested Others → List InstalmentRow → List ShareRow → Lists
lists_with t instalments shares = record {
  meta = t.0;
  offices = t.1.0;
  staff = t.1.1.0;
  clients = t.1.1.1.0;
  charges = t.1.1.1.1.0;
  products = t.1.1.1.1.1.0;
  loans = t.1.1.1.1.1.1.0;
  entries = t.1.1.1.1.1.1.1.0;
  receipts = t.1.1.1.1.1.1.1.1.0;
  instalments = instalments;
  shares = shares;
  journal = [];
}

-- those of all versions
abbrev pub common_of : Lists → Nested (Unit {0})
common_of l = nested_with l tt

-- those of accounts
abbrev pub accounts_of : Lists → List InstalmentRow × (List ShareRow × Unit {0})
accounts_of l = l.instalments also l.shares also tt

pub same_lists : (a b : Nested (Unit {0})) (is js : List InstalmentRow) (ss ts : List ShareRow) → a ≡ b → is ≡ js
    → ss ≡ ts → lists_with a is ss ≡ lists_with b js ts
same_lists a b is js ss ts same rows more = λ t. lists_with (same t) (rows t) (more t)

-- those of any, with those of accounts
pub all_lists : (a b : Nested (Unit {0})) (c d : List InstalmentRow × (List ShareRow × Unit {0})) → a ≡ b → c ≡ d
    → lists_with a c.0 c.1.0 ≡ lists_with b d.0 d.1.0
all_lists a b c d same more = λ t. lists_with (same t) (more t).0 (more t).1.0

first_all : {A : Type 0} (P : A → Type 0) (n : ℕ) (xs : List A) → AllByRecursion P xs → AllByRecursion P (take n xs)
first_all P zero xs all = tt
first_all P (suc n) [] all = tt
first_all P (suc n) (x ∷ xs) all = (all.0, first_all P n xs all.1)

-- the first of the trees that keep all lists keep theirs
pub first_held : (trees : Trees) (n : ℕ) (cs : List Condition) → AllHold trees cs → AllHold trees (take n cs)
first_held trees zero cs all = tt
first_held trees (suc n) [] all = tt
first_held trees (suc n) (c ∷ cs) all = (all.0, first_held trees n cs all.1)

first_true : (n : ℕ) (Ps : List (Type 0)) → AllTrue Ps → AllTrue (take n Ps)
first_true zero Ps all = tt
first_true (suc n) [] all = tt
first_true (suc n) (P ∷ Ps) all = (all.0, first_true n Ps all.1)

-- what is said of all tables is said of those that every version has
pub first_nine : (Says : Saying) (lists : Lists) → AllTrue (said_of_each Says lists)
    → AllTrue (take 9 (said_of_each Says lists))
first_nine Says lists = first_true 9 (said_of_each Says lists)

-- ---- the schemas that have all tables read

abbrev Nine : Type 0 → Type 0 → Type 0
Nine P Others = P × (P × (P × (P × (P × (P × (P × (P × (P × Others))))))))

pub under_common : (k : Schema) → IsKnown k → Nine (IsKnown k) (Unit {0})
under_common k one = one also one also one also one also one also one also one also one also one also tt

-- what nothing changes under some schemas is unchanged under fewer
pub unchanged_fewer : (P Q : Schema → Type 0) (a b : State) → ((k : Schema) → Q k → P k) → IsUnchangedUnder P a b
    → IsUnchangedUnder Q a b
unchanged_fewer P Q a b has u = record {
  premise = u.premise;
  was_open = u.was_open;
  same = λ clean live its. u.same clean live (has a.now.schema its);
  shuts = u.shuts;
  stop = λ clean its. u.stop clean (λ live. has a.now.schema (its live));
}

pub unchanged_present : (P : Schema → Type 0) (a b : State) → ((k : Schema) → IsPresent k → P k)
    → IsUnchangedUnder P a b → IsAsBefore a b
unchanged_present P a b has u = record {
  premise = u.premise;
  was_open = u.was_open;
  same = λ clean live its. u.same clean live (has a.now.schema its);
  shuts = u.shuts;
  stop = λ clean its. u.stop clean (λ live. has a.now.schema (its live));
}

-- ---- a version's tables: those that every version has, and those of accounts

pub common_held : (v : Version) (trees : Trees) (lists : Lists) → HoldsAt v trees lists
    → AllHold trees (take 9 (conditions lists))
common_held First trees lists h = h.all
common_held Second trees lists h = first_held trees 9 (conditions lists) h.all
common_held Third trees lists h = first_held trees 9 (conditions lists) h.all

pub common_rowids : (v : Version) (trees : Trees) → HaveRowids v trees → HaveRowids First trees
common_rowids First trees all = all
common_rowids Second trees all = first_all (λ (t : Table). HasRowids (trees t.tree)) 9 (schema_at Second).tables all
common_rowids Third trees all = first_all (λ (t : Table). HasRowids (trees t.tree)) 9 (schema_at Third).tables all

-- what nothing changes where all versions' tables are read
pub unchanged_common : (v : Version) (a b : State) → IsUnchangedUnder (λ k. Nine (IsKnown k) (Unit {0})) a b
    → IsUnchangedUnder (IsOfVersion v) a b
unchanged_common v a b = unchanged_fewer (λ k. Nine (IsKnown k) (Unit {0})) (IsOfVersion v) a b
    (λ k its. under_common k (v, its))

pub common_hold : (v : Version) → ¬ HasAccounts v → (db : Database) (lists : Lists) → IsOfVersion v db.schema
    → IsSound db.schema db.trees → AllHold db.trees (take 9 (conditions lists)) → HoldsAt v db.trees lists
common_hold First none db lists ours sound all =
    record { sound = subst (λ k. IsSound k db.trees) ours sound; all = all }
common_hold Second none db lists ours sound all = absurd (none tt)
common_hold Third none db lists ours sound all = absurd (none tt)

present_at : (v : Version) → HasAccounts v → (k : Schema) → IsOfVersion v k → IsPresent k
present_at First has k ours = absurd has
present_at Second has k ours = (false, ours)
present_at Third has k ours = (true, ours)

accounts_hold : (v : Version) → HasAccounts v → (trees : Trees) (lists : Lists) → HoldsAt v trees lists
    → AllHold trees (drop 9 (conditions lists))
accounts_hold First has trees lists h = absurd has
accounts_hold Second has trees lists h = h.all.1.1.1.1.1.1.1.1.1
accounts_hold Third has trees lists h = h.all.1.1.1.1.1.1.1.1.1

rowids_of_accounts : (v : Version) → HasAccounts v → (trees : Trees) → HaveRowids v trees
    → HasRowids (trees 19) × (HasRowids (trees 21) × Unit {0})
rowids_of_accounts First has trees rowids = absurd has
rowids_of_accounts Second has trees rowids = rowids.1.1.1.1.1.1.1.1.1
rowids_of_accounts Third has trees rowids = let last = rowids.1.1.1.1.1.1.1.1.1 in last.0 also last.1.0 also tt

all_hold : (v : Version) → HasAccounts v → (db : Database) (lists : Lists) → IsOfVersion v db.schema
    → IsSound db.schema db.trees → AllHold db.trees (conditions lists) → HoldsAt v db.trees lists
all_hold First has db lists ours sound all = absurd has
all_hold Second has db lists ours sound all =
    record { sound = subst (λ k. IsSound k db.trees) ours sound; all = all }
all_hold Third has db lists ours sound all =
    record { sound = subst (λ k. IsSound k db.trees) ours sound; all = all }

module _ (v : Version) (has : HasAccounts v) where
  has_accounts : (k : Schema) → IsOfVersion v k → IsPresent k × (IsPresent k × Unit {0})
  has_accounts k ours = let its : IsPresent k = present_at v has k ours in
      its also its also tt

  -- and then those of accounts
  pub unchanged_all : (a b c : State) → IsUnchangedUnder (λ k. Nine (IsKnown k) (Unit {0})) a b
      → IsUnchangedUnder (λ k. IsPresent k × (IsPresent k × Unit {0})) b c → IsUnchangedUnder (IsOfVersion v) a c
  unchanged_all a b c first second = unchanged_fewer (λ k. Nine (IsKnown k) (Unit {0})
      × (IsPresent k × (IsPresent k × Unit {0}))) (IsOfVersion v) a c
      (λ k its. (under_common k (v, its), has_accounts k its))
      (unchanged_then (λ k. Nine (IsKnown k) (Unit {0})) (λ k. IsPresent k × (IsPresent k × Unit {0})) a b c first
      second)

  -- the database between the two readings is as it was before
  module _ (was now : Database) (same : now ≡ was) (ours : IsOfVersion v was.schema) where
    pub under_accounts : IsPresent now.schema × (IsPresent now.schema × Unit {0})
    under_accounts = has_accounts now.schema (subst (λ (d : Database). IsOfVersion v d.schema) (sym same) ours)

    pub accounts_held : (lists : Lists) → HoldsAt v was.trees lists → AllHold now.trees (drop 9 (conditions lists))
    accounts_held lists h = subst (λ (d : Database). AllHold d.trees (drop 9 (conditions lists))) (sym same)
        (accounts_hold v has was.trees lists h)

    pub accounts_rowids : HaveRowids v was.trees → HasRowids (now.trees 19) × (HasRowids (now.trees 21) × Unit {0})
    accounts_rowids rowids = subst (λ (d : Database). HasRowids (d.trees 19) × (HasRowids (d.trees 21) × Unit {0}))
        (sym same) (rowids_of_accounts v has was.trees rowids)

    pub both_hold : (lists : Lists) → IsSound was.schema was.trees → AllHold was.trees (take 9 (conditions lists))
        → AllHold now.trees (drop 9 (conditions lists)) → HoldsAt v was.trees lists
    both_hold lists sound common accounts = all_hold v has was lists ours sound
        (all_and was.trees (take 9 (conditions lists)) (drop 9 (conditions lists)) common
        (subst (λ (d : Database). AllHold d.trees (drop 9 (conditions lists))) same accounts))

-- these lists are all that the version has tables for, and no others where it has none of accounts
pub lists_whole : (v : Version) → HasAccounts v → (lists : Lists) → lists_at v lists ≡ without_journal lists
lists_whole First has lists = absurd has
lists_whole Second has lists = refl
lists_whole Third has lists = refl

pub lists_bare : (v : Version) → ¬ HasAccounts v → (lists : Lists) → lists_at v lists ≡ without_accounts lists
lists_bare First none lists = refl
lists_bare Second none lists = absurd (none tt)
lists_bare Third none lists = absurd (none tt)
