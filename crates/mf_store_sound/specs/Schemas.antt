-- What the tables of a version of the schema hold of an institution.
use Rattle.std.specs.Prelude.{ℕ, [], ◌∷◌}
use Rattle.mf_base.specs.DayText.{day_text}
use Rattle.mf_model.specs.Institution.{Institution}
use Rattle.mf_store_schema.specs.Rows.{Lists}
use Rattle.mf_store_schema.specs.declared.meta.MetaRow.{MetaRow}
use Rattle.mf_store_schema.specs.declared.versions.Version.{Version}
use Rattle.mf_store_schema.specs.declared.versions.Version.TheVariants.{First, Second, Third}
use Rattle.mf_store_values.specs.Flat.{tables_of}

-- the row of meta of a schema
abbrev pub meta_under : ℕ → ℕ → MetaRow
meta_under schema day = record { one = 1; schema = schema; day = day_text day }

-- the lists less the journal
abbrev pub without_journal : Lists → Lists
without_journal lists = record lists { journal = [] }

-- and less the rows of accounts
abbrev pub without_accounts : Lists → Lists
without_accounts lists = record (without_journal lists) { instalments = []; shares = [] }

-- these lists less the journal, and none where a version has no table of them
abbrev pub lists_at : Version → Lists → Lists
lists_at First lists = without_accounts lists
lists_at Second lists = without_journal lists
lists_at Third lists = without_journal lists

-- what all tables but those of accounts hold of an institution, under this schema's number
abbrev pub tables_under : ℕ → Institution → Lists
tables_under schema i = record (tables_of i) {
  meta = meta_under schema i.catalogue.day ∷ [];
  instalments = [];
  shares = [];
}

-- the version has tables of accounts
abbrev pub HasAccounts : Version → Type 0
HasAccounts First = ⊥
HasAccounts Second = Unit {0}
HasAccounts Third = Unit {0}

-- what the tables of a version hold of an institution, the journal's aside
abbrev pub tables_at : Version → Institution → Lists
tables_at First i = tables_under 1 i
tables_at Second i = tables_of i
tables_at Third i = record (tables_of i) { meta = meta_under 3 i.catalogue.day ∷ [] }
