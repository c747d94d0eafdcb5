-- The tables as data, and the schema that they make.
use Rattle.std.specs.Prelude.{◌≡◌, ℕ, Bool, true, false, List, [], ◌∷◌, ◌++◌, map, flat_map, codes}
use Rattle.sqlite.specs.Schema.{Schema}
use Rattle.mf_store_sql.specs.Columns.{Columns, named, unique, Number, Amount, Text, Bytes, MaybeNumber, MaybeText}
use Rattle.mf_store_sql.specs.Columns.{sql_table, sql_indexes}
use Rattle.mf_store_sql.specs.Making.{made_after}
use Rattle.mf_store_sql.specs.Numbered.{Numbered, numbered_table}
use Rattle.mf_store_sql.specs.Tables.{no_schema}

-- the schema's number and the business day, in one row
abbrev pub meta : Columns
meta = record {
  name = codes "meta";
  columns = named Number (codes "one") ∷ named Number (codes "schema") ∷ named Text (codes "day") ∷ [];
  key = 1;
}

-- the offices, each with its parent and its hierarchy text
abbrev pub offices : Columns
offices = record {
  name = codes "offices";
  columns = named Number (codes "number") ∷ named MaybeNumber (codes "parent") ∷ unique Text (codes "hkey")
      ∷ named Text (codes "name") ∷ [];
  key = 1;
}

-- the members of staff, by office
abbrev pub staff : Columns
staff = record {
  name = codes "staff";
  columns = named Number (codes "office") ∷ named Number (codes "number") ∷ named Text (codes "name")
      ∷ named Number (codes "role") ∷ [];
  key = 2;
}

-- the clients, by office
abbrev pub clients : Columns
clients = record {
  name = codes "clients";
  columns = named Number (codes "office") ∷ named Number (codes "number") ∷ named Text (codes "name") ∷ [];
  key = 2;
}

-- the charges
abbrev pub charges : Columns
charges = record {
  name = codes "charges";
  columns = named Number (codes "number") ∷ named Text (codes "name") ∷ named Number (codes "kind")
      ∷ named Number (codes "calc") ∷ named Amount (codes "value") ∷ [];
  key = 1;
}

-- the products
abbrev pub products : Columns
products = record {
  name = codes "products";
  columns = named Number (codes "number") ∷ named Text (codes "name") ∷ named Number (codes "method")
      ∷ named Number (codes "rate") ∷ named Number (codes "frequency") ∷ named Number (codes "every")
      ∷ named Number (codes "principal_grace") ∷ named Number (codes "interest_grace")
      ∷ named Amount (codes "min_principal") ∷ named Amount (codes "max_principal") ∷ named Number (codes "min_periods")
      ∷ named Number (codes "max_periods") ∷ named Number (codes "strategy")
      ∷ named MaybeNumber (codes "disbursement_charge") ∷ named MaybeNumber (codes "instalment_charge")
      ∷ named MaybeNumber (codes "overdue_charge") ∷ named Number (codes "retired") ∷ [];
  key = 1;
}

-- the loans, by office
abbrev pub loans : Columns
loans = record {
  name = codes "loans";
  columns = named Number (codes "office") ∷ named Number (codes "number") ∷ named Number (codes "client")
      ∷ named Number (codes "product") ∷ named Amount (codes "principal") ∷ named Number (codes "periods")
      ∷ named Number (codes "stage") ∷ named MaybeText (codes "approved") ∷ named MaybeText (codes "disbursed") ∷ [];
  key = 2;
}

-- the entries, by loan
abbrev pub entries : Columns
entries = record {
  name = codes "entries";
  columns = named Number (codes "office") ∷ named Number (codes "loan") ∷ named Number (codes "seq")
      ∷ named Number (codes "kind") ∷ named Text (codes "day") ∷ named Amount (codes "amount")
      ∷ named Number (codes "instalment") ∷ named Number (codes "portion") ∷ named MaybeText (codes "receipt")
      ∷ named Text (codes "staff") ∷ named Number (codes "reversed") ∷ [];
  key = 3;
}

-- the receipts, by office
abbrev pub receipts : Columns
receipts = record {
  name = codes "receipts";
  columns = named Number (codes "office") ∷ named Text (codes "receipt") ∷ named Number (codes "loan")
      ∷ named Number (codes "seq") ∷ [];
  key = 2;
}

-- the instalments of accounts, by loan
abbrev pub instalments : Columns
instalments = record {
  name = codes "instalments";
  columns = named Number (codes "office") ∷ named Number (codes "loan") ∷ named Number (codes "number")
      ∷ named Text (codes "due") ∷ named Amount (codes "owed_penalty") ∷ named Amount (codes "paid_penalty")
      ∷ named Amount (codes "waived_penalty") ∷ named Amount (codes "written_off_penalty")
      ∷ named Amount (codes "owed_fee") ∷ named Amount (codes "paid_fee") ∷ named Amount (codes "waived_fee")
      ∷ named Amount (codes "written_off_fee") ∷ named Amount (codes "owed_interest")
      ∷ named Amount (codes "paid_interest") ∷ named Amount (codes "waived_interest")
      ∷ named Amount (codes "written_off_interest") ∷ named Amount (codes "owed_principal")
      ∷ named Amount (codes "paid_principal") ∷ named Amount (codes "waived_principal")
      ∷ named Amount (codes "written_off_principal") ∷ [];
  key = 3;
}

-- what entries settle, by entry
abbrev pub shares : Columns
shares = record {
  name = codes "shares";
  columns = named Number (codes "office") ∷ named Number (codes "loan") ∷ named Number (codes "seq")
      ∷ named Number (codes "place") ∷ named Number (codes "instalment") ∷ named Number (codes "portion")
      ∷ named Number (codes "how") ∷ named Amount (codes "amount") ∷ [];
  key = 4;
}

-- the tables, each with the tree of its rows
abbrev pub tables : List (ℕ × Columns)
tables = (0, meta) ∷ (2, offices) ∷ (5, staff) ∷ (7, clients) ∷ (9, charges) ∷ (11, products) ∷ (13, loans)
    ∷ (15, entries) ∷ (17, receipts) ∷ (19, instalments) ∷ (21, shares) ∷ []

-- the schema that tables make, with their indexes
abbrev pub schema_with : List (ℕ × Columns) → Schema
schema_with ts = record {
  tables = map (λ (t : ℕ × Columns). sql_table t.0 t.1) ts;
  indexes = flat_map (λ (t : ℕ × Columns). sql_indexes t.0 t.1) ts;
  views = [];
}

-- today's schema
abbrev pub schema : Schema
schema = schema_with tables

-- The journal: each line's number, and what the line has; at the end the chain after it. A day is its number, which is
-- what the chain is made of. Texts are bytes as they came. SQL lets a stranger write any integer where the program
-- writes numbers without a sign, so the columns are said to hold any.
abbrev pub journal : Numbered
journal = record {
  name = codes "journal";
  number = codes "number";
  columns = named Amount (codes "day") ∷ named Amount (codes "office") ∷ named Amount (codes "staff")
      ∷ named Bytes (codes "told") ∷ named Bytes (codes "method") ∷ named Bytes (codes "path")
      ∷ named Bytes (codes "body") ∷ named Amount (codes "named_office") ∷ named Amount (codes "named_loan")
      ∷ named Bytes (codes "chain") ∷ [];
}

-- today's tables, and then the journal
abbrev pub third_schema : Schema
third_schema = record schema { tables = schema.tables ++ numbered_table 23 journal ∷ [] }

-- the schema of a database with today's tables, with or without a journal
abbrev pub schema_keeping : (journaled : Bool) → Schema
schema_keeping false = schema
schema_keeping true = third_schema

-- today's tables are there, and perhaps a journal
abbrev pub IsPresent : Schema → Type 0
IsPresent k = (journaled : Bool) × (k ≡ schema_keeping journaled)

-- the schema once these are made, and no others
abbrev pub made : List (ℕ × Columns) → Schema
made = made_after no_schema
