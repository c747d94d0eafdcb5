-- The versions of the schema: each has the tables of the one before it, and more.
use Rattle.std.specs.Prelude.{◌≡◌, ℕ, true, false, take}
use Rattle.sqlite.specs.Schema.{Schema}
use Rattle.mf_store_schema.specs.Tables.{schema_with, schema_keeping, tables}
use Rattle.mf_store_schema.specs.declared.versions.Version.{Version}
use Rattle.mf_store_schema.specs.declared.versions.Version.TheVariants.{First, Second, Third}

-- how many of the tables a version has, the journal aside
abbrev pub count : Version → ℕ
count First = 9
count Second = 11
count Third = 11

-- its number, as the row of meta has it
abbrev pub number_of : Version → ℕ
number_of First = 1
number_of Second = 2
number_of Third = 3

-- its schema
abbrev pub schema_at : Version → Schema
schema_at First = schema_with (take (count First) tables)
schema_at Second = schema_keeping false
schema_at Third = schema_keeping true

-- a schema is that of this version
abbrev pub IsOfVersion : Version → Schema → Type 0
IsOfVersion v k = k ≡ schema_at v
