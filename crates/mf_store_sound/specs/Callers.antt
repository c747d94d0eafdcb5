-- Who entered what, by the rows of entries.
use Rattle.std.specs.Prelude.{Bool, false, List, Option, Some, None}
use Rattle.mf_office.specs.declared.caller.Caller.{Caller}
use Rattle.mf_office.specs.Texts.{caller_of}
use Rattle.mf_model.specs.Institution.{Office}
use Rattle.mf_model.specs.Sound.{is_staff}
use Rattle.mf_store_schema.specs.declared.entries.EntryRow.{EntryRow}

-- a caller is named, and is there
abbrev pub is_named_staff : List Office → Option Caller → Bool
is_named_staff fs None = false
is_named_staff fs (Some caller) = is_staff fs caller

-- the row's text is that of somebody who is there
abbrev pub is_by_staff : List Office → EntryRow → Bool
is_by_staff fs row = is_named_staff fs (caller_of row.staff)
