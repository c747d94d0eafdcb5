-- What writes make of the rows of an institution.
use Rattle.std.specs.Prelude.{◌≡◌, ◌<◌, ℕ, Bool, true, false, List, length, None, Some}
use Rattle.std.specs.List.{AllByRecursion}
use Rattle.mf_store_sql.specs.Writes.{AllFit, after_all}
use Rattle.mf_model.specs.Institution.{Institution, newly_made}
use Rattle.mf_model.specs.Sound.{IsSound}
use Rattle.mf_store_values.specs.Flat.{tables_of}
use Rattle.mf_store_schema.specs.Writes.{after_write, FitsLists}
use Rattle.mf_store_schema.specs.declared.writes.StoreWrite.{StoreWrite}
use Rattle.mf_store_schema.specs.declared.writes.StoreWrite.TheVariants.{MakeTables, PutMeta}

-- the writes make the one sound institution's rows of the other's
pub record Becomes (writes : List StoreWrite) (i j : Institution) : Type 0 where
  pub sound : IsSound j
  pub fits : AllFit after_write FitsLists writes (Some (tables_of i))
  pub is : after_all after_write writes (Some (tables_of i)) ≡ Some (tables_of j)

-- the writes make a new institution on this day where there were no tables
pub record Begins (writes : List StoreWrite) (day : ℕ) : Type 0 where
  pub some : 0 < length writes
  pub fits : AllFit after_write FitsLists writes None
  pub is : after_all after_write writes None ≡ Some (tables_of (newly_made day))

-- the write leaves the row of meta as it is
abbrev pub spares_meta : StoreWrite → Bool
spares_meta MakeTables = false
spares_meta (PutMeta row) = false
spares_meta _ = true

-- so does each of these
abbrev pub SpareMeta : List StoreWrite → Type 0
SpareMeta writes = AllByRecursion (λ write. spares_meta write ≡ true) writes
