-- Rows in the order of their owners: those of the first owner, and those of later ones.
use Rattle.std.specs.Prelude.{ℕ, List, take, drop, ◌==◌}
use Rattle.std.specs.List.{prefix_len}
use Rattle.mf_model.specs.Institution.{Office, no_rows}
use Rattle.mf_store_schema.specs.declared.offices.OfficeRow.{OfficeRow}

-- how many rows are this owner's before the first that is not
abbrev pub own_count : {R : Type 0} → (R → ℕ) → ℕ → List R → ℕ
own_count owner_of x rows = prefix_len (λ r. owner_of r == x) rows

-- the first rows, which are an owner's
abbrev pub own : {R : Type 0} → (R → ℕ) → ℕ → List R → List R
own owner_of x rows = take (own_count owner_of x rows) rows

-- the rows behind these
abbrev pub later : {R : Type 0} → (R → ℕ) → ℕ → List R → List R
later owner_of x rows = drop (own_count owner_of x rows) rows

-- the office of a row, with none of the rows that belong to it
abbrev pub office_of : OfficeRow → Office
office_of r = record { number = r.number; parent = r.parent; name = r.name; rows = no_rows }

-- the office, with none of the rows that belong to it
abbrev pub bare : Office → Office
bare f = record f { rows = no_rows }
