-- Rows of offices that are one tree.
use Rattle.std.specs.Prelude.{◌≡◌, ◌≢◌, ℕ, ◌<◌, ◌≤◌, List, [], ◌∷◌, map, find, Option, Some, None, is_some, true, ◌==◌}
use Rattle.std.specs.List.{AllByRecursion}
use Rattle.mf_office.specs.Keys.{head_key, child_key, key_depth}
use Rattle.mf_office.specs.Numbers.{IsNumberUpTo}
use Rattle.mf_model.specs.Sound.{IsName}
use Rattle.mf_model.specs.Tree.{IsTree, parent_of}
use Rattle.mf_store_schema.specs.declared.offices.OfficeRow.{OfficeRow}
use Rattle.mf_store_values.specs.Flat.{office_under}
use Rattle.mf_store_values.specs.Parts.{office_of}

-- an office's number and its name
pub record IsNumberedAndNamed (r : OfficeRow) : Type 0 where
  pub number : IsNumberUpTo 9999 r.number
  pub name : IsName r.name

-- the rows are those of offices that are a tree, each with the hierarchy text that its parents give
pub record AreOffices (rows : List OfficeRow) : Type 0 where
  pub each : AllByRecursion IsNumberedAndNamed rows
  pub tree : IsTree (map office_of rows)
  pub keys : map (office_under (parent_of (map office_of rows))) (map office_of rows) ≡ rows

-- what shows it row by row: the numbers go up, from above this one
abbrev pub AscendFrom : ℕ → List OfficeRow → Type 0
AscendFrom n [] = Unit {0}
AscendFrom n (r ∷ rs) = (n < r.number) × AscendFrom r.number rs

-- the row of this number
abbrev pub office_row_in : ℕ → List OfficeRow → Option OfficeRow
office_row_in x rows = find (λ r. r.number == x) rows

-- the row of a parent, if one is named and there
abbrev pub parent_row : List OfficeRow → Option ℕ → Option OfficeRow
parent_row rows None = None
parent_row rows (Some p) = office_row_in p rows

-- an office with no parent is the head; another's text is its parent's, its own number and a dot
abbrev pub HasParentsText : List OfficeRow → Option ℕ → OfficeRow → Type 0
HasParentsText rows None r = (r.number ≡ 1) × (r.hkey ≡ head_key)
HasParentsText rows (Some p) r = (r.number ≢ 1) × (above : OfficeRow) × (office_row_in p rows ≡ Some above)
    × (r.hkey ≡ child_key above.hkey r.number)

-- what a row of such offices keeps
pub record IsOfficeRow (rows : List OfficeRow) (r : OfficeRow) : Type 0 where
  pub own : IsNumberedAndNamed r
  pub text : HasParentsText rows r.parent r
  pub depth : key_depth r.hkey ≤ 6

-- rows of offices in the order of their numbers, one tree
pub record AreOfficeRows (rows : List OfficeRow) : Type 0 where
  pub ascend : AscendFrom 0 rows
  pub each : AllByRecursion (IsOfficeRow rows) rows
  pub head : is_some (office_row_in 1 rows) ≡ true
