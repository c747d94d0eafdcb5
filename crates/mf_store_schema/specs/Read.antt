-- What rows are as records.
use Rattle.std.specs.Prelude.{◌≡◌, List, [], ◌∷◌, Option, Some, None, Vec}
use Rattle.std.specs.declared.alloc.Global.{Global}
use Rattle.std.specs.List.{AllByRecursion}
use Rattle.sqlite.specs.Order.{Row}
use Rattle.mf_store_sql.specs.Columns.{Named}
use Rattle.mf_store_schema.specs.Fields.{HasFields}

module _ {X : Type 0} (stored : X → Row) where
  -- the record has the row, and no other has it
  pub record IsReadAs (x : X) (row : Row) : Type 0 where
    pub has : stored x ≡ row
    pub only : (y : X) → row ≡ stored y → x ≡ y

  -- the same of lists, one by one
  abbrev pub AreReadAs : List X → List Row → Type 0
  AreReadAs [] [] = Unit {0}
  AreReadAs [] (row ∷ rows) = ⊥
  AreReadAs (x ∷ xs) [] = ⊥
  AreReadAs (x ∷ xs) (row ∷ rows) = IsReadAs x row × AreReadAs xs rows

  -- these are the rows' records, or there are none, since these columns cannot hold one of the rows
  abbrev pub AreRead : List Named → Option (Vec X Global) → List Row → Type 0
  AreRead columns (Some records) rows = AreReadAs records.items rows
  AreRead columns None rows = ¬ AllByRecursion (HasFields columns) rows
