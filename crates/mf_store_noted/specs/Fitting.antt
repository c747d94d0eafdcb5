-- Rows that the text of an upgraded institution tells apart: all those that tables can hold.
use Rattle.std.specs.Prelude.{◌^◌, ◌<◌, List, length, map, FitsSigned}
use Rattle.std.specs.Int.{w64}
use Rattle.std.specs.List.{AllByRecursion}
use Rattle.sqlite.specs.Order.{Row}
use Rattle.sqlite.specs.declared.types.Value.{Value}
use Rattle.sqlite.specs.declared.types.Value.TheVariants.{Null, Int, Text, Real, Blob}
use Rattle.mf_store_schema.specs.Rows.{Lists, meta_row, office_row, staff_row, client_row, charge_row, product_row}
use Rattle.mf_store_schema.specs.Rows.{loan_row, entry_row, receipt_row, instalment_row, share_row}

-- an integer has 64 bits, and 64 bits hold the length of a text; the tables have no other kind of value but NULL
abbrev pub FitsValue : Value → Type 0
FitsValue Null = Unit {0}
FitsValue (Int n) = FitsSigned w64 n
FitsValue (Text t) = length t < 2 ^ 64
FitsValue (Real x) = Unit {0}
FitsValue (Blob b) = Unit {0}

-- rows of such values, of which 64 bits hold the number
pub record FitsRows (rows : List Row) : Type 0 where
  pub count : length rows < 2 ^ 64
  pub values : AllByRecursion (λ (row : Row). AllByRecursion FitsValue row) rows

-- so are the rows of each table but the journal
pub record FitsTables (lists : Lists) : Type 0 where
  pub meta : FitsRows (map meta_row lists.meta)
  pub offices : FitsRows (map office_row lists.offices)
  pub staff : FitsRows (map staff_row lists.staff)
  pub clients : FitsRows (map client_row lists.clients)
  pub charges : FitsRows (map charge_row lists.charges)
  pub products : FitsRows (map product_row lists.products)
  pub loans : FitsRows (map loan_row lists.loans)
  pub entries : FitsRows (map entry_row lists.entries)
  pub receipts : FitsRows (map receipt_row lists.receipts)
  pub instalments : FitsRows (map instalment_row lists.instalments)
  pub shares : FitsRows (map share_row lists.shares)
