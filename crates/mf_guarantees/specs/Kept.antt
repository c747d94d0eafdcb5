-- What remains of an institution, whatever is asked of it.
use Rattle.std.specs.Prelude.{◌≡◌, ◌≤◌, ℕ, true, List, Some, slice_get}
use Rattle.mf_account.specs.declared.entry.Entry.{Entry}
use Rattle.mf_model.specs.Institution.{Institution, Catalogue, ListedProduct, Ledger, Rows, Office, office_at}

-- each thing of a list stands in another, at its place, and has become what R says
abbrev pub Remain : {A : Type 0} → (A → A → Type 0) → List A → List A → Type 0
Remain {A} R xs ys = (i : ℕ) (x : A) → slice_get xs i ≡ Some x → (y : A) × (slice_get ys i ≡ Some y) × R x y

-- it is what it was
abbrev pub IsSame : {A : Type 0} → A → A → Type 0
IsSame x y = x ≡ y

-- an entry is what it was, but that it may be reversed, which it then stays
pub record IsSameEntry (a b : Entry) : Type 0 where
  pub members : record a { reversed = b.reversed } ≡ b
  pub reversal : a.reversed ≡ true → b.reversed ≡ true

-- a loan is what it was, but for its stage, and has its entries and perhaps more
pub record IsSameLoan (a b : Ledger) : Type 0 where
  pub members : record a.loan { stage = b.loan.stage } ≡ b.loan
  pub entries : Remain IsSameEntry a.entries b.entries

-- a product is what it was, but that it may be retired, which it then stays
pub record IsSameProduct (a b : ListedProduct) : Type 0 where
  pub members : record a { retired = b.retired } ≡ b
  pub retirement : a.retired ≡ true → b.retired ≡ true

-- no member of staff, client or loan of an office is gone
pub record RowsRemain (a b : Rows) : Type 0 where
  pub staff : Remain IsSame a.staff b.staff
  pub clients : Remain IsSame a.clients b.clients
  pub loans : Remain IsSameLoan a.loans b.loans

-- an office is what it was, with all its rows
pub record OfficeRemains (f g : Office) : Type 0 where
  pub number : f.number ≡ g.number
  pub parent : f.parent ≡ g.parent
  pub name : f.name ≡ g.name
  pub rows : RowsRemain f.rows g.rows

-- no charge and no product is gone, and the business day is no earlier
pub record CatalogueRemains (k l : Catalogue) : Type 0 where
  pub day : k.day ≤ l.day
  pub charges : Remain IsSame k.charges l.charges
  pub products : Remain IsSameProduct k.products l.products

-- nothing is gone, and nothing is rewritten but what may be
pub record AllRemains (i j : Institution) : Type 0 where
  pub catalogue : CatalogueRemains i.catalogue j.catalogue
  pub offices : (x : ℕ) (f : Office) → office_at x i.offices ≡ Some f
      → (g : Office) × (office_at x j.offices ≡ Some g) × OfficeRemains f g
