-- What the loans of an institution come to by portion: by office and product, a line for each portion and one for the
-- fee that is kept when a loan is paid out.
use Rattle.std.specs.Prelude.{ℕ, ◌==◌, List, [], ◌∷◌, map, filter, slice_index, sum_by}
use Rattle.std.specs.List.{flat_map}
use Rattle.mf_account.specs.declared.balances.Balances.{Balances}
use Rattle.mf_ledger.specs.Opening.{product_numbers}
use Rattle.mf_model.specs.Accounts.{balances_in}
use Rattle.mf_model.specs.Institution.{Institution, Catalogue, Ledger, Office}
use Rattle.mf_portions.specs.declared.lines.Column.{Column}
use Rattle.mf_portions.specs.declared.lines.Column.TheVariants.{Owed, Paid, Waived, WrittenOff, Outstanding}
use Rattle.mf_portions.specs.declared.lines.Heading.{Heading}
use Rattle.mf_portions.specs.declared.lines.Heading.TheVariants.{Penalties, Fees, Interest, Principal, Kept}
use Rattle.mf_portions.specs.declared.lines.PortionLine.{PortionLine}

-- the headings, in their order
abbrev pub headings : List Heading
headings = Penalties ∷ Fees ∷ Interest ∷ Principal ∷ Kept ∷ []

-- of sums by portion, and a sum of the fee that is kept, the one of a heading
abbrev pub of_heading : Heading → List ℕ → ℕ → ℕ
of_heading Penalties sums kept = slice_index sums 0
of_heading Fees sums kept = slice_index sums 1
of_heading Interest sums kept = slice_index sums 2
of_heading Principal sums kept = slice_index sums 3
of_heading Kept sums kept = kept

-- what a loan with these sums has in a column under a heading; the fee that is kept is owed and paid at once
abbrev pub figure : Heading → Column → Balances → ℕ
figure heading Owed b = of_heading heading b.owed b.disbursement_fee
figure heading Paid b = of_heading heading b.paid b.disbursement_fee
figure heading Waived b = of_heading heading b.waived 0
figure heading WrittenOff b = of_heading heading b.written_off 0
figure heading Outstanding b = of_heading heading b.outstanding 0

-- the line of the loans of one office and product under a heading
abbrev pub line_on : ℕ → ℕ → List Balances → Heading → PortionLine
line_on office product loans heading = record {
  office = office;
  product = product;
  heading = heading;
  owed = sum_by (figure heading Owed) loans;
  paid = sum_by (figure heading Paid) loans;
  waived = sum_by (figure heading Waived) loans;
  written_off = sum_by (figure heading WrittenOff) loans;
  outstanding = sum_by (figure heading Outstanding) loans;
}

-- a line for each heading
abbrev pub lines_on : ℕ → ℕ → List Balances → List PortionLine
lines_on office product loans = map (line_on office product loans) headings

-- the same where there is a loan; none where there is none
abbrev pub lines_of_some : ℕ → ℕ → List Balances → List PortionLine
lines_of_some office product [] = []
lines_of_some office product (b ∷ bs) = lines_on office product (b ∷ bs)

-- the sums of the loans of a product
abbrev pub balances_of_product : Catalogue → ℕ → List Ledger → List Balances
balances_of_product k product ls = map (balances_in k) (filter (λ (l : Ledger). l.loan.product == product) ls)

-- the lines of an office's loans, product by product
abbrev pub lines_of : Catalogue → ℕ → List Ledger → List ℕ → List PortionLine
lines_of k office ls products =
    flat_map (λ product. lines_of_some office product (balances_of_product k product ls)) products

-- the lines of an office
abbrev pub office_lines : Catalogue → Office → List PortionLine
office_lines k f = lines_of k f.number f.rows.loans (product_numbers k)

-- The lines of an institution, office by office.
abbrev pub portion_lines : Institution → List PortionLine
portion_lines i = flat_map (office_lines i.catalogue) i.offices
