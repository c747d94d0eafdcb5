-- The opening postings of an institution that is given its journal later: its balances, by office and product.
use Rattle.std.specs.Prelude.{ℕ, ◌==◌, List, length, map, filter}
use Rattle.std.specs.List.{flat_map, range_with_len}
use Rattle.mf_model.specs.Institution.{Institution, Catalogue, Ledger, Office}
use Rattle.mf_ledger.specs.declared.books.LoanSums.{LoanSums}
use Rattle.mf_ledger.specs.declared.books.Posting.{Posting}
use Rattle.mf_ledger.specs.declared.books.Title.{Title}
use Rattle.mf_ledger.specs.Books.{titles, signed_sum, sums_in, amount_on}

-- what loans of one office and product have on the account of a title together
abbrev pub opening_posting : ℕ → ℕ → List LoanSums → Title → Posting
opening_posting office product loans title = record {
  account = record { title = title; office = office; product = product };
  amount = signed_sum (amount_on title) loans;
}

-- a posting for each title
abbrev pub opening_on : ℕ → ℕ → List LoanSums → List Posting
opening_on office product loans = map (opening_posting office product loans) titles

-- what the books read of the loans of a product
abbrev pub sums_of_product : Catalogue → ℕ → List Ledger → List LoanSums
sums_of_product k product ls = map (sums_in k) (filter (λ (l : Ledger). l.loan.product == product) ls)

-- the numbers of the products of a catalogue
abbrev pub product_numbers : Catalogue → List ℕ
product_numbers k = range_with_len 1 (length k.products)

-- the opening postings of an office, product by product
abbrev pub office_opening : Catalogue → Office → List Posting
office_opening k f =
    flat_map (λ product. opening_on f.number product (sums_of_product k product f.rows.loans)) (product_numbers k)

-- The opening postings of an institution, office by office.
abbrev pub opening_postings : Institution → List Posting
opening_postings i = flat_map (office_opening i.catalogue) i.offices
