-- The opening postings of an institution on either basis. On an accrual basis the books begin with those of a cash
-- basis and, beside them, with what accrual adds at the end of the business day, by office and product.
use Rattle.std.specs.Prelude.{ℕ, ◌==◌, ℤ, List, [], ◌∷◌, map, filter, ◌+ℤ◌}
use Rattle.std.specs.List.{flat_map}
use Rattle.mf_model.specs.Institution.{Institution, Catalogue, Ledger, Office}
use Rattle.mf_ledger.specs.declared.accrual.AccruedSums.{AccruedSums}
use Rattle.mf_ledger.specs.declared.basis.Basis.{Basis}
use Rattle.mf_ledger.specs.declared.basis.Basis.TheVariants.{Cash, Accrual}
use Rattle.mf_ledger.specs.declared.books.Posting.{Posting}
use Rattle.mf_ledger.specs.declared.books.Title.{Title}
use Rattle.mf_ledger.specs.Accrual.{accrual_titles, accrued, accrued_in, accrued_on}
use Rattle.mf_ledger.specs.Books.{signed_sum}
use Rattle.mf_ledger.specs.Opening.{opening_postings, product_numbers}
use Rattle.mf_ledger.specs.Runs.{Selection, balance, posted_by}

-- what accrual adds on the account of a title for loans of one office and product together
abbrev pub accrued_posting : ℕ → ℕ → List AccruedSums → Title → Posting
accrued_posting office product loans title = record {
  account = record { title = title; office = office; product = product };
  amount = signed_sum (accrued_on title) loans;
}

-- a posting for each title to which accrual adds
abbrev pub adjusting_on : ℕ → ℕ → List AccruedSums → List Posting
adjusting_on office product loans = map (accrued_posting office product loans) accrual_titles

-- what accrual reads of the loans of a product at the end of a day
abbrev pub accrued_of_product : ℕ → Catalogue → ℕ → List Ledger → List AccruedSums
accrued_of_product day k product ls =
    map (accrued_in day k) (filter (λ (l : Ledger). l.loan.product == product) ls)

-- what accrual adds in an office, product by product
abbrev pub office_adjusting : ℕ → Catalogue → Office → List Posting
office_adjusting day k f =
    flat_map (λ product. adjusting_on f.number product (accrued_of_product day k product f.rows.loans))
    (product_numbers k)

-- The adjusting postings with which books open: what accrual adds at the end of a day, office by office.
abbrev pub adjusting_opening : ℕ → Institution → List Posting
adjusting_opening day i = flat_map (office_adjusting day i.catalogue) i.offices

-- The opening transactions of an institution on its business day, by their postings: one on a cash basis, and on an
-- accrual basis the adjusting one behind it.
abbrev pub openings : Basis → Institution → List (List Posting)
openings Cash i = opening_postings i ∷ []
openings Accrual i = opening_postings i ∷ adjusting_opening i.catalogue.day i ∷ []

-- what the opening transactions have on the accounts of a title, over the offices and products that are meant
abbrev pub opened : Basis → Title → Selection → Institution → ℤ
opened basis title meant i =
    signed_sum (λ postings. signed_sum (posted_by title meant) postings) (openings basis i)

-- What an institution has on the accounts of a title in books on a basis at the end of a day, over the offices and
-- products that are meant.
abbrev pub standing : Basis → Title → Selection → ℕ → Institution → ℤ
standing Cash title meant day i = balance title meant i
standing Accrual title meant day i = balance title meant i +ℤ accrued title meant day i
