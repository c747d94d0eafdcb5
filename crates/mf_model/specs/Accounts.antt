-- The account of a loan: one function of the catalogue, the loan and its entries. All that is told of a loan is read
-- off it.
use Rattle.std.specs.Prelude.{ℕ, List, [], ◌∷◌, option_map, Option, Some, None}
use Rattle.mf_catalog.specs.declared.product.Product.{Product}
use Rattle.mf_catalog.specs.declared.terms.Terms.{Terms}
use Rattle.mf_catalog.specs.Product.{terms_of}
use Rattle.mf_account.specs.declared.balances.Balances.{Balances}
use Rattle.mf_account.specs.declared.entry.Entry.{Entry}
use Rattle.mf_account.specs.Balance.{balances_of}
use Rattle.mf_account.specs.Loan.{DisbursedLoan, status_of_loan}
use Rattle.mf_statement.specs.declared.lines.EntryLine.{EntryLine}
use Rattle.mf_statement.specs.declared.lines.InstalmentLine.{InstalmentLine}
use Rattle.mf_statement.specs.Lines.{instalments_of, entries_of}
use Rattle.mf_model.specs.declared.loan.Loan.{Loan}
use Rattle.mf_model.specs.declared.loan.Statement.{Statement}
use Rattle.mf_model.specs.Institution.{Catalogue, Ledger, charge_in, product_in}
use Rattle.mf_model.specs.Stages.{stage_number, disbursed_on}

-- the terms that a product gives its loans, whether it is retired or not
abbrev pub terms_in : Catalogue → ℕ → Option Terms
terms_in k product = option_map (λ (p : Product). terms_of (charge_in k) p.members) (product_in k product)

-- a disbursed loan, with what its account is worked out from
abbrev pub running_loan : Loan → List Entry → ℕ → Terms → DisbursedLoan
running_loan loan entries day terms = record {
  terms = terms;
  principal = loan.principal;
  periods = loan.periods;
  day = day;
  entries = entries;
}

-- a loan's account, where it is disbursed and its terms are there
abbrev pub running_from : Loan → List Entry → Option ℕ → Option Terms → Option DisbursedLoan
running_from loan entries None terms = None
running_from loan entries (Some day) terms = option_map (running_loan loan entries day) terms

-- the account of a loan: the replay of its entries over the terms of its product; none before it is disbursed
abbrev pub account_in : Catalogue → Ledger → Option DisbursedLoan
account_in k l = running_from l.loan l.entries (disbursed_on l.loan.stage) (terms_in k l.loan.product)

-- what is read off an account, where there is one
abbrev pub of_account : {A : Type 0} → A → (DisbursedLoan → A) → Option DisbursedLoan → A
of_account none read None = none
of_account none read (Some a) = read a

-- the status of a loan: its stage's number, or what its account says
abbrev pub status_in : Catalogue → Ledger → ℕ
status_in k l = of_account (stage_number l.loan.stage) status_of_loan (account_in k l)

-- nothing of each portion
abbrev pub no_sums : List ℕ
no_sums = 0 ∷ 0 ∷ 0 ∷ 0 ∷ []

-- before disbursement all sums are 0
abbrev pub no_balances : Balances
no_balances = record {
  disbursement_fee = 0;
  owed = no_sums;
  paid = no_sums;
  waived = no_sums;
  written_off = no_sums;
  outstanding = no_sums;
  overpaid = 0;
  refunded = 0;
}

-- the sums of a loan
abbrev pub balances_in : Catalogue → Ledger → Balances
balances_in k l = of_account no_balances balances_of (account_in k l)

-- a loan as it is shown: as it was submitted and disbursed, with this status and these sums
abbrev pub statement_with : Loan → ℕ → Balances → Statement
statement_with loan status balances = record {
  client = loan.client;
  product = loan.product;
  principal = loan.principal;
  periods = loan.periods;
  day = disbursed_on loan.stage;
  status = status;
  balances = balances;
}

-- a loan as it is shown, with its status and its sums
abbrev pub statement : Catalogue → Ledger → Statement
statement k l = statement_with l.loan (status_in k l) (balances_in k l)

-- the instalments of a loan; none before it is disbursed
abbrev pub instalments_in : Catalogue → Ledger → List InstalmentLine
instalments_in k l = of_account [] instalments_of (account_in k l)

-- the entries of a loan; none before it is disbursed
abbrev pub entries_in : Catalogue → Ledger → List EntryLine
entries_in k l = of_account [] entries_of (account_in k l)
