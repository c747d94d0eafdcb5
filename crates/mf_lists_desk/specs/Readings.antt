-- What the desk of the lists reads of a store, in the words of the institution that it stands for.
use Rattle.std.specs.Prelude.{◌≡◌, ◌⊎◌, ℕ, cond, is_some, List, option_map, Option, Result, Ok, Err, IfOk, IfErr}
use Rattle.mf_base.specs.declared.fault.Fault.{Fault}
use Rattle.mf_base.specs.declared.fault.Fault.TheVariants.{F4, F20}
use Rattle.mf_office.specs.declared.account.Account.{Account}
use Rattle.mf_catalog.specs.declared.charge.ChargeDef.{ChargeDef}
use Rattle.mf_catalog.specs.declared.product.Product.{Product}
use Rattle.mf_catalog.specs.declared.terms.Terms.{Terms}
use Rattle.mf_catalog.specs.Product.{charge_of, lending, terms_of}
use Rattle.mf_model.specs.Institution.{Catalogue, Institution, JournalLine, Rows, charge_in, product_in}
use Rattle.mf_model.specs.Outcomes.{unless_refused, where_found}
use Rattle.mf_model.specs.Store.{client_at, rows_at}
use Rattle.mf_model.specs.Tree.{seen_office}
use Rattle.mf_model.specs.declared.store.InstitutionStore.{Ghosts}
use Rattle.mf_lists.specs.Changes.{changes_after, changes_of_loan}
use Rattle.mf_lists.specs.declared.lines.ChangeLine.{ChangeLine}
use Rattle.mf_lists.specs.declared.lines.ClientLoan.{ClientLoan}
use Rattle.mf_lists.specs.declared.answer.ListTold.{ListTold}
use Rattle.mf_lists.specs.declared.preview.LoanPreview.{LoanPreview}
use Rattle.mf_lists.specs.Lists.{loans_of_client}
use Rattle.mf_lists.specs.Readings.{loan_changes}
use Rattle.mf_lists.specs.Preview.{preview_in}
use Rattle.mf_lists.specs.Takings.{takings_on}
use Rattle.mf_lists.specs.declared.takings.Taking.{Taking}

-- what is read of the catalogue and the rows of office x, which has none where it isn't there
abbrev pub in_rows_of : {A : Type 0} → ℕ → (Catalogue → Rows → A) → Institution → A
in_rows_of x read i = read i.catalogue (rows_at x i)

-- what is read of the journal, the catalogue and the rows of office x
abbrev pub in_office : {A : Type 0} → ℕ → (Option (List JournalLine) → Catalogue → Rows → A) → Institution → A
in_office x read i = read i.journal i.catalogue (rows_at x i)

-- what the journal tells of a loan, where one is kept
abbrev pub loan_changes_at : Account → Institution → Option (List ChangeLine)
loan_changes_at loan i = option_map (changes_of_loan loan.office loan.number) i.journal

-- the same as an answer; F4 where the loan isn't there, or no journal is kept
abbrev pub changes_of_loan_told : Account → Institution → Result ListTold Fault
changes_of_loan_told loan i = where_found i.journal (loan_changes loan.office loan.number (rows_at loan.office i))

-- what the journal tells of an office after a place, where one is kept
abbrev pub changes_at : ℕ → ℕ → Institution → Option (List ChangeLine)
changes_at office after i = option_map (changes_after office after) i.journal

-- the takings of an office on a day, where a journal is kept
abbrev pub takings_at : ℕ → ℕ → Institution → Option (List Taking)
takings_at office day i = option_map (takings_on office day i.catalogue (rows_at office i)) i.journal

-- the loans of a client of an office, where there is one
abbrev pub client_loans_at : Account → Institution → Option (List ClientLoan)
client_loans_at client i =
    option_map (λ name. loans_of_client client.number i.catalogue (rows_at client.office i)) (client_at client i)

-- the number of office x, where o sees it; F4 where it doesn't
abbrev pub number_seen : ℕ → ℕ → Institution → Result ℕ Fault
number_seen o x i = cond (is_some (seen_office o x i)) (Ok x) (Err F4)

-- the charge that is named, where one is and is there
abbrev pub charge_named_in : Option ℕ → Institution → Option ChargeDef
charge_named_in named i = charge_of (charge_in i.catalogue) named

-- the terms of a loan of a product; F4 where it isn't there, F7 where it is retired, F8 outside its limits
abbrev pub terms_told : ℕ → ℕ → ℕ → Institution → Result Terms Fault
terms_told product principal n i =
    where_found (product_in i.catalogue product) (λ (p : Product).
    unless_refused (lending p principal n) (Ok (terms_of (charge_in i.catalogue) p.members)))

-- what a loan would be
abbrev pub preview_told : ℕ → ℕ → ℕ → ℕ → Institution → Result LoanPreview Fault
preview_told product principal n day i = preview_in i.catalogue product principal n day

module _ {S : Type 0} (store : Ghosts S) where
  -- What is worked out of readings of the store, which change nothing. It is what the institution gives, its refusal
  -- is the institution's, and it may give up.
  pub record AnswersBy {R : Type 0} (value : Institution → Result R Fault) (old new : S) (result : Result R Fault)
      : Type 0 where
    pub premise : store.clean new → store.clean old
    pub same : store.clean new → (i : Institution) → store.stands old i → store.stands new i
    pub gives : store.clean new → (i : Institution) → store.stands old i → IfOk result (λ r. value i ≡ Ok r)
    pub refuses : store.clean new → (i : Institution) → store.stands old i → IfErr result (λ fault. (fault ≡ F20)
        ⊎ (value i ≡ Err fault))
    pub stop : store.clean new → (is : List Institution) → store.leaves old is → store.leaves new is
