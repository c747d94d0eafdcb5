-- What the books read of the loans of an institution, and the text of the postings with which books open.
use Rattle.std.specs.Prelude.{◌≡◌, ℕ, ◌==◌, ◌&&◌, nat_le, cond, List, [], ◌++◌, map, filter, Some}
use Rattle.std.specs.List.{flat_map}
use Rattle.mf_ledger.specs.Adjusting.{adjusting_opening, openings}
use Rattle.mf_ledger.specs.Books.{is_moved}
use Rattle.mf_ledger.specs.Opening.{opening_postings}
use Rattle.mf_ledger.specs.Text.{opening_of}
use Rattle.mf_ledger.specs.declared.accrual.AccruedSums.{AccruedSums}
use Rattle.mf_ledger.specs.declared.books.LoanSums.{LoanSums}
use Rattle.mf_ledger.specs.declared.books.Posting.{Posting}
use Rattle.mf_model.specs.Institution.{Institution, Catalogue, Ledger}
use Rattle.mf_model.specs.declared.store.InstitutionStore.{Ghosts}
use Rattle.mf_ledger_play.specs.Told.{form_booked, state_in}
use Rattle.mf_ledger_play.specs.declared.form.BooksAsked.{BooksAsked}
use Rattle.mf_ledger_play.specs.declared.loans.LoanState.{LoanState}
use Rattle.mf_ledger_play.specs.declared.opening.OpeningPostings.{OpeningPostings}

-- the opening transactions of an institution on its business day, where that is a day of the span that is asked for
abbrev pub opening_text : BooksAsked → Institution → List ℕ
opening_text asked i = cond (nat_le asked.first i.catalogue.day && nat_le i.catalogue.day asked.last)
    (flat_map (form_booked asked.form asked.names (opening_of i.catalogue.day)) (openings asked.basis i)) []

-- the postings that move something
abbrev pub moving : List Posting → List Posting
moving postings = filter (λ (p : Posting). is_moved p.amount) postings

-- what the books read of loans at the end of a day
abbrev pub states_of : ℕ → Catalogue → List Ledger → List LoanState
states_of day k ls = map (λ l. state_in day k (Some l)) ls

-- the sums of those of a product
abbrev pub sums_with : ℕ → List LoanState → List LoanSums
sums_with product states =
    map (λ (s : LoanState). s.sums) (filter (λ (s : LoanState). s.product == product) states)

-- what accrual adds to them
abbrev pub accrued_with : ℕ → List LoanState → List AccruedSums
accrued_with product states =
    map (λ (s : LoanState). s.accrued) (filter (λ (s : LoanState). s.product == product) states)

module _ {S : Type 0} (store : Ghosts S) where
  -- the store stands for what it stood for, and this was read of its loans
  pub record ReadsStates (loans : Institution → List LoanState) (read : List LoanState) (old new : S) : Type 0 where
    pub premise : store.clean new → store.clean old
    pub same : store.clean new → (i : Institution) → store.stands old i → store.stands new i
    pub read_is : store.clean new → (i : Institution) → store.stands old i → read ≡ loans i

  -- the store stands for what it stood for, and this is what its books open with at the end of a day
  pub record ReadsOpening (day : ℕ) (opening : OpeningPostings) (old new : S) : Type 0 where
    pub premise : store.clean new → store.clean old
    pub same : store.clean new → (i : Institution) → store.stands old i → store.stands new i
    pub cash : store.clean new → (i : Institution) → store.stands old i
        → opening.cash.items ≡ moving (opening_postings i)
    pub added : store.clean new → (i : Institution) → store.stands old i
        → opening.added.items ≡ moving (adjusting_opening day i)

  -- the store stands for what it stood for, and the opening transactions that are asked for are written
  pub record OpensBooks (asked : BooksAsked) (was now : List ℕ) (old new : S) : Type 0 where
    pub premise : store.clean new → store.clean old
    pub same : store.clean new → (i : Institution) → store.stands old i → store.stands new i
    pub text : store.clean new → (i : Institution) → store.stands old i → now ≡ was ++ opening_text asked i
