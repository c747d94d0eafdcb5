-- What the calls of a store say, in the words of the institution that it stands for.
use Rattle.std.specs.Prelude.{◌≡◌, ℕ, ◌-◌, Bool, true, cond, List, [], ◌∷◌, ◌++◌, length, option_map, Option, Some}
use Rattle.std.specs.Prelude.{None, Result, IfOk, OnOk, OnErr, IfErr}
use Rattle.mf_base.specs.declared.fault.Fault.{Fault}
use Rattle.mf_base.specs.declared.fault.Fault.TheVariants.{F20}
use Rattle.mf_office.specs.declared.staff.Role.{Role}
use Rattle.mf_office.specs.declared.caller.Caller.{Caller}
use Rattle.mf_office.specs.declared.account.Account.{Account}
use Rattle.mf_model.specs.declared.commit.Commit.{Commit}
use Rattle.mf_model.specs.declared.commit.Commit.TheVariants.{AddOffice, AddStaff, AddClient, SetDay, AddCharge}
use Rattle.mf_model.specs.declared.commit.Commit.TheVariants.{AddProduct, RetireProduct, AddLoan, SetStage, AddEntry}
use Rattle.mf_model.specs.declared.commit.Commit.TheVariants.{ReverseEntry}
use Rattle.mf_model.specs.declared.loan.Loan.{Loan}
use Rattle.mf_model.specs.declared.loan.LoanLine.{LoanLine}
use Rattle.mf_model.specs.declared.loan.Statement.{Statement}
use Rattle.mf_statement.specs.declared.lines.InstalmentLine.{InstalmentLine}
use Rattle.mf_model.specs.declared.store.CatalogueCounts.{CatalogueCounts}
use Rattle.mf_model.specs.declared.store.Counts.{Counts}
use Rattle.mf_account.specs.declared.entry.Entry.{Entry}
use Rattle.mf_account.specs.Change.{KeptAccount, IsChange, IsReplayed, account_by_replay}
use Rattle.mf_account.specs.Loan.{DisbursedLoan}
use Rattle.mf_account.specs.Refusals.{reversal_refused}
use Rattle.mf_account.specs.Standing.{with_mark}
use Rattle.mf_model.specs.Institution.{Institution, Catalogue, Office, Rows, Staff, Ledger, Change, Catalogue_becomes}
use Rattle.mf_model.specs.Institution.{Rows_become, Office_added, Noted, after, after_noted, office_at, no_rows}
use Rattle.mf_model.specs.Institution.{item_numbered}
use Rattle.mf_model.specs.Catalogue.{day_set, charge_added, product_added, product_retired}
use Rattle.mf_model.specs.Offices.{staff_added, client_added}
use Rattle.mf_model.specs.declared.loan.ReceiptUse.{ReceiptUse}
use Rattle.mf_model.specs.Accounts.{account_in, statement, instalments_in}
use Rattle.mf_model.specs.Receipts.{Use, uses_from, first_use}
use Rattle.mf_model.specs.Loans.{loan_added, loan_staged, loan_entered, lines_above}
use Rattle.mf_model.specs.Desk.{staff_at, outcome, change_in}
use Rattle.mf_model.specs.Run.{Line, next, noted_of}
use Rattle.mf_model.specs.Sound.{IsSound}

-- the rows of an office, none where it is not there
abbrev pub rows_of : Option Office → Rows
rows_of None = no_rows
rows_of (Some f) = f.rows

-- the rows of office x; none where it isn't there
abbrev pub rows_at : ℕ → Institution → Rows
rows_at x i = rows_of (office_at x i.offices)

-- the role of a caller who is known
abbrev pub role_of : Caller → Institution → Option Role
role_of c i = option_map (λ (s : Staff). s.role) (staff_at i c)

-- how many staff, clients and loans an office has
abbrev pub counts_at : ℕ → Institution → Counts
counts_at x i = record {
  staff = length (rows_at x i).staff;
  clients = length (rows_at x i).clients;
  loans = length (rows_at x i).loans;
}

-- how many charges and products there are
abbrev pub catalogue_counts : Institution → CatalogueCounts
catalogue_counts i = record { charges = length i.catalogue.charges; products = length i.catalogue.products }

-- the name of a client of an office
abbrev pub client_at : Account → Institution → Option (List ℕ)
client_at client i = item_numbered (rows_at client.office i).clients client.number

-- a loan of an office, with its entries
abbrev pub ledger_at : Account → Institution → Option Ledger
ledger_at loan i = item_numbered (rows_at loan.office i).loans loan.number

-- a loan of an office
abbrev pub loan_at : Account → Institution → Option Loan
loan_at loan i = option_map (λ (l : Ledger). l.loan) (ledger_at loan i)

-- the account of a loan that is there
abbrev pub account_of : Catalogue → Option Ledger → Option DisbursedLoan
account_of k None = None
account_of k (Some l) = account_in k l

-- the account of a loan; none where it is not there or not disbursed
abbrev pub account_at : Account → Institution → Option KeptAccount
account_at loan i = option_map account_by_replay (account_of i.catalogue (ledger_at loan i))

-- a loan with its account, where it is disbursed
abbrev pub with_account : Catalogue → Ledger → Loan × Option KeptAccount
with_account k l = (l.loan, option_map account_by_replay (account_in k l))

-- a loan of an office, with its account where it is disbursed
abbrev pub loan_with_account_at : Account → Institution → Option (Loan × Option KeptAccount)
loan_with_account_at loan i = option_map (with_account i.catalogue) (ledger_at loan i)

-- a loan of an office, as it is shown
abbrev pub statement_at : Account → Institution → Option Statement
statement_at loan i = option_map (statement i.catalogue) (ledger_at loan i)

-- the instalments of a loan of an office; none before it is disbursed
abbrev pub instalments_at : Account → Institution → Option (List InstalmentLine)
instalments_at loan i = option_map (instalments_in i.catalogue) (ledger_at loan i)

-- where a receipt was used in an office
abbrev pub use_at : ℕ → List ℕ → Institution → Option Use
use_at x receipt i = first_use receipt (uses_from 1 (rows_at x i).loans)

-- the entry that carries a receipt of an office
abbrev pub receipt_at : ℕ → List ℕ → Institution → Option ReceiptUse
receipt_at x receipt i = option_map (λ (u : Use). u.by) (use_at x receipt i)

-- the first 100 loans of office x with a number above n
abbrev pub loans_at : ℕ → ℕ → Institution → List LoanLine
loans_at x n i = lines_above i.catalogue x n (rows_at x i).loans

-- the change that a commit is
abbrev pub change_of : Commit → Institution → Change
change_of (AddOffice number parent name) i = Office_added number parent name
change_of (AddStaff office name role) i = Rows_become office (staff_added name role (rows_at office i))
change_of (AddClient office name) i = Rows_become office (client_added name (rows_at office i))
change_of (SetDay day) i = Catalogue_becomes (day_set day i.catalogue)
change_of (AddCharge name kind calc value) i =
    Catalogue_becomes (charge_added (record { name = name; kind = kind; calc = calc; value = value }) i.catalogue)
change_of (AddProduct members) i = Catalogue_becomes (product_added members i.catalogue)
change_of (RetireProduct product) i = Catalogue_becomes (product_retired product i.catalogue)
change_of (AddLoan office loan) i = Rows_become office (loan_added loan (rows_at office i))
change_of (SetStage loan stage) i = Rows_become loan.office (loan_staged loan.number stage (rows_at loan.office i))
change_of (AddEntry loan account) i =
    Rows_become loan.office (loan_entered loan.number account.loan.entries (rows_at loan.office i))
change_of (ReverseEntry loan seq account) i =
    Rows_become loan.office (loan_entered loan.number account.loan.entries (rows_at loan.office i))

-- the institution after a commit, but for what is noted of it
abbrev pub after_commit : Commit → Institution → Institution
after_commit commit i = after (change_of commit i) i

-- the institution after a commit that notes this of its request
abbrev pub after_noted_commit : Commit → Noted → Institution → Institution
after_noted_commit commit noted i = after_noted noted (change_of commit i) i

-- entries with one more
abbrev pub OneMore : List Entry → List Entry → Type 0
OneMore entries after = (entry : Entry) × (after ≡ entries ++ entry ∷ [])

-- entries of which one, which may be, is reversed
pub record OneReversed (seq : ℕ) (entries after : List Entry) : Type 0 where
  pub allowed : reversal_refused entries seq ≡ None
  pub marked : after ≡ with_mark entries (seq - 1) true

-- An account that a commit hands on is that of the loan before it but for its entries, which become these; what it
-- keeps is what a replay gives, and it tells what changed.
pub record IsHandedOn (loan : Account) (becomes : List Entry → List Entry → Type 0) (account : KeptAccount)
    (i : Institution) : Type 0 where
  pub before : DisbursedLoan
  pub there : account_of i.catalogue (ledger_at loan i) ≡ Some before
  pub entries : becomes before.entries account.loan.entries
  pub others : account.loan ≡ record before { entries = account.loan.entries }
  pub kept : IsReplayed account
  pub change : IsChange before account.loan account.change

-- what is known of the account that a commit hands on
abbrev pub IsHanded : Commit → Institution → Type 0
IsHanded (AddEntry loan account) i = IsHandedOn loan OneMore account i
IsHanded (ReverseEntry loan seq account) i = IsHandedOn loan (OneReversed seq) account i
IsHanded _ i = Unit {0}

-- a commit that may be made: the institution is sound after it, and so is what it hands on
pub record IsAdmitted (commit : Commit) (i : Institution) : Type 0 where
  pub sound : IsSound (after_commit commit i)
  pub handed : IsHanded commit i

-- What a stop after a call may leave, where before it left one of these: a change that was made; and where the call
-- gave up, its change or what was there.
abbrev pub left_by : Noted → Option Change → Bool → Institution → List Institution → List Institution
left_by noted None given_up i is = is
left_by noted (Some change) given_up i is = after_noted noted change i ∷ cond given_up is []

-- the same after the lines of a run
abbrev pub left_after : List Line → Institution → List Institution → List Institution
left_after [] i is = is
left_after (l ∷ ls) i is =
    left_after ls (next l i) (left_by (noted_of l.call i) (change_in (outcome l.call i)) l.given_up i is)

-- A store, as its calls see it: which institution it stands for, whether the disk has so far returned what was written,
-- and whether a stop at this moment leaves one of these institutions, whole.
module _ {S : Type 0} (stands : S → Institution → Type 0) (clean : S → Type 0) (leaves : S → List Institution
    → Type 0) where
  -- a call that reads a value of the institution and changes nothing; it may give up
  pub record Reads {R : Type 0} (value : Institution → R) (old new : S) (result : Result R Fault) : Type 0 where
    pub premise : clean new → clean old
    pub same : clean new → (i : Institution) → stands old i → stands new i
    pub value_is : clean new → (i : Institution) → stands old i → IfOk result (λ r. r ≡ value i)
    pub gives_up : IfErr result (λ fault. fault ≡ F20)
    pub stop : clean new → (is : List Institution) → leaves old is → leaves new is

  -- A call that makes this of each institution that admits it, whole or, giving up, not at all. Once it is made a stop
  -- leaves it; where the call gave up a stop may leave it or not.
  pub record Makes (admits : Institution → Type 0) (becomes : Institution → Institution) (old new : S)
      (result : Result (Unit {0}) Fault) : Type 0 where
    pub premise : clean new → clean old
    pub made : clean new → (i : Institution) → stands old i → admits i → OnOk result (stands new (becomes i))
    pub kept : clean new → (i : Institution) → stands old i → admits i → OnOk result (leaves new (becomes i ∷ []))
    pub same : clean new → (i : Institution) → stands old i → OnErr result (stands new i)
    pub gives_up : IfErr result (λ fault. fault ≡ F20)
    pub stop : clean new → (i : Institution) (is : List Institution) → stands old i → admits i
        → leaves old is → leaves new (becomes i ∷ is)

  -- a call that makes a commit which may be made, and notes this of its request
  abbrev pub Commits : Commit → Noted → S → S → Result (Unit {0}) Fault → Type 0
  Commits commit noted = Makes (IsAdmitted commit) (after_noted_commit commit noted)

  -- the same where nothing is noted
  abbrev pub CommitsUnnoted : Commit → S → S → Result (Unit {0}) Fault → Type 0
  CommitsUnnoted commit = Makes (IsAdmitted commit) (after_commit commit)
