-- What the books read of a loan of a store.
use Rattle.std.proofs.Common.{◌≡◌, ℕ, Option, Some, None, Ok, Err, refl, ap, ap₂, ◌∙◌}
use Rattle.std.specs.Prelude.{option_map, List, Bool}
use Rattle.mf_base.specs.declared.fault.Fault.{Fault}
use Rattle.mf_office.specs.declared.account.Account.{Account}
use Rattle.mf_office.specs.declared.caller.Caller.{Caller}
use Rattle.mf_account.specs.Change.{KeptAccount, account_by_replay}
use Rattle.mf_ledger.specs.Accrual.{accrued_in}
use Rattle.mf_ledger.specs.Books.{sums_in}
use Rattle.mf_ledger.specs.declared.accrual.AccruedSums.{AccruedSums}
use Rattle.mf_ledger.specs.declared.books.LoanSums.{LoanSums}
use Rattle.mf_model.specs.Accounts.{account_in, no_balances, no_sums}
use Rattle.mf_model.specs.Institution.{Institution, Catalogue, Ledger}
use Rattle.mf_model.specs.Sound.{IsSound, IsSoundCatalogue, IsSoundLoan, is_staff}
use Rattle.mf_model.specs.Store.{Reads, ledger_at, loan_with_account_at, rows_at, with_account}
use Rattle.mf_model.specs.declared.loan.Loan.{Loan}
use Rattle.mf_model.specs.declared.store.InstitutionStore.{Ghosts}
use Rattle.mf_model.proofs.Lasting.{loan_of}
use Rattle.mf_ledger_play.specs.Told.{state_at, state_in}
use Rattle.mf_ledger_play.specs.declared.loans.LoanState.{LoanState}

none≢some : {A : Type 0} (x : A) → None ≡ Some x → ⊥
none≢some x h = cc

some≢none : {A : Type 0} (x : A) → Some x ≡ None → ⊥
some≢none x h = cc

some_same : {A : Type 0} (x y : A) → Some x ≡ Some y → x ≡ y
some_same x y h = cc

-- a state of a product and sums
abbrev made : ℕ → LoanSums → AccruedSums → LoanState
made product sums accrued = record { product = product; sums = sums; accrued = accrued }

-- nothing is accrued
abbrev nothing : AccruedSums
nothing = record { due = no_sums; waived = no_sums; written_off = no_sums }

-- of a loan that isn't there
pub state_none : (day : ℕ) (loan : Account) (i : Institution) → None ≡ loan_with_account_at loan i
    → made 0 (record { lent = 0; repaid = 0; balances = no_balances }) nothing ≡ state_at day loan i
state_none day loan i is = go (ledger_at loan i) is
  where
    go : (o : Option Ledger) → None ≡ option_map (with_account i.catalogue) o
        → made 0 (record { lent = 0; repaid = 0; balances = no_balances }) nothing ≡ state_in day i.catalogue o
    go None h = refl
    go (Some l) h = absurd (none≢some (with_account i.catalogue l) h)

-- of one that is
pub state_some : (day : ℕ) (loan : Account) (i : Institution) (x : Loan) (account : Option KeptAccount)
    (sums : LoanSums) (accrued : AccruedSums) → IsSound i → Some (x, account) ≡ loan_with_account_at loan i
    → ((k : Catalogue) (staffed : Caller → Bool)
    (clients : List (List ℕ)) (l : Ledger) → IsSoundCatalogue k → IsSoundLoan k staffed clients l → x ≡ l.loan
    → account ≡ option_map account_by_replay (account_in k l) → sums ≡ sums_in k l)
    → ((k : Catalogue) (l : Ledger) → account ≡ option_map account_by_replay (account_in k l)
    → accrued ≡ accrued_in day k l) → made x.product sums accrued ≡ state_at day loan i
state_some day loan i x account sums accrued sound is read adds = go (ledger_at loan i) refl is
  where
    go : (o : Option Ledger) → ledger_at loan i ≡ o → Some (x, account) ≡ option_map (with_account i.catalogue) o
        → made x.product sums accrued ≡ state_in day i.catalogue o
    go None e h = absurd (some≢none (x, account) h)
    go (Some l) e h =
        let both : (x, account) ≡ with_account i.catalogue l = some_same (x, account) (with_account i.catalogue l) h in
        let one : x ≡ l.loan = ap (λ (p : Loan × Option KeptAccount). p.0) both in
        let two : account ≡ option_map account_by_replay (account_in i.catalogue l) =
        ap (λ (p : Loan × Option KeptAccount). p.1) both in
        let are = read i.catalogue (is_staff i.offices) (rows_at loan.office i).clients l sound.catalogue
        (loan_of i loan l sound e) one two in
        ap₂ (λ (y : Loan) s. made y.product s accrued) one are
        ∙ ap (made l.loan.product (sums_in i.catalogue l)) (adds i.catalogue l two)

module _ {S : Type 0} (store : Ghosts S) {R Q : Type 0} (value : Institution → R) (other : Institution → Q)
    (old new : S) where
  -- what follows from what was read
  pub read_so : (r : R) (q : Q) → ((i : Institution) → store.stands old i → r ≡ value i → q ≡ other i)
      → Reads store.stands store.clean store.leaves value old new (Ok r)
      → Reads store.stands store.clean store.leaves other old new (Ok q)
  read_so r q so reads = record {
    premise = reads.premise;
    same = reads.same;
    value_is = λ k i s. so i s (reads.value_is k i s);
    gives_up = tt;
    stop = reads.stop;
  }

  -- where nothing was read
  pub not_read : (fault : Fault) → Reads store.stands store.clean store.leaves value old new (Err fault)
      → Reads store.stands store.clean store.leaves other old new (Err fault)
  not_read fault reads = record {
    premise = reads.premise;
    same = reads.same;
    value_is = λ k i s. tt;
    gives_up = reads.gives_up;
    stop = reads.stop;
  }
