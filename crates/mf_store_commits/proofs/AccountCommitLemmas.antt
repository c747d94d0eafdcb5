-- The rows of a loan's account, its instalments and its shares: as the catalogue grows, where a loan has no account,
-- and what the commits that change an account make of them.
use Rattle.std.proofs.Common.{◌≡◌, ◌++◌, ◌≤◌, ℕ, List, [], map, length, Option, None, Some, refl, sym, ap, ap₂, ◌∙◌}
use Rattle.std.proofs.Common.{Greater, Less, Ordering, nat_cmp, ◌+◌, Bool, ◌∷◌}
use Rattle.std.specs.List.{AllByRecursion}
use Rattle.std.specs.Ordering.{ordering_then}
use Rattle.mf_office.specs.declared.caller.Caller.{Caller}
use Rattle.mf_catalog.specs.declared.terms.Terms.{Terms}
use Rattle.mf_alloc.specs.Sums.{Instalment}
use Rattle.mf_account.specs.Change.{KeptAccount, IsChange, IsReplayed, settled_in}
use Rattle.mf_account.specs.Loan.{DisbursedLoan, IsSoundDisbursed, state_of_loan, settled_of_loan}
use Rattle.mf_account.specs.declared.entry.Entry.{Entry}
use Rattle.mf_account.specs.declared.settled.SettledPart.{SettledPart}
use Rattle.mf_model.proofs.AccountLemmas.{IsRunning, account_is, account_there}
use Rattle.mf_model.specs.Accounts.{account_in, of_account, running_from, terms_in}
use Rattle.mf_model.specs.Institution.{Catalogue, Ledger, Office, Rows, item_numbered, office_at, with_numbered}
use Rattle.mf_model.specs.Institution.{with_rows}
use Rattle.mf_model.specs.Loans.{with_stage, with_entries}
use Rattle.mf_model.specs.Sound.{IsSoundLoan, IsSoundOffice}
use Rattle.mf_model.specs.Stages.{disbursed_on}
use Rattle.mf_model.specs.Store.{rows_of}
use Rattle.mf_model.specs.Tree.{Ascending}
use Rattle.mf_model.specs.declared.loan.Stage.{Stage}
use Rattle.mf_store_sql.specs.Writes.{after_all}
use Rattle.mf_store_schema.specs.Rows.{Lists, by_instalment}
use Rattle.mf_store_schema.specs.Writes.{after_write}
use Rattle.mf_store_values.proofs.BlockLemmas.{AroundAt, around_same}
use Rattle.mf_store_values.proofs.LoanRowLemmas.{rows_around}
use Rattle.mf_store_values.proofs.PutLemmas.{put_all}
use Rattle.mf_store_values.specs.Flat.{instalment_in, share_in, parts_from, instalments_kept, shares_kept, kept_of}
use Rattle.mf_store_values.specs.Flat.{instalment_rows, share_rows, rows_by_loan, rows_of_loans}
use Rattle.mf_store_commits.proofs.ChangedRowLemmas.{instalments_changed, shares_changed, after_both}
use Rattle.mf_store_commits.proofs.ChangedRowLemmas.{instalments_written, shares_written, schedule_written}
use Rattle.mf_store_commits.proofs.StepLemmas.{all_steps, loan_place, instalment_step, fresh_put_around, share_place}
use Rattle.mf_store_commits.proofs.StepLemmas.{share_step}
use Rattle.mf_store_commits.specs.ChangeWrites.{change_writes, instalments_put, schedule_put}

-- ---- as the catalogue grows

-- products give the terms that they gave
abbrev pub TermsStand : Catalogue → Catalogue → Type 0
TermsStand k h = (n : ℕ) (t : Terms) → terms_in k n ≡ Some t → terms_in h n ≡ Some t

-- a sound loan has the account that it had
pub same_account : (k h : Catalogue) (staffed : Caller → Bool) (clients : List (List ℕ)) (l : Ledger) → TermsStand k h
    → IsSoundLoan k staffed clients l → account_in k l ≡ account_in h l
same_account k h staffed clients l stand sound = go (disbursed_on l.loan.stage) refl
  where
    go : (d : Option ℕ) → disbursed_on l.loan.stage ≡ d → account_in k l ≡ account_in h l
    go None e = rw e
    go (Some day) e =
        let there = account_there k l day e sound.product in
        let is : IsRunning k l there.0 = account_is k l there.0 there.1 in
        there.1 ∙ sym (rw (is.day_is, stand l.loan.product is.terms is.terms_is) (ap Some is.account_is))

module _ {A R : Type 0} (make : ℕ → ℕ → A → R) (read : DisbursedLoan → List A) where
  loans_stand : (k h : Catalogue) (staffed : Caller → Bool) (clients : List (List ℕ)) (x n : ℕ) (ls : List Ledger)
      → TermsStand k h → AllByRecursion (IsSoundLoan k staffed clients) ls → rows_of_loans make (kept_of read k) x n ls
      ≡ rows_of_loans make (kept_of read h) x n ls
  loans_stand k h staffed clients x n [] stand sound = refl
  loans_stand k h staffed clients x n (l ∷ ls) stand sound =
      let more = loans_stand k h staffed clients x (n + 1) ls stand sound.1 in
      rw (same_account k h staffed clients l stand sound.0, more)

  -- the rows that are read off the accounts of sound loans stand
  pub rows_stand : (k h : Catalogue) (staffed : Caller → Bool) (fs : List Office) → TermsStand k h
      → AllByRecursion (IsSoundOffice k staffed) fs → rows_by_loan make (kept_of read k) fs
      ≡ rows_by_loan make (kept_of read h) fs
  rows_stand k h staffed [] stand sound = refl
  rows_stand k h staffed (f ∷ fs) stand sound = ap₂ ◌++◌ (loans_stand k h staffed f.rows.clients f.number 1 f.rows.loans
      stand sound.0.rows.loans) (rows_stand k h staffed fs stand sound.1)

-- ---- where a loan has no account

-- before it is disbursed
pub none_before : {A : Type 0} (read : DisbursedLoan → List A) (k : Catalogue) (l : Ledger) → disbursed_on l.loan.stage
    ≡ None
    → kept_of read k l ≡ []
none_before read k l e = ap (λ d. of_account [] read (running_from l.loan l.entries d (terms_in k l.loan.product))) e

-- ---- entries

-- with other entries, a loan's account is the same but for these
pub account_with : (k : Catalogue) (l : Ledger) (before : DisbursedLoan) (es : List Entry) → account_in k l
    ≡ Some before
    → account_in k (with_entries es l) ≡ Some (record before { entries = es })
account_with k l before es there =
    let is : IsRunning k l before = account_is k l before there in
    ap₂ (λ d t. running_from l.loan es d t) is.day_is is.terms_is
    ∙ ap (λ (r : DisbursedLoan). Some (record r { entries = es })) is.account_is

-- a loan's account has other entries, and what that changed is told
pub record IsChanged (k : Catalogue) (l : Ledger) (account : KeptAccount) : Type 0 where
  pub before : DisbursedLoan
  pub was : account_in k l ≡ Some before
  pub now : account_in k (with_entries account.loan.entries l) ≡ Some account.loan
  pub sound : IsSoundDisbursed before
  pub then : IsSoundDisbursed account.loan
  pub same : before.periods ≡ account.loan.periods
  pub more : length before.entries ≤ length account.loan.entries
  pub kept : IsReplayed account
  pub change : IsChange before account.loan account.change

module _ (k : Catalogue) (x n : ℕ) (l : Ledger) (account : KeptAccount) (changed : IsChanged k l account) (new : Rows)
    (fs : List Office) (up : Ascending fs) (at : item_numbered (rows_of (office_at x fs)).loans n ≡ Some l)
    (is : new.loans ≡ with_numbered n (with_entries account.loan.entries) (rows_of (office_at x fs)).loans) where
  abbrev rows : List Instalment
  rows = (state_of_loan account.loan).rows

  abbrev settled : ℕ → List SettledPart
  settled s = settled_in s (settled_of_loan account.loan)

  -- other rows stand round those that are read off its account
  read_around : {A R : Type 0} (make : ℕ → ℕ → A → R) (read : DisbursedLoan → List A) (place : ℕ → ℕ → R → Ordering)
      → ((x n y m : ℕ) (a : A) → place x n (make y m a) ≡ ordering_then (nat_cmp x y) (nat_cmp n m))
      → AroundAt (place x n) (rows_by_loan make (kept_of read k) fs) (rows_by_loan make (kept_of read k)
      (with_rows x new fs)) (map (make x n) (read changed.before)) (map (make x n) (read account.loan))
  read_around make read place keyed = rw (changed.was, changed.now) at
      (rows_around make (kept_of read k) place keyed x n (with_entries account.loan.entries) l new fs up at is)

  instalments_brought : all_steps (instalment_step x n rows) account.change.rows (instalment_rows k fs)
      ≡ instalment_rows k (with_rows x new fs)
  instalments_brought =
      instalments_changed x n changed.before account.loan account.change changed.sound changed.then changed.same
      changed.change (read_around instalment_in instalments_kept loan_place (λ x n y m a. refl))

  shares_brought : all_steps (share_step x n settled) account.change.seqs (share_rows k fs)
      ≡ share_rows k (with_rows x new fs)
  shares_brought = shares_changed x n changed.before account.loan account.change changed.sound changed.more
      changed.change (read_around share_in shares_kept share_place (λ x n y m a. refl))

  -- the writes of the change bring all rows to what the replay has
  pub change_written : (lists : Lists) → after_all after_write (change_writes x n account)
      (Some (record lists { instalments = instalment_rows k fs; shares = share_rows k fs }))
      ≡ Some (record lists {
        instalments = instalment_rows k (with_rows x new fs);
        shares = share_rows k (with_rows x new fs);
      })
  change_written lists =
      rw (changed.kept.state, changed.kept.settled, after_both (instalments_put x n rows account.change.rows))
      (rw (instalments_written x n rows account.change.rows)
      (shares_written x n (settled_of_loan account.loan) account.change.seqs _
      ∙ (λ t. Some (record lists { instalments = instalments_brought t; shares = shares_brought t }))))

-- ---- stages

module _ (k : Catalogue) (x n : ℕ) (l : Ledger) (stage : Stage) (new : Rows) (fs : List Office) (up : Ascending fs)
    (at : item_numbered (rows_of (office_at x fs)).loans n ≡ Some l)
    (is : new.loans ≡ with_numbered n (with_stage stage) (rows_of (office_at x fs)).loans)
    (before : disbursed_on l.loan.stage ≡ None) (none : l.entries ≡ []) where
  abbrev then : Ledger
  then = with_stage stage l

  schedule_brought : put_all by_instalment (map (instalment_in x n) (kept_of instalments_kept k then))
      (instalment_rows k fs) ≡ instalment_rows k (with_rows x new fs)
  schedule_brought = fresh (account_in k then) (rw (none_before instalments_kept k l before) at
      (rows_around instalment_in (kept_of instalments_kept k) loan_place (λ x n y m a. refl) x n
      (with_stage stage) l new fs up at is))
    where
      fresh : (o : Option DisbursedLoan) → AroundAt (loan_place x n) (instalment_rows k fs)
          (instalment_rows k (with_rows x new fs)) [] (map (instalment_in x n) (of_account [] instalments_kept o))
          → put_all by_instalment (map (instalment_in x n) (of_account [] instalments_kept o)) (instalment_rows k fs)
          ≡ instalment_rows k (with_rows x new fs)
      fresh None w = w.old_is ∙ sym w.new_is
      fresh (Some a) w = fresh_put_around x n (state_of_loan a).rows w

  -- an account without entries has no shares
  unshared : (o : Option DisbursedLoan) → account_in k then ≡ o → of_account [] shares_kept o ≡ []
  unshared None e = refl
  unshared (Some a) e =
      let entries : a.entries ≡ [] = sym (ap (λ (r : DisbursedLoan). r.entries) (account_is k then a e).account_is) ∙
      none in
      ap (λ (es : List Entry). parts_from (λ s. settled_in s (settled_of_loan a)) 1 (length es)) entries

  pub staged_shares : share_rows k fs ≡ share_rows k (with_rows x new fs)
  staged_shares = around_same (λ s. share_place x n s ≡ Greater) (λ s. share_place x n s ≡ Less)
      (rows_around share_in (kept_of shares_kept k) share_place (λ x n y m a. refl) x n (with_stage stage) l new fs up
      at is)
      (ap (map (share_in x n)) (none_before shares_kept k l before ∙ sym (unshared (account_in k then) refl)))

  -- the rows of the schedule bring all rows to what the replay has
  pub schedule_there : (lists : Lists) → after_all after_write (schedule_put x n (kept_of instalments_kept k then))
      (Some (record lists { instalments = instalment_rows k fs }))
      ≡ Some (record lists { instalments = instalment_rows k (with_rows x new fs) })
  schedule_there lists =
      schedule_written x n (kept_of instalments_kept k then) (record lists { instalments = instalment_rows k fs })
      ∙ (λ t. Some (record lists { instalments = schedule_brought t }))
