-- The accounts of loans after a change: those that stay, and the one that a commit hands on.
use Rattle.std.proofs.Common.{◌≡◌, ◌≢◌, ◌-◌, ◌==◌, ℕ, zero, suc, true, false, cond, List, [], ◌∷◌, slice_get}
use Rattle.std.proofs.Common.{Option, None, Some, refl, sym, ap, ◌∙◌, arith}
use Rattle.std.specs.Option.{is_some, option_map}
use Rattle.std.proofs.lemmas.Bool.Decides.{nat_tests}
use Rattle.mf_office.specs.declared.account.Account.{Account}
use Rattle.mf_account.specs.declared.entry.Entry.{Entry}
use Rattle.mf_account.specs.Change.{KeptAccount, IsReplayed, account_by_replay, no_change}
use Rattle.mf_model.specs.Accounts.{account_in, running_from, terms_in}
use Rattle.mf_model.specs.Institution.{Institution, Ledger, Office, Rows, item_numbered, with_numbered, office_at}
use Rattle.mf_model.specs.Loans.{loan_entered, with_entries}
use Rattle.mf_model.specs.Store.{IsHandedOn, account_at, account_of, after_commit, ledger_at, rows_of, rows_at}
use Rattle.mf_model.specs.Tree.{is_there}
use Rattle.mf_model.specs.declared.commit.Commit.TheVariants.{AddEntry}
use Rattle.mf_model.proofs.AccountLemmas.{IsRunning, account_is}
use Rattle.mf_store_commits.proofs.AccountCommitLemmas.{account_with, TermsStand}
use Rattle.mf_store_commits.proofs.EnteredLemmas.{IsAccountOf, account_of_loan}
use Rattle.mf_store_values.proofs.FlatLemmas.{numbered-suc}
use Rattle.mf_store_values.proofs.SoundLemmas.{own_rows}
use Rattle.mf_store.proofs.CatalogueLemmas.{mapped, none_numbered, some_is}

-- ---- things by number, where the one of a number is changed

changed_slice : {A : Type 0} (change : A → A) (n k : ℕ) (xs : List A) (x : A) → slice_get xs k ≡ Some x
    → slice_get (with_numbered n change xs) k ≡ Some (cond (suc k == n) (change x) x)
changed_slice change n k [] x at = absurd (let never : None ≡ Some x = at in cc)
changed_slice change n zero (y ∷ ys) x at = let same = some_is at in grind (arith, nat_tests, same)
changed_slice change n (suc k) (y ∷ ys) x at = grind (arith, nat_tests, changed_slice change (n - 1) k ys x at)

changed_numbered : {A : Type 0} (n m : ℕ) (change : A → A) (xs : List A) (x : A) → item_numbered xs m ≡ Some x
    → item_numbered (with_numbered n change xs) m ≡ Some (cond (m == n) (change x) x)
changed_numbered n zero change xs x at = absurd (let never : None ≡ Some x = at in cc)
changed_numbered n (suc k) change xs x at = numbered-suc (with_numbered n change xs) k
    ∙ changed_slice change n k xs x (sym (numbered-suc xs k) ∙ at)

-- the thing of another number stays
pub others_numbered : {A : Type 0} (n m : ℕ) (change : A → A) (xs : List A) (x : A) → item_numbered xs m ≡ Some x
    → m ≢ n → item_numbered (with_numbered n change xs) m ≡ Some x
others_numbered n m change xs x at ne = let other : (m == n) ≡ false = grind (arith, nat_tests) in
    changed_numbered n m change xs x at ∙ ap (λ b. Some (cond b (change x) x)) other

-- ---- accounts that stay

-- a loan with the same entries has the account that it had, where products give the terms that they gave
pub account_kept : (a : Account) (i j : Institution) → TermsStand i.catalogue j.catalogue
    → ((l : Ledger) → ledger_at a i ≡ Some l → ledger_at a j ≡ Some l) → (x : KeptAccount) → account_at a i ≡ Some x
    → account_at a j ≡ Some x
account_kept a i j stand keeps x h = go (ledger_at a i) refl h
  where
    go : (o : Option Ledger) → ledger_at a i ≡ o → option_map account_by_replay (account_of i.catalogue o) ≡ Some x
        → account_at a j ≡ Some x
    go None e h = absurd (let never : None ≡ Some x = h in cc)
    go (Some l) e h =
        let of = mapped account_by_replay (account_in i.catalogue l) x h in
        let is : IsRunning i.catalogue l of.0 = account_is i.catalogue l of.0 of.1 in
        ap (λ o. option_map account_by_replay (account_of j.catalogue o)) (keeps l e)
        ∙ ap (option_map account_by_replay)
        (ap (λ d. running_from l.loan l.entries d (terms_in j.catalogue l.loan.product)) is.day_is
        ∙ ap (running_from l.loan l.entries (Some is.day)) (stand l.loan.product is.terms is.terms_is)
        ∙ ap Some is.account_is) ∙ ap Some (sym of.2)

-- ---- the account that a commit hands on

office_there : (loan : Account) (l : Ledger) (i : Institution) → ledger_at loan i ≡ Some l
    → is_there i.offices loan.office ≡ true
office_there loan l i at = go (office_at loan.office i.offices) at
  where
    go : (o : Option Office) → item_numbered (rows_of o).loans loan.number ≡ Some l → is_some o ≡ true
    go None h = absurd (let never : None ≡ Some l = sym (none_numbered loan.number) ∙ h in cc)
    go (Some f) h = refl

ledger_entered : (loan : Account) (account : KeptAccount) (l : Ledger) (i : Institution)
    → ledger_at loan i ≡ Some l → ledger_at loan (after_commit (AddEntry loan account) i)
    ≡ Some (with_entries account.loan.entries l)
ledger_entered loan account l i at =
    let change = with_entries account.loan.entries in
    ap (λ (rows : Rows). item_numbered rows.loans loan.number) (own_rows loan.office (loan_entered loan.number
    account.loan.entries (rows_at loan.office i)) i.offices (office_there loan l i at))
    ∙ changed_numbered loan.number loan.number change (rows_at loan.office i).loans l at
    ∙ ap (λ b. Some (cond b (change l) l)) (let own : (loan.number == loan.number) ≡ true = grind
    (arith, nat_tests) in own)

-- what is kept of an account that is a replay's
replayed : (account : KeptAccount) → IsReplayed account → account_by_replay account.loan
    ≡ record account { change = no_change }
replayed account is t = record {
  loan = account.loan;
  state = (sym is.state) t;
  settled = (sym is.settled) t;
  change = no_change;
}

-- after the commit the account is the loan's, with no change told
pub account_handed : (loan : Account) (becomes : List Entry → List Entry → Type 0) (account : KeptAccount)
    (i : Institution)
    → IsHandedOn loan becomes account i → account_at loan (after_commit (AddEntry loan account) i)
    ≡ Some (record account { change = no_change })
account_handed loan becomes account i handed =
    let of : IsAccountOf loan handed.before i = account_of_loan loan handed.before i handed.there in
    ap (λ o. option_map account_by_replay (account_of i.catalogue o)) (ledger_entered loan account of.ledger i of.there)
    ∙ ap (option_map account_by_replay) (account_with i.catalogue of.ledger handed.before account.loan.entries
    of.account ∙ ap Some (sym handed.others))
    ∙ ap Some (replayed account handed.kept)
