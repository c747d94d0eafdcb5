-- One loan: what is read off its account, and what its entries come to.
use Rattle.std.proofs.Common.{◌≡◌, ◌+◌, ◌<◌, ◌∙◌, ◌==◌, ℕ, Bool, true, false, cond, not, List, [], ◌∷◌, length, get_or}
use Rattle.std.proofs.Common.{take, Option, Some, None, refl, sym, ap}
use Rattle.std.specs.Prelude.{sum, sum_by, filter, slice_index}
use Rattle.std.specs.Option.{option_map}
use Rattle.std.proofs.lemmas.List.Filters.{length-filter_more}
use Rattle.std.proofs.lemmas.List.Sums.{sum_by_more}
use Rattle.mf_account.specs.declared.balances.Balances.{Balances}
use Rattle.mf_account.specs.declared.entry.Entry.{Entry}
use Rattle.mf_account.specs.Account.{status_of}
use Rattle.mf_account.specs.Balance.{balances_by, balances_of, sum_repaid}
use Rattle.mf_account.specs.Change.{KeptAccount, account_by_replay}
use Rattle.mf_account.specs.Loan.{DisbursedLoan, fee_of_loan, status_of_loan}
use Rattle.mf_account.proofs.StatusLemmas.{repaid_by}
use Rattle.mf_model.specs.Accounts.{account_in, of_account, status_in, balances_in, no_balances}
use Rattle.mf_model.specs.Institution.{Catalogue, Ledger, product_in}
use Rattle.mf_model.specs.Sound.{lends}
use Rattle.mf_model.specs.Stages.{stage_number, disbursed_on}
use Rattle.mf_model.proofs.AccountLemmas.{account_is, account_there}
use Rattle.mf_store_values.specs.Ledgers.{AreEntriesIn, IsPlainLoan}
use Rattle.mf_store_audit.specs.declared.totals.LoanCounts.{LoanCounts}
use Rattle.mf_store_audit.specs.Sums.{loans_of_status, loan_counts, lent_on, sums_by_loan, sums_of_all}
use Rattle.mf_store_audit.proofs.AddedLemmas.{alone}

-- ---- its status

pub at_alone : (k : Catalogue) (l : Ledger) (own n : ℕ) → status_in k l ≡ own → ◌≡◌ {A = ℕ} (cond (own == n) 1 0)
    (loans_of_status k (l ∷ []) n)
at_alone k l own n e = one (own == n) ∙ (λ t. length (cond (sym e t == n) (l ∷ []) []))
  where
    one : (b : Bool) → ◌≡◌ {A = ℕ} (cond b 1 0) (length (cond b (l ∷ []) []))
    one true = refl
    one false = refl

-- ---- its account

pub record IsAccountOf (k : Catalogue) (l : Ledger) (account : KeptAccount) : Type 0 where
  pub running : DisbursedLoan
  pub there : account_in k l ≡ Some running
  pub kept : account ≡ account_by_replay running
  pub entries : running.entries ≡ l.entries
  pub principal : running.principal ≡ l.loan.principal

pub account_of : (k : Catalogue) (l : Ledger) (account : KeptAccount) → Some account ≡ option_map account_by_replay
    (account_in k l) → IsAccountOf k l account
account_of k l account h = go (account_in k l) refl h
  where
    go : (o : Option DisbursedLoan) → account_in k l ≡ o → Some account ≡ option_map account_by_replay o
        → IsAccountOf k l account
    go None e h = absurd (let never : Some account ≡ None = h in cc)
    go (Some a) e h =
        let whole : Some account ≡ Some (account_by_replay a) = h in
        let same : account ≡ account_by_replay a = cc in
        let of = account_is k l a e in
        record {
          running = a;
          there = e;
          kept = same;
          entries = ap (λ (r : DisbursedLoan). r.entries) (sym of.account_is);
          principal = ap (λ (r : DisbursedLoan). r.principal) (sym of.account_is);
        }

pub status_is : (k : Catalogue) (l : Ledger) (account : KeptAccount) → IsAccountOf k l account → status_in k l
    ≡ status_of account.loan.entries account.state
status_is k l account of = ap (of_account (stage_number l.loan.stage) status_of_loan) of.there
    ∙ (λ t. status_of (sym of.kept t).loan.entries (sym of.kept t).state)

pub balances_are : (k : Catalogue) (l : Ledger) (account : KeptAccount) → IsAccountOf k l account → balances_in k l
    ≡ balances_by (fee_of_loan account.loan) account.state
balances_are k l account of = ap (of_account no_balances balances_of) of.there
    ∙ (λ t. balances_by (fee_of_loan (sym of.kept t).loan) (sym of.kept t).state)

pub lent_is : (k : Catalogue) (l : Ledger) (account : KeptAccount) → IsAccountOf k l account
    → lent_on k l ≡ l.loan.principal
lent_is k l account of = ap (of_account {A = ℕ} 0 (λ (a : DisbursedLoan). a.principal)) of.there ∙ of.principal

pub entries_are : (k : Catalogue) (l : Ledger) (account : KeptAccount) → IsAccountOf k l account
    → l.entries ≡ account.loan.entries
entries_are k l account of = sym of.entries ∙ (λ t. (sym of.kept t).loan.entries)

-- ---- a loan that is not disbursed

pub not_there : (k : Catalogue) (l : Ledger) → None ≡ option_map account_by_replay (account_in k l) → account_in k l
    ≡ None
not_there k l h = go (account_in k l) h
  where
    go : (o : Option DisbursedLoan) → None ≡ option_map account_by_replay o → o ≡ None
    go None h = refl
    go (Some a) h = absurd (let never : None ≡ Some (account_by_replay a) = h in cc)

pub not_disbursed : (k : Catalogue) (l : Ledger) → lends (product_in k l.loan.product) l.loan.principal l.loan.periods
    ≡ true → account_in k l ≡ None → disbursed_on l.loan.stage ≡ None
not_disbursed k l lent none = go (disbursed_on l.loan.stage) refl
  where
    go : (o : Option ℕ) → disbursed_on l.loan.stage ≡ o → disbursed_on l.loan.stage ≡ None
    go None e = e
    go (Some day) e =
        let there = account_there k l day e lent in
        absurd (let never : Some there.0 ≡ None = sym there.1 ∙ none in cc)

pub no_entries : (k : Catalogue) (names : List (List ℕ)) (l : Ledger) → IsPlainLoan k names l → account_in k l ≡ None
    → l.entries ≡ []
no_entries k names l plain none =
    go (disbursed_on l.loan.stage) (not_disbursed k l plain.own.product none) plain.entries
  where
    go : (o : Option ℕ) → o ≡ None → AreEntriesIn k.day l.loan.periods o l.entries → l.entries ≡ []
    go None e are = are
    go (Some day) e are = absurd (let never : Some day ≡ None = e in cc)

pub stage_alone : (k : Catalogue) (l : Ledger) (counts : LoanCounts) → account_in k l ≡ None → l.entries ≡ []
    → counts ≡ loan_counts k (l ∷ []) → record (sums_of_all []) { loans = counts } ≡ sums_by_loan k 0 (l ∷ [])
stage_alone k l counts none empty is =
    let b = ap (of_account no_balances balances_of) none in
    λ t. record {
      clients = 0;
      loans = is t;
      entries = record {
        standing = alone (λ (m : Ledger). length (filter (λ (e : Entry). not e.reversed) m.entries)) l 0
            (ap (λ (es : List Entry). length (filter (λ (e : Entry). not e.reversed) es)) empty) t;
        reversed = alone (λ (m : Ledger). length (filter (λ (e : Entry). e.reversed) m.entries)) l 0
            (ap (λ (es : List Entry). length (filter (λ (e : Entry). e.reversed) es)) empty) t;
      };
      principal = record {
        disbursed = alone (lent_on k) l 0 (ap (of_account {A = ℕ} 0 (λ (a : DisbursedLoan). a.principal)) none) t;
        paid = alone (λ (m : Ledger). slice_index (balances_in k m).paid 3) l 0
            (ap (λ (x : Balances). slice_index x.paid 3) b) t;
        written_off = alone (λ (m : Ledger). slice_index (balances_in k m).written_off 3) l 0
            (ap (λ (x : Balances). slice_index x.written_off 3) b) t;
        outstanding = alone (λ (m : Ledger). slice_index (balances_in k m).outstanding 3) l 0
            (ap (λ (x : Balances). slice_index x.outstanding 3) b) t;
      };
      money = record {
        repaid = alone (λ (m : Ledger). sum_repaid m.entries) l 0 (ap sum_repaid empty) t;
        paid = alone (λ (m : Ledger). sum (balances_in k m).paid) l 0 (ap (λ (x : Balances). sum x.paid) b) t;
        overpaid = alone (λ (m : Ledger). (balances_in k m).overpaid) l 0 (ap (λ (x : Balances). x.overpaid) b) t;
        refunded = alone (λ (m : Ledger). (balances_in k m).refunded) l 0 (ap (λ (x : Balances). x.refunded) b) t;
      };
    }

-- ---- what its repayments brought

pub repaid_more : (es : List Entry) (i : ℕ) (e : Entry) → i < length es → e ≡ get_or es i e
    → sum_by repaid_by (take (i + 1) es) ≡ sum_by repaid_by (take i es) + repaid_by e
repaid_more es i e low is =
    sum_by_more repaid_by es i e low ∙ ap (λ (x : Entry). sum_by repaid_by (take i es) + repaid_by x) (sym is)

-- ---- how many of its entries pass a test

pub counted_more : (p : Entry → Bool) (es : List Entry) (i : ℕ) (e : Entry) → i < length es → e ≡ get_or es i e
    → length (filter p (take (i + 1) es)) ≡ length (filter p (take i es)) + cond (p e) 1 0
counted_more p es i e low is =
    length-filter_more p es i e low ∙ ap (λ (x : Entry). length (filter p (take i es)) + cond (p x) 1 0) (sym is)
