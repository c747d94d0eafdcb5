-- What was lent and what was repaid of sound loans are somewhere.
use Rattle.std.proofs.Common.{◌≡◌, ◌+◌, ◌∙◌, ℕ, Bool, List, [], ◌∷◌, map, length, Option, Some, None, refl, sym, ap}
use Rattle.std.specs.Prelude.{sum, slice_index}
use Rattle.std.specs.List.{AllByRecursion}
use Rattle.sqlite_keyed.proofs.ListLemmas.{all_weaker}
use Rattle.mf_office.specs.declared.caller.Caller.{Caller}
use Rattle.mf_account.specs.declared.entry.Entry.{Entry}
use Rattle.mf_account.specs.Balance.{balances_of, sum_repaid}
use Rattle.mf_account.specs.Loan.{DisbursedLoan}
use Rattle.mf_account.proofs.ConserveLemmas.{balances-repaid, balances-principal}
use Rattle.mf_model.specs.Accounts.{account_in, of_account, balances_in, no_balances}
use Rattle.mf_model.specs.Institution.{Catalogue, Institution, Ledger, Office}
use Rattle.mf_model.specs.Sound.{IsSound, IsSoundCatalogue, IsSoundLoan, IsSoundOffice, AreEntriesBy, is_staff}
use Rattle.mf_model.specs.Stages.{disbursed_on}
use Rattle.mf_model.proofs.AccountLemmas.{account_is, account_sound}
use Rattle.mf_store_audit.specs.declared.totals.OfficeSums.{OfficeSums}
use Rattle.mf_store_audit.specs.Sums.{lent_on, sums_of_office, sums_by_loan, sums_of_all, IsBalanced}
use Rattle.mf_store_audit.proofs.AddedLemmas.{in_three}
use Rattle.mf_store_audit.proofs.LoanLemmas.{not_disbursed}

-- the two laws of a loan
record IsLoanBalanced (k : Catalogue) (l : Ledger) : Type 0 where
  principal : lent_on k l ≡ slice_index (balances_in k l).paid 3 + slice_index (balances_in k l).written_off 3
      + slice_index (balances_in k l).outstanding 3
  money : sum_repaid l.entries ≡ sum (balances_in k l).paid + (balances_in k l).overpaid + (balances_in k l).refunded

-- both sides of each, by the account
abbrev lent_by : Option DisbursedLoan → ℕ
lent_by o = of_account {A = ℕ} 0 (λ (a : DisbursedLoan). a.principal) o

abbrev principal_in : Option DisbursedLoan → ℕ
principal_in o =
    slice_index (of_account no_balances balances_of o).paid 3 + slice_index (of_account no_balances balances_of
    o).written_off 3 + slice_index (of_account no_balances balances_of o).outstanding 3

abbrev money_in : Option DisbursedLoan → ℕ
money_in o = sum (of_account no_balances balances_of o).paid + (of_account no_balances balances_of o).overpaid
    + (of_account no_balances balances_of o).refunded

module _ (k : Catalogue) (staffed : Caller → Bool) (sound : IsSoundCatalogue k) where
  none_entered : (n : ℕ) (o : Option ℕ) (es : List Entry) → o ≡ None → AreEntriesBy k.day staffed n o es → es ≡ []
  none_entered n None es e are = are
  none_entered n (Some day) es e are = absurd (let never : Some day ≡ None = e in cc)

  loan_balanced : (names : List (List ℕ)) (l : Ledger) → IsSoundLoan k staffed names l → IsLoanBalanced k l
  loan_balanced names l s = go (account_in k l) refl
    where
      go : (o : Option DisbursedLoan) → account_in k l ≡ o → IsLoanBalanced k l
      go None e =
          let empty = none_entered l.loan.periods (disbursed_on l.loan.stage) l.entries (not_disbursed k l s.product e)
          s.entries in
          record {
            principal = ap lent_by e ∙ sym (ap principal_in e);
            money = ap sum_repaid empty ∙ sym (ap money_in e);
          }
      go (Some a) e =
          let right = account_sound k staffed names l a sound s e in
          let of = account_is k l a e in
          record {
            principal = ap lent_by e ∙ sym (balances-principal a right) ∙ sym (ap principal_in e);
            money = ap (λ (r : DisbursedLoan). sum_repaid r.entries) of.account_is ∙ sym (balances-repaid a right)
                ∙ sym (ap money_in e);
          }

  sums_balanced : (clients : ℕ) (ls : List Ledger) → AllByRecursion (IsLoanBalanced k) ls
      → IsBalanced (sums_by_loan k clients ls)
  sums_balanced clients ls all = record {
    principal = in_three (lent_on k) (λ (l : Ledger). slice_index (balances_in k l).paid 3)
        (λ (l : Ledger). slice_index (balances_in k l).written_off 3)
        (λ (l : Ledger). slice_index (balances_in k l).outstanding 3) ls
        (all_weaker (IsLoanBalanced k) _ (λ l b. b.principal) ls all);
    money = in_three (λ (l : Ledger). sum_repaid l.entries) (λ (l : Ledger). sum (balances_in k l).paid)
        (λ (l : Ledger). (balances_in k l).overpaid) (λ (l : Ledger). (balances_in k l).refunded) ls
        (all_weaker (IsLoanBalanced k) _ (λ l b. b.money) ls all);
  }

  offices_balanced : (fs : List Office) → AllByRecursion (IsSoundOffice k staffed) fs
      → AllByRecursion (λ (o : OfficeSums). IsBalanced o.sums) (map (sums_of_office k) fs)
  offices_balanced [] all = tt
  offices_balanced (f ∷ fs) all = (
    sums_balanced (length f.rows.clients) f.rows.loans (all_weaker (IsSoundLoan k staffed f.rows.clients)
        (IsLoanBalanced k) (loan_balanced f.rows.clients) f.rows.loans all.0.rows.loans),
    offices_balanced fs all.1,
  )

pub all_balanced : (i : Institution) → IsSound i → AllByRecursion (λ (o : OfficeSums). IsBalanced o.sums)
    (map (sums_of_office i.catalogue) i.offices)
all_balanced i sound = offices_balanced i.catalogue (is_staff i.offices) sound.catalogue i.offices sound.each

-- ---- of all offices

pub total_balanced : (os : List OfficeSums) → AllByRecursion (λ (o : OfficeSums). IsBalanced o.sums) os
    → IsBalanced (sums_of_all os)
total_balanced os all = record {
  principal = in_three (λ (o : OfficeSums). o.sums.principal.disbursed) (λ (o : OfficeSums). o.sums.principal.paid)
      (λ (o : OfficeSums). o.sums.principal.written_off) (λ (o : OfficeSums). o.sums.principal.outstanding) os
      (all_weaker (λ (o : OfficeSums). IsBalanced o.sums) _ (λ o b. b.principal) os all);
  money = in_three (λ (o : OfficeSums). o.sums.money.repaid) (λ (o : OfficeSums). o.sums.money.paid)
      (λ (o : OfficeSums). o.sums.money.overpaid) (λ (o : OfficeSums). o.sums.money.refunded) os
      (all_weaker (λ (o : OfficeSums). IsBalanced o.sums) _ (λ o b. b.money) os all);
}
