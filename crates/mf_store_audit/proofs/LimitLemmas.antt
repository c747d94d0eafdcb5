-- What a sound institution comes to is far within 64 bits for counts and 128 bits for sums.
use Rattle.std.proofs.Common.{◌≡◌, ◌+◌, ◌*◌, ◌^◌, ◌<◌, ◌≤◌, ◌==◌, ℕ, Bool, true, false, cond, not, List, [], ◌∷◌, map}
use Rattle.std.proofs.Common.{length, get_or, Option, Some, None, refl, sym, ap, subst, arith}
use Rattle.std.specs.Prelude.{sum_by, filter}
use Rattle.std.specs.List.{AllByRecursion}
use Rattle.std.proofs.lemmas.List.Sums.{sum_by-cons, sum_by-le}
use Rattle.sqlite_keyed.proofs.ListLemmas.{all_weaker}
use Rattle.mf_office.specs.declared.caller.Caller.{Caller}
use Rattle.mf_account.specs.declared.entry.Entry.{Entry}
use Rattle.mf_account.specs.declared.entry.Kind.{Kind}
use Rattle.mf_account.specs.declared.entry.Kind.TheVariants.{Repay, Fee, Penalty, Waive, WriteOff, Refund}
use Rattle.mf_account.specs.Balance.{sum_repaid}
use Rattle.mf_account.specs.Kinds.{money_in}
use Rattle.mf_account.specs.Loan.{DisbursedLoan, HasColumns}
use Rattle.mf_model.specs.Accounts.{account_in, of_account, status_in}
use Rattle.mf_model.specs.Institution.{Catalogue, Institution, Ledger, Office}
use Rattle.mf_model.specs.Sound.{IsSound, IsSoundCatalogue, IsSoundLoan, IsSoundOffice, AreEntriesBy, is_staff}
use Rattle.mf_model.specs.Stages.{disbursed_on}
use Rattle.mf_model.specs.Tree.{Above, Ascending}
use Rattle.mf_model.proofs.AccountLemmas.{account_sound}
use Rattle.mf_store_sound.proofs.HeldAccountLemmas.{few_filtered}
use Rattle.mf_store_audit.specs.declared.totals.OfficeSums.{OfficeSums}
use Rattle.mf_store_audit.specs.Sums.{loans_of_status, lent_on, sums_of_office, sums_of_all, Fit, IsBalanced}
use Rattle.mf_store_audit.proofs.BalancedLemmas.{all_balanced, total_balanced}
use Rattle.mf_account.proofs.StatusLemmas.{repaid_by, repaid-told}

-- a sum of numbers up to a most
sum_bound : {X : Type 0} (f : X → ℕ) (m : ℕ) (xs : List X) → AllByRecursion (λ x. f x ≤ m) xs
    → sum_by f xs ≤ length xs * m
sum_bound f m [] all = omega arith
sum_bound f m (x ∷ xs) all =
    let first = all.0 in
    let rest = sum_bound f m xs all.1 in
    let whole = sum_by-cons f x xs in
    omega (arith, first, rest, whole)

-- ---- one loan

money_bound : (kind : Kind) (n : ℕ) (e : Entry) → HasColumns kind n e → money_in kind e.amount ≤ 10 ^ 12
money_bound Repay n e h = h.1
money_bound Fee n e h = omega arith
money_bound Penalty n e h = omega arith
money_bound Waive n e h = omega arith
money_bound WriteOff n e h = omega arith
money_bound Refund n e h = omega arith

brought_bound : (n : ℕ) (e : Entry) → HasColumns e.kind n e → repaid_by e ≤ 10 ^ 12
brought_bound n e h =
    let most = money_bound e.kind n e h in
    elim e.reversed as (λ b. cond b 0 (money_in e.kind e.amount) ≤ 10 ^ 12) [
      | true ↦ omega arith
      | false ↦ most
    ]

record IsLoanBound (k : Catalogue) (l : Ledger) : Type 0 where
  few : length l.entries ≤ 9999
  lent : lent_on k l ≤ 10 ^ 12
  repaid : sum_repaid l.entries ≤ 10 ^ 16

module _ (k : Catalogue) (staffed : Caller → Bool) (sound : IsSoundCatalogue k) where
  few_of : (n : ℕ) (o : Option ℕ) (es : List Entry) → AreEntriesBy k.day staffed n o es → length es ≤ 9999
  few_of n None es are = let none : length es ≡ 0 = ap length are in omega (arith, none)
  few_of n (Some day) es are = are.lawful.few

  brought_of : (n : ℕ) (o : Option ℕ) (es : List Entry) → AreEntriesBy k.day staffed n o es → sum_by repaid_by es
      ≤ length es * 10 ^ 12
  brought_of n None es are = subst (λ (xs : List Entry). sum_by repaid_by xs ≤ length xs * 10 ^ 12) (sym are)
      (omega arith)
  brought_of n (Some day) es are =
      sum_by-le repaid_by (10 ^ 12) es (λ i d low. brought_bound n (get_or es i d) (are.lawful.each i d low).columns)

  lent_of : (names : List (List ℕ)) (l : Ledger) → IsSoundLoan k staffed names l → lent_on k l ≤ 10 ^ 12
  lent_of names l s = go (account_in k l) refl
    where
      go : (o : Option DisbursedLoan) → account_in k l ≡ o → of_account {A = ℕ} 0 (λ (a : DisbursedLoan). a.principal)
          (account_in k l) ≤ 10 ^ 12
      go None e = subst (λ (o : Option DisbursedLoan). of_account {A = ℕ} 0 (λ (a : DisbursedLoan). a.principal) o
          ≤ 10 ^ 12)
          (sym e) (omega arith)
      go (Some a) e = subst (λ (o : Option DisbursedLoan). of_account {A = ℕ} 0 (λ (a : DisbursedLoan). a.principal) o
          ≤ 10 ^ 12)
          (sym e) (account_sound k staffed names l a sound s e).limits.most_principal

  loan_bound : (names : List (List ℕ)) (l : Ledger) → IsSoundLoan k staffed names l → IsLoanBound k l
  loan_bound names l s =
      let few = few_of l.loan.periods (disbursed_on l.loan.stage) l.entries s.entries in
      let brought = brought_of l.loan.periods (disbursed_on l.loan.stage) l.entries s.entries in
      let is = repaid-told l.entries in
      record { few = few; lent = lent_of names l s; repaid = omega (arith, few, brought, is) }

  -- ---- one office

  office_bound : (f : Ledger → ℕ) (m : ℕ) → ((l : Ledger) → IsLoanBound k l → f l ≤ m) → (o : Office)
      → IsSoundOffice k staffed o → sum_by f o.rows.loans ≤ length o.rows.loans * m
  office_bound f m bound o s =
      sum_bound f m o.rows.loans (all_weaker (IsSoundLoan k staffed o.rows.clients) (λ l. f l ≤ m)
      (λ l h. bound l (loan_bound o.rows.clients l h)) o.rows.loans s.rows.loans)

  loans_bound : (o : Office) → IsSoundOffice k staffed o → (status : ℕ) → loans_of_status k o.rows.loans status ≤ 10 ^ 6
  loans_bound o s status =
      let few = few_filtered (λ (l : Ledger). status_in k l == status) o.rows.loans in
      let most = s.rows.loan_limit in
      omega (arith, few, most)

  entries_bound : (p : Entry → Bool) (o : Office) → IsSoundOffice k staffed o
      → sum_by (λ (l : Ledger). length (filter p l.entries)) o.rows.loans ≤ 10 ^ 10
  entries_bound p o s =
      let sum = office_bound (λ (l : Ledger). length (filter p l.entries)) 9999
      (λ l b. (let few = b.few in let some = few_filtered p l.entries in omega (arith, few, some))) o s in
      let most = s.rows.loan_limit in
      omega (arith, sum, most)

  lent_bound : (o : Office) → IsSoundOffice k staffed o → sum_by (lent_on k) o.rows.loans ≤ 10 ^ 22
  lent_bound o s =
      let sum = office_bound (lent_on k) (10 ^ 12) (λ l b. b.lent) o s in
      let most = s.rows.loan_limit in
      omega (arith, sum, most)

  repaid_bound : (o : Office) → IsSoundOffice k staffed o → sum_by (λ (l : Ledger). sum_repaid l.entries) o.rows.loans
      ≤ 10 ^ 22
  repaid_bound o s =
      let sum = office_bound (λ (l : Ledger). sum_repaid l.entries) (10 ^ 16) (λ l b. b.repaid) o s in
      let most = s.rows.loan_limit in
      omega (arith, sum, most)

  -- ---- all offices

  few_offices : (n : ℕ) (fs : List Office) → Above n fs → Ascending fs → AllByRecursion (IsSoundOffice k staffed) fs
      → n ≤ 9999 → n + length fs ≤ 9999
  few_offices n [] above up all low = omega (arith, low)
  few_offices n (o ∷ fs) above up all low =
      let first = above.0 in
      let rest = few_offices o.number fs up.0 up.1 all.1 all.0.number.1 in
      omega (arith, first, rest)

  every_office : (f : OfficeSums → ℕ) (m : ℕ) → ((o : Office) → IsSoundOffice k staffed o → f (sums_of_office k o) ≤ m)
      → (fs : List Office) → AllByRecursion (IsSoundOffice k staffed) fs
      → sum_by f (map (sums_of_office k) fs) ≤ length fs * m
  every_office f m bound [] all = omega arith
  every_office f m bound (o ∷ fs) all =
      let first = bound o all.0 in
      let rest = every_office f m bound fs all.1 in
      let whole = sum_by-cons f (sums_of_office k o) (map (sums_of_office k) fs) in
      omega (arith, first, rest, whole)

  -- counts of all offices, and sums
  count_fits : (f : OfficeSums → ℕ) → ((o : Office) → IsSoundOffice k staffed o → f (sums_of_office k o) ≤ 10 ^ 10)
      → (fs : List Office) → AllByRecursion (IsSoundOffice k staffed) fs → length fs ≤ 9999
      → sum_by f (map (sums_of_office k) fs) < 2 ^ 64
  count_fits f bound fs all few = let most = every_office f (10 ^ 10) bound fs all in omega (arith, most, few)

  sum_fits : (f : OfficeSums → ℕ) → ((o : Office) → IsSoundOffice k staffed o → f (sums_of_office k o) ≤ 10 ^ 22)
      → (fs : List Office) → AllByRecursion (IsSoundOffice k staffed) fs → length fs ≤ 9999
      → sum_by f (map (sums_of_office k) fs) < 2 ^ 128
  sum_fits f bound fs all few = let most = every_office f (10 ^ 22) bound fs all in omega (arith, most, few)

  loans_fit : (f : OfficeSums → ℕ) (status : ℕ) → ((o : Office) → f (sums_of_office k o)
      ≡ loans_of_status k o.rows.loans status)
      → (fs : List Office) → AllByRecursion (IsSoundOffice k staffed) fs → length fs ≤ 9999
      → sum_by f (map (sums_of_office k) fs) < 2 ^ 64
  loans_fit f status is fs all few = count_fits f (λ o s. (let same = is o in let most = loans_bound o s status in
      omega (arith, same, most))) fs all few

  -- what is left over or went elsewhere is no more than all of it
  all_fit : (fs : List Office) → AllByRecursion (IsSoundOffice k staffed) fs → length fs ≤ 9999
      → IsBalanced (sums_of_all (map (sums_of_office k) fs)) → Fit (sums_of_all (map (sums_of_office k) fs))
  all_fit fs all few balanced =
      let lent = sum_fits (λ (x : OfficeSums). x.sums.principal.disbursed) lent_bound fs all few in
      let brought = sum_fits (λ (x : OfficeSums). x.sums.money.repaid) repaid_bound fs all few in
      let principal = balanced.principal in
      let money = balanced.money in
      record {
        clients = count_fits (λ (x : OfficeSums). x.sums.clients)
            (λ o s. (let most = s.rows.client_limit in omega (arith, most))) fs all few;
        loans = record {
          submitted = loans_fit (λ (x : OfficeSums). x.sums.loans.submitted) 100 (λ o. refl) fs all few;
          approved = loans_fit (λ (x : OfficeSums). x.sums.loans.approved) 200 (λ o. refl) fs all few;
          active = loans_fit (λ (x : OfficeSums). x.sums.loans.active) 300 (λ o. refl) fs all few;
          withdrawn = loans_fit (λ (x : OfficeSums). x.sums.loans.withdrawn) 400 (λ o. refl) fs all few;
          rejected = loans_fit (λ (x : OfficeSums). x.sums.loans.rejected) 500 (λ o. refl) fs all few;
          closed = loans_fit (λ (x : OfficeSums). x.sums.loans.closed) 600 (λ o. refl) fs all few;
          written_off = loans_fit (λ (x : OfficeSums). x.sums.loans.written_off) 601 (λ o. refl) fs all few;
          overpaid = loans_fit (λ (x : OfficeSums). x.sums.loans.overpaid) 700 (λ o. refl) fs all few;
        };
        entries = record {
          standing = count_fits (λ (x : OfficeSums). x.sums.entries.standing)
              (λ o s. entries_bound (λ (e : Entry). not e.reversed) o s) fs all few;
          reversed = count_fits (λ (x : OfficeSums). x.sums.entries.reversed)
              (λ o s. entries_bound (λ (e : Entry). e.reversed) o s) fs all few;
        };
        principal = record {
          disbursed = lent;
          paid = omega (arith, lent, principal);
          written_off = omega (arith, lent, principal);
          outstanding = omega (arith, lent, principal);
        };
        money = record {
          repaid = brought;
          paid = omega (arith, brought, money);
          overpaid = omega (arith, brought, money);
          refunded = omega (arith, brought, money);
        };
      }

pub sound_fits : (i : Institution) → IsSound i → Fit (sums_of_all (map (sums_of_office i.catalogue) i.offices))
sound_fits i sound =
    let fs = i.offices in
    all_fit i.catalogue (is_staff i.offices) sound.catalogue i.offices sound.each (few i.offices sound.tree.ascending
    sound.each)
    (total_balanced (map (sums_of_office i.catalogue) i.offices) (all_balanced i sound))
  where
    few : (fs : List Office) → Ascending fs → AllByRecursion (IsSoundOffice i.catalogue (is_staff i.offices)) fs
        → length fs ≤ 9999
    few [] up all = omega arith
    few (o ∷ fs) up all =
        let rest = few_offices i.catalogue (is_staff i.offices) sound.catalogue o.number fs up.0 up.1 all.1
        all.0.number.1 in
        let some = all.0.number.0 in
        omega (arith, rest, some)
