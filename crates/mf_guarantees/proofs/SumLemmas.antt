-- What holds of each loan holds of the sums over loans.
use Rattle.std.proofs.Common.{◌≡◌, ◌+◌, ℕ, Bool, List, [], ◌∷◌, ◌++◌, Option, Some, None, refl, arith, sum}
use Rattle.std.specs.Prelude.{sum_by, slice_index}
use Rattle.std.specs.List.{AllByRecursion, flat_map}
use Rattle.std.proofs.lemmas.List.Sums.{sum_by-cons}
use Rattle.mf_office.specs.declared.caller.Caller.{Caller}
use Rattle.mf_account.specs.declared.balances.Balances.{Balances}
use Rattle.mf_account.specs.Balance.{balances_of, sum_repaid}
use Rattle.mf_account.specs.Loan.{DisbursedLoan}
use Rattle.mf_model.specs.Accounts.{account_in, of_account}
use Rattle.mf_model.specs.Institution.{Institution, Catalogue, Ledger, Office, office_at}
use Rattle.mf_model.specs.Run.{Line, last}
use Rattle.mf_model.specs.Sound.{IsSound, IsSoundCatalogue, IsSoundLoan, IsSoundOffice, AreInRange, is_staff}
use Rattle.mf_model.proofs.AccountLemmas.{account_sound}
use Rattle.mf_model.proofs.SoundLemmas.{found_sound, last_sound}
use Rattle.mf_guarantees.specs.Money.{IsAccountedFor}
use Rattle.mf_guarantees.specs.Sums.{paid_out_in, all_paid_out, AreAccountedFor}
use Rattle.mf_guarantees.proofs.MoneyLemmas.{accounted}

-- ---- sums of equations

three : {X : Type 0} (P : X → Type 0) (a b c d : X → ℕ) → ((x : X) → P x → a x ≡ b x + c x + d x) → (xs : List X)
    → AllByRecursion P xs → sum_by a xs ≡ sum_by b xs + sum_by c xs + sum_by d xs
three P a b c d each [] all = omega arith
three P a b c d each (x ∷ xs) all =
    let here = each x all.0 in
    let rest = three P a b c d each xs all.1 in
    omega (arith, here, rest, sum_by-cons a x xs, sum_by-cons b x xs, sum_by-cons c x xs, sum_by-cons d x xs)

four : {X : Type 0} (P : X → Type 0) (a b c d e : X → ℕ) → ((x : X) → P x → a x ≡ b x + c x + d x + e x)
    → (xs : List X) → AllByRecursion P xs → sum_by a xs ≡ sum_by b xs + sum_by c xs + sum_by d xs + sum_by e xs
four P a b c d e each [] all = omega arith
four P a b c d e each (x ∷ xs) all =
    let here = each x all.0 in
    let rest = four P a b c d e each xs all.1 in
    omega (
      arith,
      here,
      rest,
      sum_by-cons a x xs,
      sum_by-cons b x xs,
      sum_by-cons c x xs,
      sum_by-cons d x xs,
      sum_by-cons e x xs,
    )

abbrev portion_of : (Balances → List ℕ) → ℕ → DisbursedLoan → ℕ
portion_of column portion loan = slice_index (column (balances_of loan)) portion

sums_accounted : (loans : List DisbursedLoan) → AllByRecursion IsAccountedFor loans → AreAccountedFor loans
sums_accounted loans all = record {
  lent = three IsAccountedFor (λ loan. loan.principal) (portion_of (λ b. b.paid) 3)
      (portion_of (λ b. b.written_off) 3) (portion_of (λ b. b.outstanding) 3) (λ loan is. is.lent) loans all;
  owed = λ portion small. four IsAccountedFor (portion_of (λ b. b.owed) portion) (portion_of (λ b. b.paid) portion)
      (portion_of (λ b. b.waived) portion) (portion_of (λ b. b.written_off) portion)
      (portion_of (λ b. b.outstanding) portion) (λ loan is. is.owed portion small) loans all;
  repaid = three IsAccountedFor (λ loan. sum_repaid loan.entries) (λ loan. sum (balances_of loan).paid)
      (λ loan. (balances_of loan).overpaid) (λ loan. (balances_of loan).refunded) (λ loan is. is.repaid) loans all;
}

-- ---- the loans of a sound institution

all_both : {X : Type 0} (P : X → Type 0) (xs ys : List X) → AllByRecursion P xs → AllByRecursion P ys
    → AllByRecursion P (xs ++ ys)
all_both P [] ys first second = second
all_both P (x ∷ xs) ys first second = (first.0, all_both P xs ys first.1 second)

module _ (k : Catalogue) (staffed : Caller → Bool) (sound : IsSoundCatalogue k) where
  one_more : (clients : List (List ℕ)) (l : Ledger) (o : Option DisbursedLoan) (rest : List DisbursedLoan)
      → IsSoundLoan k staffed clients l → account_in k l ≡ o → AllByRecursion IsAccountedFor rest
      → AllByRecursion IsAccountedFor (of_account [] (λ a. a ∷ []) o ++ rest)
  one_more clients l None rest is e all = all
  one_more clients l (Some a) rest is e all = (accounted a (account_sound k staffed clients l a sound is e), all)

  each_loan : (clients : List (List ℕ)) (ls : List Ledger) → AllByRecursion (IsSoundLoan k staffed clients) ls
      → AllByRecursion IsAccountedFor (flat_map (λ (l : Ledger). of_account [] (λ a. a ∷ []) (account_in k l)) ls)
  each_loan clients [] all = tt
  each_loan clients (l ∷ ls) all =
      one_more clients l (account_in k l) (flat_map (λ (x : Ledger). of_account [] (λ a. a ∷ []) (account_in k x)) ls)
      all.0 refl (each_loan clients ls all.1)

  each_office : (f : Office) → IsSoundOffice k staffed f → AllByRecursion IsAccountedFor (paid_out_in k f)
  each_office f is = each_loan f.rows.clients f.rows.loans is.rows.loans

  all_offices : (fs : List Office) → AllByRecursion (IsSoundOffice k staffed) fs
      → AllByRecursion IsAccountedFor (flat_map (paid_out_in k) fs)
  all_offices [] all = tt
  all_offices (f ∷ fs) all =
      all_both IsAccountedFor (paid_out_in k f) (flat_map (paid_out_in k) fs) (each_office f all.0)
      (all_offices fs all.1)

pub office_accounted : (lines : List Line) (i : Institution) (x : ℕ) (f : Office) → IsSound i → AreInRange lines
    → office_at x (last lines i).offices ≡ Some f → AreAccountedFor (paid_out_in (last lines i).catalogue f)
office_accounted lines i x f s r there =
    let j : Institution = last lines i in
    let sound : IsSound j = last_sound lines i s r in
    sums_accounted (paid_out_in j.catalogue f) (each_office j.catalogue (is_staff j.offices) sound.catalogue f
    (found_sound j.catalogue (is_staff j.offices) x j.offices f sound.each there))

pub all_accounted : (lines : List Line) (i : Institution) → IsSound i → AreInRange lines
    → AreAccountedFor (all_paid_out (last lines i))
all_accounted lines i s r =
    let j : Institution = last lines i in
    let sound : IsSound j = last_sound lines i s r in
    sums_accounted (all_paid_out j) (all_offices j.catalogue (is_staff j.offices) sound.catalogue j.offices sound.each)
