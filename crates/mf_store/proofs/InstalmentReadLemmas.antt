-- The rows of a loan's instalments.
use Rattle.std.proofs.Common.{◌≡◌, ◌+◌, ℕ, Bool, List, [], ◌∷◌, map, filter, Option, None, Some, refl, ap, ◌∙◌, is_eq}
use Rattle.std.proofs.Common.{nat_cmp}
use Rattle.std.specs.List.{AllByRecursion}
use Rattle.std.specs.Ordering.{ordering_then}
use Rattle.std.proofs.lemmas.List.Elements.{All-head, All-tail}
use Rattle.sqlite_keyed.proofs.ListLemmas.{map-map}
use Rattle.mf_alloc.specs.Sums.{Instalment, IsWhole, AreWhole}
use Rattle.mf_account.specs.Loan.{DisbursedLoan, IsSoundDisbursed, state_of_loan}
use Rattle.mf_account.proofs.SoundLemmas.{good-sound}
use Rattle.mf_office.specs.declared.account.Account.{Account}
use Rattle.mf_model.specs.Accounts.{account_in, of_account}
use Rattle.mf_model.specs.Institution.{Institution, Ledger}
use Rattle.mf_model.specs.Sound.{IsSound, is_staff}
use Rattle.mf_model.specs.Store.{ledger_at, rows_at}
use Rattle.mf_model.proofs.AccountLemmas.{account_sound}
use Rattle.mf_store_values.specs.Flat.{numbered_from, instalments_kept, had_by}
use Rattle.mf_store_values.specs.Flat.{rows_by_loan}
use Rattle.mf_store_commits.proofs.EnteredLemmas.{loan_sound}
use Rattle.mf_store_values.proofs.LoanRowLemmas.{loan_shown}

-- ---- the rows of one loan

-- an instalment without its number
abbrev pub sums_of : ℕ × Instalment → Instalment
sums_of item = item.1

numbered_sums : (n : ℕ) (rows : List Instalment) → map sums_of (numbered_from (λ k row. (k, row)) n rows) ≡ rows
numbered_sums n [] = refl
numbered_sums n (row ∷ rows) = ap (λ l. row ∷ l) (numbered_sums (n + 1) rows)

-- the instalments that are kept are those of the account
pub sums_kept : (o : Option DisbursedLoan) → map sums_of (of_account [] instalments_kept o)
    ≡ of_account [] (λ a. (state_of_loan a).rows) o
sums_kept None = refl
sums_kept (Some a) = numbered_sums 1 (state_of_loan a).rows

numbered_whole : (n : ℕ) (rows : List Instalment) → AreWhole rows → AllByRecursion (λ item. IsWhole (sums_of item))
    (numbered_from (λ k row. (k, row)) n rows)
numbered_whole n [] whole = tt
numbered_whole n (row ∷ rows) whole =
    (All-head IsWhole row rows whole, numbered_whole (n + 1) rows (All-tail IsWhole row rows whole))

-- the account of a loan of a sound institution
pub loan_account_sound : (loan : Account) (l : Ledger) (i : Institution) → IsSound i → ledger_at loan i ≡ Some l
    → (a : DisbursedLoan) → account_in i.catalogue l ≡ Some a → IsSoundDisbursed a
loan_account_sound loan l i sound there a is = account_sound i.catalogue (is_staff i.offices)
    (rows_at loan.office i).clients l a sound.catalogue (loan_sound loan l i sound there) is

-- each has its four sums of each kind
pub whole_kept : (o : Option DisbursedLoan) → ((a : DisbursedLoan) → o ≡ Some a → IsSoundDisbursed a)
    → AllByRecursion (λ item. IsWhole (sums_of item)) (of_account [] instalments_kept o)
whole_kept None sound = tt
whole_kept (Some a) sound = numbered_whole 1 (state_of_loan a).rows (good-sound a (sound a refl)).whole

-- what the queries show of a loan is what is kept of it
pub kept_shown : {A R X : Type 0} (row : R → X) (make : ℕ → ℕ → A → R) (of : Ledger → List A)
    (has : ℕ → ℕ → R → Bool) → ((x n y m : ℕ) (a : A) → has x n (make y m a)
    ≡ is_eq (ordering_then (nat_cmp x y) (nat_cmp n m))) → (loan : Account) (found : Option Ledger) (i : Institution)
    → IsSound i → ledger_at loan i ≡ found
    → map row (filter (has loan.office loan.number) (rows_by_loan make of i.offices))
    ≡ map (λ item. row (make loan.office loan.number item)) (had_by of found)
kept_shown row make of has owns loan found i sound there =
    ap (map row) (loan_shown make of has owns loan.office loan.number i.offices sound.tree.ascending
    ∙ ap (λ o. map (make loan.office loan.number) (had_by of o)) there)
    ∙ map-map row (make loan.office loan.number) (had_by of found)
