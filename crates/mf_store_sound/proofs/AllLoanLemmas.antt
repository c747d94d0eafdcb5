-- The loans of all offices in one list, and their rows.
use Rattle.std.proofs.Common.{◌≡◌, ◌≤◌, ◌+◌, ◌∙◌, ℕ, List, [], ◌∷◌, ◌++◌, map, refl, ap, arith}
use Rattle.std.specs.List.{AllByRecursion, flat_map}
use Rattle.std.proofs.lemmas.List.Concat.{flat_map-append}
use Rattle.sqlite_keyed.proofs.ListLemmas.{all_weaker, all-flat_map, map-flat_map, ascending-append}
use Rattle.mf_model.specs.Institution.{Catalogue, Ledger, Office}
use Rattle.mf_model.specs.Tree.{Above, Ascending}
use Rattle.mf_store_values.specs.Accounts.{PlacedLoan, placed_loans, all_placed, rows_of_placed, row_of_placed, IsOther}
use Rattle.mf_store_values.specs.Accounts.{AreApartLoans, IsPlainPlaced}
use Rattle.mf_store_values.specs.Flat.{numbered_from, all_rows, rows_of_loans, rows_by_loan, loans_of, loan_in}
use Rattle.mf_store_values.specs.Ledgers.{IsPlainLoan}
use Rattle.mf_store_sound.specs.Sound.{IsPlainRows}

module _ {A R : Type 0} (make : ℕ → ℕ → A → R) (of : Ledger → List A) where
  office_rows_of : (x n : ℕ) (ls : List Ledger) → rows_of_placed make of (placed_loans x n ls)
      ≡ rows_of_loans make of x n ls
  office_rows_of x n [] = refl
  office_rows_of x n (l ∷ ls) = ap (λ rest. map (make x n) (of l) ++ rest) (office_rows_of x (n + 1) ls)

  pub all_rows_of : (fs : List Office) → rows_of_placed make of (all_placed fs) ≡ rows_by_loan make of fs
  all_rows_of [] = refl
  all_rows_of (f ∷ fs) = flat_map-append (λ (p : PlacedLoan). map (make p.office p.number) (of p.ledger))
      (placed_loans f.number 1 f.rows.loans) (all_placed fs)
      ∙ (λ t. office_rows_of f.number 1 f.rows.loans t ++ all_rows_of fs t)

office_loan_rows : (x n : ℕ) (ls : List Ledger) → map row_of_placed (placed_loans x n ls)
    ≡ numbered_from (loan_in x) n (map (λ (l : Ledger). l.loan) ls)
office_loan_rows x n [] = refl
office_loan_rows x n (l ∷ ls) = ap (λ rest. loan_in x n l.loan ∷ rest) (office_loan_rows x (n + 1) ls)

pub all_loan_rows : (fs : List Office) → map row_of_placed (all_placed fs) ≡ all_rows loan_in loans_of fs
all_loan_rows fs = map-flat_map row_of_placed (λ (f : Office). placed_loans f.number 1 f.rows.loans) fs
    ∙ (λ t. flat_map (λ (f : Office). office_loan_rows f.number 1 f.rows.loans t) fs)

-- what holds of an office's loans under each number from n on
placed_each : (P : PlacedLoan → Type 0) (x n : ℕ) (ls : List Ledger) → ((m : ℕ) (l : Ledger) → n ≤ m
    → P (record { office = x; number = m; ledger = l })) → AllByRecursion P (placed_loans x n ls)
placed_each P x n [] each = tt
placed_each P x n (l ∷ ls) each =
    (each n l (omega arith), placed_each P x (n + 1) ls (λ m k le. each m k (omega arith)))

office_apart : (x n : ℕ) (ls : List Ledger) → AreApartLoans (placed_loans x n ls)
office_apart x n [] = tt
office_apart x n (l ∷ ls) = (
  placed_each (IsOther (record { office = x; number = n; ledger = l })) x (n + 1) ls
      (λ m k le. record { same_office = λ e same. omega (arith, same, le) }),
  office_apart x (n + 1) ls,
)

offices_above : (p : PlacedLoan) (fs : List Office) → Above p.office fs → AllByRecursion (IsOther p) (all_placed fs)
offices_above p fs up = all-flat_map (IsOther p) _ fs (all_weaker _ _ (λ f lt. placed_each (IsOther p) f.number 1
    f.rows.loans (λ m l le. record { same_office = λ same e. omega (arith, same, lt) })) fs up)

pub all_apart : (fs : List Office) → Ascending fs → AreApartLoans (all_placed fs)
all_apart [] up = tt
all_apart (f ∷ fs) up =
    ascending-append IsOther (placed_loans f.number 1 f.rows.loans) (all_placed fs)
    (office_apart f.number 1 f.rows.loans) (all_apart fs up.1)
    (placed_each (λ p. AllByRecursion (IsOther p) (all_placed fs)) f.number 1 f.rows.loans
    (λ m l le. offices_above (record { office = f.number; number = m; ledger = l }) fs up.0))

office_plain : (k : Catalogue) (names : List (List ℕ)) (x n : ℕ) (ls : List Ledger)
    → AllByRecursion (IsPlainLoan k names) ls → AllByRecursion (IsPlainPlaced k) (placed_loans x n ls)
office_plain k names x n [] all = tt
office_plain k names x n (l ∷ ls) all =
    (record { clients = names; plain = all.0 }, office_plain k names x (n + 1) ls all.1)

pub all_plain : (k : Catalogue) (fs : List Office) → AllByRecursion (λ (f : Office). IsPlainRows k f.rows) fs
    → AllByRecursion (IsPlainPlaced k) (all_placed fs)
all_plain k fs all = all-flat_map (IsPlainPlaced k) _ fs (all_weaker _ _ (λ f plain. office_plain k f.rows.clients
    f.number 1 f.rows.loans plain.loans) fs all)
