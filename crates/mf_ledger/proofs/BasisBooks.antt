-- The books on either basis along a run.
use Rattle.std.proofs.Common.{◌≡◌, ◌+◌, ℕ, Bool, true, false, cond, List, [], ◌∷◌, ◌++◌, refl, ap, ap₂, ◌∙◌}
use Rattle.std.proofs.Common.{arith, append-nil}
use Rattle.std.specs.Prelude.{◌&&◌, nat_le, is_some, ℤ, ◌+ℤ◌}
use Rattle.std.specs.List.{AllByRecursion}
use Rattle.std.proofs.lemmas.Int.{ints}
use Rattle.std.proofs.lemmas.List.Elements.{filter-append}
use Rattle.mf_model.proofs.Runs.{IsTree_next}
use Rattle.mf_model.specs.Institution.{Institution}
use Rattle.mf_model.specs.Run.{Line, change_of_line, next}
use Rattle.mf_model.specs.Tree.{IsTree}
use Rattle.mf_model.specs.declared.request.Request.{Request}
use Rattle.mf_ledger.specs.Accrual.{adjustments, adjustments_of}
use Rattle.mf_ledger.specs.Basis.{added_of, booked, booked_of}
use Rattle.mf_ledger.specs.Runs.{Selection, between, posted, transactions, transactions_of}
use Rattle.mf_ledger.specs.declared.basis.Basis.{Basis}
use Rattle.mf_ledger.specs.declared.basis.Basis.TheVariants.{Cash, Accrual}
use Rattle.mf_ledger.specs.declared.books.Title.{Title}
use Rattle.mf_ledger.specs.declared.books.Transaction.{Transaction}
use Rattle.mf_ledger.proofs.AccrualBooks.{line_from}
use Rattle.mf_ledger.proofs.RunBooks.{IsFrom, all-both, day_grows, later_from, posted_in, request_from}
use Rattle.mf_ledger.proofs.SignedSums.{sum-append}

-- ---- on a cash basis nothing is added

pub booked_cash : (ls : List Line) (n : ℕ) (i : Institution) → booked Cash n ls i ≡ transactions n ls i
booked_cash [] n i = refl
booked_cash (l ∷ ls) n i = go (is_some (change_of_line l i)) (λ m. booked_cash ls m (next l i))
  where
    go : (b : Bool) → ((m : ℕ) → booked Cash m ls (next l i) ≡ transactions m ls (next l i))
        → cond b (booked_of Cash (n + 1) l.call.request i (next l i) ++ booked Cash (n + 1) ls (next l i))
        (booked Cash n ls (next l i))
        ≡ cond b (transactions_of (n + 1) l.call.request i (next l i) ++ transactions (n + 1) ls (next l i))
        (transactions n ls (next l i))
    go true rest = ap₂ ◌++◌ (append-nil (transactions_of (n + 1) l.call.request i (next l i))) (rest (n + 1))
    go false rest = rest n

-- ---- on an accrual basis the adjusting transactions are

-- what transactions of a span of days move
abbrev moved_in : Title → Selection → ℕ → ℕ → List Transaction → ℤ
moved_in title meant first last ts = posted title meant (between first last ts)

module _ (title : Title) (meant : Selection) (first last : ℕ) where
  moved_by_both : (xs ys : List Transaction) → moved_in title meant first last (xs ++ ys)
      ≡ moved_in title meant first last xs +ℤ moved_in title meant first last ys
  moved_by_both xs ys =
      ap (posted title meant) (filter-append (λ (t : Transaction). nat_le first t.day && nat_le t.day last) xs ys)
      ∙ sum-append (posted_in title meant) (between first last xs) (between first last ys)

  pub booked_adds : (ls : List Line) (n : ℕ) (i : Institution) → moved_in title meant first last (booked Accrual n ls i)
      ≡ moved_in title meant first last (transactions n ls i) +ℤ moved_in title meant first last (adjustments n ls i)
  booked_adds [] n i = refl
  booked_adds (l ∷ ls) n i = go (is_some (change_of_line l i)) (λ m. booked_adds ls m (next l i))
    where
      sums : (x y z p q r s t : ℤ) → x ≡ (p +ℤ q) +ℤ r → r ≡ s +ℤ t → y ≡ p +ℤ s → z ≡ q +ℤ t → x ≡ y +ℤ z
      sums x y z p q r s t a b c d = omega (arith, ints, a, b, c, d)

      go : (b : Bool) → ((m : ℕ) → moved_in title meant first last (booked Accrual m ls (next l i))
          ≡ moved_in title meant first last (transactions m ls (next l i))
          +ℤ moved_in title meant first last (adjustments m ls (next l i)))
          → moved_in title meant first last (cond b
          (booked_of Accrual (n + 1) l.call.request i (next l i) ++ booked Accrual (n + 1) ls (next l i))
          (booked Accrual n ls (next l i)))
          ≡ moved_in title meant first last (cond b
          (transactions_of (n + 1) l.call.request i (next l i) ++ transactions (n + 1) ls (next l i))
          (transactions n ls (next l i)))
          +ℤ moved_in title meant first last (cond b
          (adjustments_of (n + 1) l.call.request i (next l i) ++ adjustments (n + 1) ls (next l i))
          (adjustments n ls (next l i)))
      go true rest =
          let moved = moved_in title meant first last in
          let own = transactions_of (n + 1) l.call.request i (next l i) in
          let more = adjustments_of (n + 1) l.call.request i (next l i) in
          let later = booked Accrual (n + 1) ls (next l i) in
          let cash = transactions (n + 1) ls (next l i) in
          let due = adjustments (n + 1) ls (next l i) in
          sums (moved ((own ++ more) ++ later)) (moved (own ++ cash)) (moved (more ++ due)) (moved own) (moved more)
          (moved later) (moved cash) (moved due)
          (moved_by_both (own ++ more) later ∙ ap (λ z. z +ℤ moved later) (moved_by_both own more)) (rest (n + 1))
          (moved_by_both own cash) (moved_by_both more due)
      go false rest = rest n

-- ---- the days of transactions

added_from : (basis : Basis) (n : ℕ) (r : Request) (i j : Institution)
    → AllByRecursion (IsFrom i.catalogue.day) (added_of basis n r i j)
added_from Cash n r i j = tt
added_from Accrual n r i j = line_from n r i j

pub booked_dated : (basis : Basis) (ls : List Line) (n : ℕ) (i : Institution) → IsTree i.offices
    → AllByRecursion (IsFrom i.catalogue.day) (booked basis n ls i)
booked_dated basis [] n i t = tt
booked_dated basis (l ∷ ls) n i t = go (is_some (change_of_line l i))
    (λ m. later_from i.catalogue.day (next l i).catalogue.day (day_grows l i t) (booked basis m ls (next l i))
    (booked_dated basis ls m (next l i) (IsTree_next l i t)))
  where
    go : (b : Bool) → ((m : ℕ) → AllByRecursion (IsFrom i.catalogue.day) (booked basis m ls (next l i)))
        → AllByRecursion (IsFrom i.catalogue.day) (cond b
        (booked_of basis (n + 1) l.call.request i (next l i) ++ booked basis (n + 1) ls (next l i))
        (booked basis n ls (next l i)))
    go true rest =
        let r = l.call.request in
        let j = next l i in
        all-both (IsFrom i.catalogue.day) (booked_of basis (n + 1) r i j) (booked basis (n + 1) ls j)
        (all-both (IsFrom i.catalogue.day) (transactions_of (n + 1) r i j) (added_of basis (n + 1) r i j)
        (request_from (n + 1) r i j) (added_from basis (n + 1) r i j)) (rest (n + 1))
    go false rest = rest n
