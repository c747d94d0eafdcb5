-- Sums of one loan more, and of one office more.
use Rattle.std.proofs.Common.{◌≡◌, ◌+◌, ◌<◌, ◌∙◌, ◌==◌, ℕ, Bool, true, false, cond, not, List, [], ◌∷◌, length, get_or}
use Rattle.std.proofs.Common.{take, refl, sym, arith}
use Rattle.std.specs.Prelude.{sum, sum_by, filter, slice_index}
use Rattle.std.specs.List.{AllByRecursion}
use Rattle.std.proofs.lemmas.List.Sums.{sum_by-cons, sum_by_more}
use Rattle.mf_account.specs.Balance.{sum_repaid}
use Rattle.mf_account.specs.declared.entry.Entry.{Entry}
use Rattle.mf_model.specs.Accounts.{status_in, balances_in}
use Rattle.mf_model.specs.Institution.{Catalogue, Ledger}
use Rattle.mf_store_audit.specs.declared.totals.OfficeSums.{OfficeSums}
use Rattle.mf_store_audit.specs.declared.totals.Sums.{Sums}
use Rattle.mf_store_audit.specs.Sums.{loans_of_status, lent_on, sums_by_loan, added, sums_made, sums_of_all}

module _ {X : Type 0} where
  sum_more : (f : X → ℕ) (s : ℕ) (x : X) (xs : List X) → s + sum_by f (x ∷ []) + sum_by f xs ≡ s + sum_by f (x ∷ xs)
  sum_more f s x xs =
      let one = sum_by-cons f x [] in
      let all = sum_by-cons f x xs in
      omega (arith, one, all)

  count_more : (p : X → Bool) (s : ℕ) (x : X) (xs : List X) → s + length (filter p (x ∷ [])) + length (filter p xs) ≡ s
      + length (filter p (x ∷ xs))
  count_more p s x xs = go (p x)
    where
      go : (b : Bool) → s + length (cond b (x ∷ []) []) + length (filter p xs) ≡ s + length (cond b (x ∷ filter p xs)
          (filter p xs))
      go true = omega arith
      go false = omega arith

  -- a sum over one
  pub alone : (f : X → ℕ) (x : X) (n : ℕ) → f x ≡ n → n ≡ sum_by f (x ∷ [])
  alone f x n e = omega (arith, e)

  -- what is three parts of each is three parts of all
  pub in_three : (f g h q : X → ℕ) (xs : List X) → AllByRecursion (λ x. f x ≡ g x + h x + q x) xs
      → sum_by f xs ≡ sum_by g xs + sum_by h xs + sum_by q xs
  in_three f g h q [] all = refl
  in_three f g h q (x ∷ xs) all =
      let first = all.0 in
      let rest = in_three f g h q xs all.1 in
      let a = sum_by-cons f x xs in
      let b = sum_by-cons g x xs in
      let c = sum_by-cons h x xs in
      let d = sum_by-cons q x xs in
      omega (arith, first, rest, a, b, c, d)

and_none : (n : ℕ) → n + 0 ≡ n
and_none n = omega arith

none_and : (n : ℕ) → 0 + n ≡ n
none_and n = omega arith

-- ---- loans

pub more_added : (k : Catalogue) (s : Sums) (l : Ledger) (ls : List Ledger)
    → added (added s (sums_by_loan k 0 (l ∷ []))) (sums_by_loan k 0 ls) ≡ added s (sums_by_loan k 0 (l ∷ ls))
more_added k s l ls =
    let at : (status n : ℕ) → n + loans_of_status k (l ∷ []) status + loans_of_status k ls status
    ≡ n + loans_of_status k (l ∷ ls) status =
    λ status n. count_more (λ (m : Ledger). status_in k m == status) n l ls in
    let by : (f : Ledger → ℕ) (n : ℕ) → n + sum_by f (l ∷ []) + sum_by f ls ≡ n + sum_by f (l ∷ ls) =
    λ f n. sum_more f n l ls in
    λ t. record {
      clients = and_none (s.clients + 0) t;
      loans = record {
        submitted = at 100 s.loans.submitted t;
        approved = at 200 s.loans.approved t;
        active = at 300 s.loans.active t;
        withdrawn = at 400 s.loans.withdrawn t;
        rejected = at 500 s.loans.rejected t;
        closed = at 600 s.loans.closed t;
        written_off = at 601 s.loans.written_off t;
        overpaid = at 700 s.loans.overpaid t;
      };
      entries = record {
        standing = by (λ (m : Ledger). length (filter (λ (e : Entry). not e.reversed) m.entries)) s.entries.standing t;
        reversed = by (λ (m : Ledger). length (filter (λ (e : Entry). e.reversed) m.entries)) s.entries.reversed t;
      };
      principal = record {
        disbursed = by (lent_on k) s.principal.disbursed t;
        paid = by (λ (m : Ledger). slice_index (balances_in k m).paid 3) s.principal.paid t;
        written_off = by (λ (m : Ledger). slice_index (balances_in k m).written_off 3) s.principal.written_off t;
        outstanding = by (λ (m : Ledger). slice_index (balances_in k m).outstanding 3) s.principal.outstanding t;
      };
      money = record {
        repaid = by (λ (m : Ledger). sum_repaid m.entries) s.money.repaid t;
        paid = by (λ (m : Ledger). sum (balances_in k m).paid) s.money.paid t;
        overpaid = by (λ (m : Ledger). (balances_in k m).overpaid) s.money.overpaid t;
        refunded = by (λ (m : Ledger). (balances_in k m).refunded) s.money.refunded t;
      };
    }

-- no loan changes nothing
pub none_added : (k : Catalogue) (s : Sums) → added s (sums_by_loan k 0 []) ≡ s
none_added k s = λ t. sums_made (λ read. and_none (read s) t)

-- sums of so many clients, with loans added
first_added : (clients : ℕ) (s : Sums) → added (record (sums_of_all []) { clients = clients }) s
    ≡ record s { clients = clients + s.clients }
first_added clients s = λ t. record (sums_made (λ read. none_and (read s) t)) { clients = clients + s.clients }

pub clients_first : (k : Catalogue) (clients : ℕ) (ls : List Ledger)
    → added (record (sums_of_all []) { clients = clients }) (sums_by_loan k 0 ls) ≡ sums_by_loan k clients ls
clients_first k clients ls = first_added clients (sums_by_loan k 0 ls) ∙ (λ t. sums_by_loan k (and_none clients t) ls)

-- ---- offices

pub office_added : (os : List OfficeSums) (i : ℕ) (d : OfficeSums) → i < length os → added (sums_of_all (take i os))
    (get_or os i d).sums ≡ sums_of_all (take (i + 1) os)
office_added os i d low = λ t. sums_made (λ read. sym (sum_by_more (λ (o : OfficeSums). read o.sums) os i d low) t)
