-- The entry that carries a receipt: it is found by the loan and the number that the receipt's row tells.
use Rattle.std.proofs.Common.{◌≡◌, ◌+◌, ℕ, zero, suc, List, [], ◌∷◌, map, find, slice_get, Option, None}
use Rattle.std.proofs.Common.{Some, refl, sym, ap, ◌∙◌, arith}
use Rattle.std.specs.List.{AllByRecursion}
use Rattle.std.specs.Str.{bytes_eq}
use Rattle.std.proofs.lemmas.Bool.Decides.{nat_tests}
use Rattle.std.proofs.lemmas.Option.{get_or_from_slice_get, slice_get_within}
use Rattle.sqlite_keyed.proofs.ListLemmas.{all-append, all_weaker}
use Rattle.mf_account.specs.declared.entry.Entry.{Entry}
use Rattle.mf_model.specs.Institution.{Institution, Ledger, item_numbered}
use Rattle.mf_model.specs.Receipts.{Use, use_by, use_of, uses_in, uses_from}
use Rattle.mf_model.specs.Sound.{IsSound}
use Rattle.mf_model.specs.Store.{rows_at, use_at}
use Rattle.mf_store_schema.specs.Rows.{is_row_of_entry}
use Rattle.mf_store_values.specs.Flat.{entry_in, tables_of}
use Rattle.mf_store_commits.proofs.EnteredLemmas.{loan_numbered}
use Rattle.mf_store_commits.proofs.EntryLemmas.{AreNumbered, later_numbered, has_seq, entry_by_number}
use Rattle.mf_store.proofs.CatalogueLemmas.{found_all, some_is}
use Rattle.mf_store.proofs.LoanLemmas.{IsLoanOf, counted, counted_there}

-- ---- an entry by its number

found_at : (x n m k : ℕ) (es : List Entry) (e : Entry) → AreNumbered m es → slice_get es k ≡ Some e
    → find (has_seq e.seq) (map (entry_in x n) es) ≡ Some (entry_in x n e)
found_at x n m k es e are at = go m k es are at (ap (λ (d : Entry). d.seq) (sym (get_or_from_slice_get es k e _ at))
    ∙ are k (slice_get_within es k e at))
  where
    go : (m k : ℕ) (es : List Entry) → AreNumbered m es → slice_get es k ≡ Some e → e.seq ≡ m + k + 1
        → find (has_seq e.seq) (map (entry_in x n) es) ≡ Some (entry_in x n e)
    go m k [] are at is = absurd (let never : None ≡ Some e = at in cc)
    go m zero (d ∷ es) are at is =
        let first : d.seq ≡ m + 0 + 1 = are 0 (omega arith) in
        let same : e ≡ d = some_is at in
        grind (arith, nat_tests, first, is, same)
    go m (suc k) (d ∷ es) are at is =
        let first : d.seq ≡ m + 0 + 1 = are 0 (omega arith) in
        let more = go (m + 1) k es (later_numbered m d es are) at (omega (arith, is)) in
        grind (arith, nat_tests, first, is, more)

-- ---- the uses of receipts

-- what holds of each entry's holds of all
uses_of_loan : (P : Use → Type 0) (n : ℕ) (es : List Entry) → ((k : ℕ) (e : Entry) (r : List ℕ)
    → slice_get es k ≡ Some e → P (record { receipt = r; by = use_by n e })) → AllByRecursion P (uses_in n es)
uses_of_loan P n [] each = tt
uses_of_loan P n (e ∷ es) each = all-append P (use_of e.receipt n e) (uses_in n es) (own e.receipt)
    (uses_of_loan P n es (λ k. each (suc k)))
  where
    own : (o : Option (List ℕ)) → AllByRecursion P (use_of o n e)
    own None = tt
    own (Some r) = (each 0 e r refl, tt)

uses_of_loans : (P : Use → Type 0) (m : ℕ) (ls : List Ledger) → AllByRecursion (λ (l : ℕ × Ledger). AllByRecursion P
    (uses_in l.0 l.1.entries)) (counted m ls) → AllByRecursion P (uses_from m ls)
uses_of_loans P m [] all = tt
uses_of_loans P m (l ∷ ls) all = all-append P (uses_in m l.entries) (uses_from (m + 1) ls) all.0
    (uses_of_loans P (m + 1) ls all.1)

-- the entry, and the row that is found under its key
pub record IsCarrier (x : ℕ) (i : Institution) (u : Use) : Type 0 where
  pub entry : Entry
  pub row_is : find (is_row_of_entry x u.by.loan u.by.seq) (tables_of i).entries ≡ Some (entry_in x u.by.loan entry)
  pub by_is : u.by ≡ use_by u.by.loan entry

pub carrier : (x : ℕ) (r : List ℕ) (u : Use) (i : Institution) → IsSound i → use_at x r i ≡ Some u → IsCarrier x i u
carrier x r u i sound at = found_all (IsCarrier x i) (λ (v : Use). bytes_eq v.receipt r) (uses_from 1 ls) u at
    (uses_of_loans (IsCarrier x i) 1 ls (all_weaker (IsLoanOf x i) (λ l. AllByRecursion (IsCarrier x i)
    (uses_in l.0 l.1.entries)) (λ l there. uses_of_loan (IsCarrier x i) l.0 l.1.entries (own l.0 l.1 there))
    (counted 1 ls) (counted_there x i)))
  where
    ls : List Ledger
    ls = (rows_at x i).loans

    own : (n : ℕ) (l : Ledger) → item_numbered ls n ≡ Some l → (k : ℕ) (e : Entry) (t : List ℕ)
        → slice_get l.entries k ≡ Some e → IsCarrier x i (record { receipt = t; by = use_by n e })
    own n l there k e t at = record {
      entry = e;
      row_is = entry_by_number x n e.seq l i sound there ∙ found_at x n 0 k l.entries e
          (loan_numbered (record { office = x; number = n }) l i sound there) at;
      by_is = refl;
    }
