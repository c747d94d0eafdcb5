-- The rows of a sound institution rise by the key of their table.
use Rattle.std.proofs.Common.{◌≡◌, ◌<◌, ◌≤◌, ◌+◌, ℕ, zero, suc, length, Bool, List, [], ◌∷◌, map, Option, None}
use Rattle.std.proofs.Common.{Some, refl, sym, subst, arith, Ordering, Less, nat_cmp}
use Rattle.std.specs.List.{AllByRecursion}
use Rattle.std.specs.Ordering.{ordering_then}
use Rattle.sqlite_keyed.proofs.ListLemmas.{all_of, all-append, all_weaker, ascending-append}
use Rattle.sqlite_trees.specs.Tree.{IsAscending}
use Rattle.mf_office.specs.declared.caller.Caller.{Caller}
use Rattle.mf_account.specs.Change.{settled_in}
use Rattle.mf_account.specs.Loan.{DisbursedLoan, state_of_loan, settled_of_loan}
use Rattle.mf_account.specs.declared.entry.Entry.{Entry}
use Rattle.mf_account.specs.declared.settled.SettledPart.{SettledPart}
use Rattle.mf_alloc.specs.Sums.{Instalment}
use Rattle.mf_model.specs.Accounts.{account_in, of_account}
use Rattle.mf_model.specs.Institution.{Institution, Ledger, Office}
use Rattle.mf_model.specs.Sound.{IsSound, IsSoundOffice, IsSoundLoan, AreEntriesBy, is_staff}
use Rattle.mf_model.specs.Stages.{disbursed_on}
use Rattle.mf_model.specs.Tree.{Above, Ascending, parent_of}
use Rattle.mf_store_schema.specs.Rows.{by_meta, by_office, by_staff, by_client, by_charge, by_product, by_loan}
use Rattle.mf_store_schema.specs.Rows.{by_entry, by_receipt, by_instalment, by_share}
use Rattle.mf_store_schema.specs.declared.offices.OfficeRow.{OfficeRow}
use Rattle.mf_store_schema.proofs.OrderLemmas.{by_receipt_total}
use Rattle.mf_store_values.specs.Flat.{tables_of, office_under, staff_in, client_in, charge_as}
use Rattle.mf_store_values.specs.Flat.{product_as, loan_in, entry_in, instalment_in, share_in, instalments_kept}
use Rattle.mf_store_values.specs.Flat.{placed_parts, parts_from, shares_kept, kept_of, loans_of}
use Rattle.mf_store_values.specs.Flat.{own_entries}
use Rattle.mf_store_values.specs.ReceiptRows.{receipts_carried}
use Rattle.mf_store_values.proofs.ReceiptLemmas.{receipts_apart}
use Rattle.mf_store_values.proofs.SortedLemmas.{first_less, rises_sorted}
use Rattle.mf_store_sound.proofs.HeldLemmas.{AreNumberedFrom, numbers_by_place}
use Rattle.mf_store_sound.proofs.ReceiptLemmas.{no_ties_of}
use Rattle.mf_store_sound.proofs.RisingLemmas.{lower, same_first, numbered_rise, rows_rise, by_loan_rise}
use Rattle.mf_store_sound.proofs.StoredLemmas.{numbered_each}

-- ---- offices

module _ (parents : ℕ → Option ℕ) where
  office_after : (f : Office) (fs : List Office) → Above f.number fs
      → AllByRecursion (λ (r : OfficeRow). by_office (office_under parents f) r ≡ Less) (map (office_under parents) fs)
  office_after f [] h = tt
  office_after f (g ∷ fs) h = (lower f.number g.number h.0, office_after f fs h.1)

  under_rise : (fs : List Office) → Ascending fs → IsAscending (λ a b. by_office a b ≡ Less)
      (map (office_under parents) fs)
  under_rise [] up = tt
  under_rise (f ∷ fs) up = (office_after f fs up.0, under_rise fs up.1)

-- ---- entries

entry_after : (n m : ℕ) (es : List Entry) → n < m → AreNumberedFrom m es
    → AllByRecursion (λ (e : Entry). nat_cmp n e.seq ≡ Less) es
entry_after n m [] lt own = tt
entry_after n m (e ∷ es) lt own = (
  let number = own.0 in lower n e.seq (omega (arith, number, lt)),
  entry_after n (m + 1) es (omega (arith, lt)) own.1,
)

entries_up : (n : ℕ) (es : List Entry) → AreNumberedFrom n es → IsAscending (λ (a b : Entry). nat_cmp a.seq b.seq
    ≡ Less) es
entries_up n [] own = tt
entries_up n (e ∷ es) own = (
  let number = own.0 in entry_after e.seq (n + 1) es (omega (arith, number)) own.1,
  entries_up (n + 1) es own.1,
)

entries_by : (today : ℕ) (staffed : Caller → Bool) (periods : ℕ) (o : Option ℕ) (es : List Entry)
    → AreEntriesBy today staffed periods o es → IsAscending (λ (a b : Entry). nat_cmp a.seq b.seq ≡ Less) es
entries_by today staffed periods None es none =
    subst (IsAscending (λ (a b : Entry). nat_cmp a.seq b.seq ≡ Less)) (sym none) tt
entries_by today staffed periods (Some day) es are = entries_up 1 es (numbers_by_place 1 es are.lawful.numbers)

-- ---- what accounts leave

of_all_loans : (Q : Ledger → Type 0) → ((l : Ledger) → Q l) → (fs : List Office)
    → AllByRecursion (λ (f : Office). AllByRecursion Q f.rows.loans) fs
of_all_loans Q h fs = all_of (λ (f : Office). AllByRecursion Q f.rows.loans) (λ f. all_of Q h f.rows.loans) fs

rises_if_there : {A : Type 0} (cmp : A → A → Ordering) (read : DisbursedLoan → List A)
    → ((a : DisbursedLoan) → IsAscending (λ x y. cmp x y ≡ Less) (read a)) → (o : Option DisbursedLoan)
    → IsAscending (λ x y. cmp x y ≡ Less) (of_account [] read o)
rises_if_there cmp read h None = tt
rises_if_there cmp read h (Some a) = h a

abbrev numbered_cmp : ℕ × Instalment → ℕ × Instalment → Ordering
numbered_cmp a b = nat_cmp a.0 b.0

kept_instalments_rise : (a : DisbursedLoan) → IsAscending (λ x y. numbered_cmp x y ≡ Less) (instalments_kept a)
kept_instalments_rise a = numbered_rise (λ n row. (n, row)) numbered_cmp (λ n m x y. refl) 1 (state_of_loan a).rows

-- by entry, and then by place
abbrev placed_cmp : ℕ × (ℕ × SettledPart) → ℕ × (ℕ × SettledPart) → Ordering
placed_cmp a b = ordering_then (nat_cmp a.0 b.0) (nat_cmp a.1.0 b.1.0)

all_parts : (Q : ℕ × (ℕ × SettledPart) → Type 0) (parts : ℕ → List SettledPart) (seq count : ℕ)
    → ((s : ℕ) (p : ℕ × SettledPart)
    → seq ≤ s → Q (s, p)) → AllByRecursion Q (parts_from parts seq count)
all_parts Q parts seq zero h = tt
all_parts Q parts seq (suc count) h =
    all-append Q (placed_parts seq (parts seq)) (parts_from parts (seq + 1) count)
    (numbered_each (λ at part. (seq, (at, part))) Q 1 (parts seq) (λ at part later. h seq (at, part) (omega arith)))
    (all_parts Q parts (seq + 1) count (λ s p low. h s p (omega (arith, low))))

parts_rise : (parts : ℕ → List SettledPart) (seq count : ℕ) → IsAscending (λ x y. placed_cmp x y ≡ Less)
    (parts_from parts seq count)
parts_rise parts seq zero = tt
parts_rise parts seq (suc count) =
    let rest = parts_from parts (seq + 1) count in
    ascending-append (λ x y. placed_cmp x y ≡ Less) (placed_parts seq (parts seq)) rest
    (numbered_rise (λ at part. (seq, (at, part))) placed_cmp (λ n m x y. same_first seq (nat_cmp n m)) 1 (parts seq))
    (parts_rise parts (seq + 1) count)
    (numbered_each (λ at part. (seq, (at, part))) (λ x. AllByRecursion (λ y. placed_cmp x y ≡ Less) rest) 1 (parts seq)
    (λ at part later. all_parts (λ y. placed_cmp (seq, (at, part)) y ≡ Less) parts (seq + 1) count (λ s q low.
    first_less seq s (nat_cmp at q.0) (omega (arith, low)))))

kept_shares_rise : (a : DisbursedLoan) → IsAscending (λ x y. placed_cmp x y ≡ Less) (shares_kept a)
kept_shares_rise a = parts_rise (λ seq. settled_in seq (settled_of_loan a)) 1 (length a.entries)

-- ---- the tables

pub meta_rises : (i : Institution) → IsSound i → IsAscending (λ a b. by_meta a b ≡ Less) (tables_of i).meta
meta_rises i sound = (tt, tt)

pub offices_rise : (i : Institution) → IsSound i → IsAscending (λ a b. by_office a b ≡ Less) (tables_of i).offices
offices_rise i sound = under_rise (parent_of i.offices) i.offices sound.tree.ascending

pub staff_rise : (i : Institution) → IsSound i → IsAscending (λ a b. by_staff a b ≡ Less) (tables_of i).staff
staff_rise i sound =
    rows_rise staff_in (λ rows. rows.staff) by_staff (λ x n y m a b. refl) i.offices sound.tree.ascending

pub clients_rise : (i : Institution) → IsSound i → IsAscending (λ a b. by_client a b ≡ Less) (tables_of i).clients
clients_rise i sound = rows_rise client_in (λ rows. rows.clients) by_client (λ x n y m a b. refl) i.offices
    sound.tree.ascending

pub charges_rise : (i : Institution) → IsSound i → IsAscending (λ a b. by_charge a b ≡ Less) (tables_of i).charges
charges_rise i sound = numbered_rise charge_as by_charge (λ n m a b. refl) 1 i.catalogue.charges

pub products_rise : (i : Institution) → IsSound i → IsAscending (λ a b. by_product a b ≡ Less) (tables_of i).products
products_rise i sound = numbered_rise product_as by_product (λ n m a b. refl) 1 i.catalogue.products

pub loans_rise : (i : Institution) → IsSound i → IsAscending (λ a b. by_loan a b ≡ Less) (tables_of i).loans
loans_rise i sound = rows_rise loan_in loans_of by_loan (λ x n y m a b. refl) i.offices sound.tree.ascending

pub entries_rise : (i : Institution) → IsSound i → IsAscending (λ a b. by_entry a b ≡ Less) (tables_of i).entries
entries_rise i sound =
    let staffed = is_staff i.offices in
    let k = i.catalogue in
    by_loan_rise entry_in own_entries by_entry (λ (a b : Entry). nat_cmp a.seq b.seq) (λ x n y m a b. refl) i.offices
    sound.tree.ascending
    (all_weaker (IsSoundOffice k staffed)
    (λ (f : Office). AllByRecursion (λ (l : Ledger). IsAscending (λ (a b : Entry). nat_cmp a.seq b.seq ≡ Less)
    l.entries) f.rows.loans) (λ f is. all_weaker (IsSoundLoan k staffed f.rows.clients)
    (λ (l : Ledger). IsAscending (λ (a b : Entry). nat_cmp a.seq b.seq ≡ Less) l.entries)
    (λ l one. entries_by k.day staffed l.loan.periods (disbursed_on l.loan.stage) l.entries one.entries)
    f.rows.loans is.rows.loans) i.offices sound.each)

pub receipts_rise : (i : Institution) → IsSound i → IsAscending (λ a b. by_receipt a b ≡ Less) (tables_of i).receipts
receipts_rise i sound = rises_sorted by_receipt by_receipt_total (receipts_carried i.offices)
    (no_ties_of i.offices sound.tree.ascending (receipts_apart i sound))

pub instalments_rise : (i : Institution) → IsSound i → IsAscending (λ a b. by_instalment a b ≡ Less)
    (tables_of i).instalments
instalments_rise i sound =
    by_loan_rise instalment_in (kept_of instalments_kept i.catalogue) by_instalment numbered_cmp (λ x n y m a b. refl)
    i.offices sound.tree.ascending
    (of_all_loans (λ (l : Ledger). IsAscending (λ a b. numbered_cmp a b ≡ Less)
    (kept_of instalments_kept i.catalogue l)) (λ l. rises_if_there numbered_cmp instalments_kept
    kept_instalments_rise (account_in i.catalogue l)) i.offices)

pub shares_rise : (i : Institution) → IsSound i → IsAscending (λ a b. by_share a b ≡ Less) (tables_of i).shares
shares_rise i sound =
    by_loan_rise share_in (kept_of shares_kept i.catalogue) by_share placed_cmp (λ x n y m a b. refl) i.offices
    sound.tree.ascending
    (of_all_loans (λ (l : Ledger). IsAscending (λ a b. placed_cmp a b ≡ Less) (kept_of shares_kept i.catalogue l))
    (λ l. rises_if_there placed_cmp shares_kept kept_shares_rise (account_in i.catalogue l)) i.offices)
