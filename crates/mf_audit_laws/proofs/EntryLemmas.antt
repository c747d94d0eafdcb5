-- Rows of entries that keep all conditions.
use Rattle.std.proofs.Common.{◌≡◌, ◌≢◌, ◌<◌, ◌≤◌, ◌^◌, ℕ, true, List, []}
use Rattle.std.proofs.Common.{◌∷◌, Option, Some, None, refl, sym, arith, Ordering, Less, true≢false}
use Rattle.std.specs.Prelude.{IfSome}
use Rattle.std.specs.Cmp.{IsTotalOrder}
use Rattle.std.specs.List.{AllByRecursion, list_any}
use Rattle.sqlite_keyed.proofs.ListLemmas.{all_weaker}
use Rattle.sqlite_trees.specs.Tree.{IsAscending}
use Rattle.mf_office.specs.Texts.{IsCaller, caller_of}
use Rattle.mf_office.specs.declared.caller.Caller.{Caller}
use Rattle.mf_office.proofs.ReadLemmas.{caller_exact}
use Rattle.mf_alloc.specs.declared.row.Portion.{Portion}
use Rattle.mf_alloc.specs.declared.row.Portion.TheVariants as portion
use Rattle.mf_account.specs.Loan.{HasColumns}
use Rattle.mf_account.specs.Receipts.{IsReceipt}
use Rattle.mf_account.specs.declared.entry.Entry.{Entry}
use Rattle.mf_account.specs.declared.entry.Kind.{Kind}
use Rattle.mf_account.specs.declared.entry.Kind.TheVariants.{Repay, Fee, Penalty, Waive, WriteOff, Refund}
use Rattle.mf_store_schema.specs.Rows.{by_entry}
use Rattle.mf_store_schema.specs.declared.entries.EntryRow.{EntryRow}
use Rattle.mf_store_schema.specs.declared.loans.LoanRow.{LoanRow}
use Rattle.mf_store_schema.specs.declared.receipts.ReceiptRow.{ReceiptRow}
use Rattle.mf_store_schema.specs.declared.staff.StaffRow.{StaffRow}
use Rattle.mf_store_values.specs.Flat.{entry_in}
use Rattle.mf_store_values.specs.Ledgers.{IsReadable}
use Rattle.mf_store_values.specs.ReceiptRows.{receipt_of}
use Rattle.mf_store_audit.specs.Entries.{is_own_loan, is_staff_named, AreListed, BreaksEntry, HasWrongColumns, IsEarly}
use Rattle.mf_store_audit.specs.Entries.{IsNotLast, OnLoan}
use Rattle.mf_store_audit.specs.Kinds.{entry_flaws}
use Rattle.mf_store_audit.specs.Places.{IsAfter}
use Rattle.mf_audit_laws.proofs.FoundLemmas.{Keeps}
use Rattle.mf_audit_laws.proofs.NextLemmas.{AreStartedThere, IsNumberedThere, is_after, threes_start}
use Rattle.mf_audit_laws.proofs.WalkLemmas.{Walk, all_stand, no_greater, passes, same_number, walk_each, walk_weaker}

-- ---- what can't fail of the columns of an entry

stands : (a b : ℕ) → ¬ ¬ (a ≤ b) → a ≤ b
stands a b h = no_greater a b (λ less. h (λ le. let low : b < a = less in omega (arith, le)))

same_portion : (p q : Portion) → ¬ (p ≢ q) → p ≡ q
same_portion portion.Penalty portion.Penalty h = refl
same_portion portion.Fee portion.Fee h = refl
same_portion portion.Interest portion.Interest h = refl
same_portion portion.Principal portion.Principal h = refl
same_portion p q h = absurd (h (λ same. cc))

no_receipt : (o : Option (List ℕ)) → ¬ (o ≢ None) → o ≡ None
no_receipt None h = refl
no_receipt (Some receipt) h = absurd (h (λ same. cc))

pub columns_stand : (kind : Kind) (n : ℕ) (e : Entry) → ¬ ¬ HasColumns kind n e → HasColumns kind n e
columns_stand Repay n e h = (
  stands 1 e.amount (λ fails. h (λ has. fails has.0)),
  stands e.amount (10 ^ 12) (λ fails. h (λ has. fails has.1)),
  same_number e.instalment 0 (λ fails. h (λ has. fails has.2)),
  same_portion e.portion portion.Principal (λ fails. h (λ has. fails has.3)),
)
columns_stand Fee n e h = (
  stands 1 e.amount (λ fails. h (λ has. fails has.0)),
  stands e.amount (10 ^ 12) (λ fails. h (λ has. fails has.1)),
  stands 1 e.instalment (λ fails. h (λ has. fails has.2)),
  stands e.instalment n (λ fails. h (λ has. fails has.3)),
  same_portion e.portion portion.Fee (λ fails. h (λ has. fails has.4)),
  no_receipt e.receipt (λ fails. h (λ has. fails has.5)),
)
columns_stand Penalty n e h = (
  stands 1 e.amount (λ fails. h (λ has. fails has.0)),
  stands e.amount (10 ^ 12) (λ fails. h (λ has. fails has.1)),
  stands 1 e.instalment (λ fails. h (λ has. fails has.2)),
  stands e.instalment n (λ fails. h (λ has. fails has.3)),
  same_portion e.portion portion.Penalty (λ fails. h (λ has. fails has.4)),
  no_receipt e.receipt (λ fails. h (λ has. fails has.5)),
)
columns_stand Waive n e h = (
  same_number e.amount 0 (λ fails. h (λ has. fails has.0)),
  stands 1 e.instalment (λ fails. h (λ has. fails has.1)),
  stands e.instalment n (λ fails. h (λ has. fails has.2)),
  λ same. h (λ has. has.3 same),
  no_receipt e.receipt (λ fails. h (λ has. fails has.4)),
)
columns_stand WriteOff n e h = (
  same_number e.amount 0 (λ fails. h (λ has. fails has.0)),
  same_number e.instalment 0 (λ fails. h (λ has. fails has.1)),
  same_portion e.portion portion.Principal (λ fails. h (λ has. fails has.2)),
  no_receipt e.receipt (λ fails. h (λ has. fails has.3)),
)
columns_stand Refund n e h = (
  same_number e.amount 0 (λ fails. h (λ has. fails has.0)),
  same_number e.instalment 0 (λ fails. h (λ has. fails has.1)),
  same_portion e.portion portion.Principal (λ fails. h (λ has. fails has.2)),
  no_receipt e.receipt (λ fails. h (λ has. fails has.3)),
)

-- ---- one row

-- the row is that of an entry that was entered by today, by somebody who is there; and what it keeps beside others
pub record IsEntered (today : ℕ) (loans : List LoanRow) (staff : List StaffRow) (receipts : List ReceiptRow)
    (entries : List EntryRow) (row : EntryRow) : Type 0 where
  pub entry : Entry
  pub readable : IsReadable entry
  pub row_is : entry_in row.office row.loan entry ≡ row
  pub entered : entry.day ≤ today
  pub receipt : IfSome entry.receipt IsReceipt
  pub within : row.seq ≤ 9999
  pub lent : list_any (is_own_loan row) loans ≡ true
  pub disbursed : ¬ OnLoan loans row (λ l. l.disbursed ≡ None)
  pub on_time : ¬ OnLoan loans row (IsEarly row)
  pub columns : ¬ OnLoan loans row (λ l. HasWrongColumns row l.periods)
  pub last : ¬ IsNotLast entries row
  pub named : is_staff_named staff (Some entry.staff) ≡ true
  pub names : caller_of row.staff ≡ Some entry.staff
  pub listed : AreListed receipts (receipt_of row row.receipt)

-- the caller that is named and there
named_caller : (staff : List StaffRow) (o : Option Caller) → is_staff_named staff o ≡ true
    → (c : Caller) × (o ≡ Some c) × (is_staff_named staff (Some c) ≡ true)
named_caller staff None is = absurd (true≢false (sym is))
named_caller staff (Some c) is = (c, refl, is)

entry_is : (today : ℕ) (loans : List LoanRow) (staff : List StaffRow) (receipts : List ReceiptRow)
    (entries : List EntryRow) → ((c : Caller) → is_staff_named staff (Some c) ≡ true → IsCaller c)
    → (before : Option EntryRow) (row : EntryRow)
    → Keeps entry_flaws (BreaksEntry today loans staff receipts entries) before row
    → ¬ ¬ IsEntered today loans staff receipts entries row
entry_is today loans staff receipts entries in_range before row keeps fails =
    let from_loan = keeps.1 in
    let from_undisbursed = from_loan.1 in
    let from_number = from_undisbursed.1 in
    let from_limit = from_number.1 in
    let from_kind = from_limit.1 in
    let from_day = from_kind.1 in
    let from_early = from_day.1 in
    let from_late = from_early.1 in
    let from_amount = from_late.1 in
    let from_portion = from_amount.1 in
    let from_reversed = from_portion.1 in
    let from_columns = from_reversed.1 in
    let from_receipt = from_columns.1 in
    let from_seal = from_receipt.1 in
    let from_staff = from_seal.1 in
    let from_unlisted = from_staff.1 in
    let who = named_caller staff (caller_of row.staff)
    (passes (is_staff_named staff (caller_of row.staff)) from_staff.0) in
    let range = in_range who.0 who.2 in
    let text = (caller_exact row.staff (caller_of row.staff) refl who.0 range).0 who.1 in
    from_kind.0 (λ k is_kind. from_day.0 (λ d on_day is_day. from_amount.0 (λ a is_amount.
    from_portion.0 (λ p is_portion. from_reversed.0 (λ flag is_flag. from_receipt.0 (λ right.
    from_unlisted.0 (λ listed. fails (record {
      entry = record {
        seq = row.seq;
        kind = k;
        day = d;
        amount = a;
        instalment = row.instalment;
        portion = p;
        receipt = row.receipt;
        staff = who.0;
        reversed = flag;
      };
      readable = (on_day, range);
      row_is = λ t. record row {
        kind = is_kind t;
        day = is_day t;
        amount = is_amount t;
        portion = is_portion t;
        staff = sym text t;
        reversed = is_flag t;
      };
      entered = no_greater d today (λ less. from_late.0 (d, on_day, is_day, less));
      receipt = right;
      within = no_greater row.seq 9999 from_limit.0;
      lent = passes (list_any (is_own_loan row) loans) from_loan.0;
      disbursed = from_undisbursed.0;
      on_time = from_early.0;
      columns = from_columns.0;
      last = from_seal.0;
      named = who.2;
      names = who.1;
      listed = listed;
    }))))))))

-- ---- all rows

-- rows of entries, office by office and loan by loan
pub record AreEntryRows (today : ℕ) (loans : List LoanRow) (staff : List StaffRow) (receipts : List ReceiptRow)
    (rows : List EntryRow) : Type 0 where
  pub starts : AreStartedThere (λ (e : EntryRow). e.office) (λ e. e.loan) (λ e. e.seq) rows
  pub rise : IsAscending (λ a b. by_entry a b ≡ Less) rows
  pub each : AllByRecursion (IsEntered today loans staff receipts rows) rows

-- rows that come one after another rise
module _ {R : Type 0} (cmp : R → R → Ordering) (total : IsTotalOrder cmp) where
  rise_behind : (before : R) (rows : List R) → Walk (IsAfter cmp) (Some before) rows
      → AllByRecursion (λ r. cmp before r ≡ Less) rows × IsAscending (λ a b. cmp a b ≡ Less) rows
  rise_behind before [] walk = (tt, tt)
  rise_behind before (r ∷ rs) walk =
      let more = rise_behind r rs walk.1 in (
        (
          walk.0,
          all_weaker (λ q. cmp r q ≡ Less) (λ q. cmp before q ≡ Less)
              (λ q less. total.trans before r q walk.0 less) rs more.0,
        ),
        more,
      )

  pub rise : (rows : List R) → Walk (IsAfter cmp) None rows → IsAscending (λ a b. cmp a b ≡ Less) rows
  rise [] walk = tt
  rise (r ∷ rs) walk = rise_behind r rs walk.1

pub entries_are : (today : ℕ) (loans : List LoanRow) (staff : List StaffRow) (receipts : List ReceiptRow)
    (rows : List EntryRow) → IsTotalOrder by_entry
    → ((c : Caller) → is_staff_named staff (Some c) ≡ true → IsCaller c)
    → Walk (Keeps entry_flaws (BreaksEntry today loans staff receipts rows)) None rows
    → ¬ ¬ AreEntryRows today loans staff receipts rows
entries_are today loans staff receipts rows total in_range walk fails =
    all_stand (IsEntered today loans staff receipts rows) rows
    (walk_each (Keeps entry_flaws (BreaksEntry today loans staff receipts rows)) _
    (entry_is today loans staff receipts rows in_range) None rows walk)
    (λ each. fails (record {
      starts = threes_start (λ (e : EntryRow). e.office) (λ e. e.loan) (λ e. e.seq) rows
          (walk_weaker (Keeps entry_flaws (BreaksEntry today loans staff receipts rows))
          (IsNumberedThere (λ (e : EntryRow). e.office) (λ e. e.loan) (λ e. e.seq))
          (λ b r keeps. (is_after by_entry b r keeps.0, same_number r.seq _ keeps.1.1.1.0)) None rows walk);
      rise = rise by_entry total rows (walk_weaker (Keeps entry_flaws (BreaksEntry today loans staff receipts rows))
          (IsAfter by_entry) (λ b r keeps. is_after by_entry b r keeps.0) None rows walk);
      each = each;
    }))
