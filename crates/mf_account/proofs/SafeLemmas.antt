-- What is redone over a state that comes to no more than is kept: it can be, and what it leaves is safe where that,
-- too, comes to no more.
use Rattle.std.proofs.Common.{◌≡◌, ℕ, ◌+◌, ◌*◌, ◌^◌, ◌≤◌, List, ◌++◌, length, get_or, take, arith, ◌∙◌, ap, sym, subst}
use Rattle.std.proofs.Common.{length-append}
use Rattle.std.specs.Prelude.{All}
use Rattle.std.proofs.lemmas.List.{get_or-append-add, get_or_default}
use Rattle.std.proofs.lemmas.List.Elements.{All-append}
use Rattle.mf_alloc.specs.declared.row.Cell.{Cell}
use Rattle.mf_alloc.specs.Order.{place_by, due_by}
use Rattle.mf_alloc.specs.OrderLaws.{IsOrder}
use Rattle.mf_alloc.specs.Rows.{IsCell}
use Rattle.mf_account.specs.declared.entry.Entry.{Entry}
use Rattle.mf_account.specs.declared.settled.SettledPart.{SettledPart}
use Rattle.mf_account.specs.Effect.{State}
use Rattle.mf_account.specs.Account.{Orders, orders_by, after_entries, settled_by}
use Rattle.mf_account.specs.Applicable.{AreApplicable, AreInRows}
use Rattle.mf_account.specs.Loan.{DisbursedLoan, IsSoundDisbursed, cells_of}
use Rattle.mf_account.specs.Safe.{most_kept, IsShaped, IsBounded, IsSafe}
use Rattle.mf_account.specs.Standing.{standing_entries, no_entry, entry_at}
use Rattle.mf_account.specs.Told.{settled_amount, IsNumberedTo, AreNumberedTo}
use Rattle.mf_account.proofs.DueLemmas.{due_by-le}
use Rattle.mf_account.proofs.GoodLemmas.{IsReplayable, amounts, applicable-all, good-all}
use Rattle.mf_account.proofs.RewindLemmas.{cells-settled_by}
use Rattle.mf_account.proofs.SoundLemmas.{lawful, All-standing, amounts-most, each-standing, length-standing-le}
use Rattle.mf_account.proofs.ToldLemmas.{IsEntryTo, numbers-settled}

all-behind : {X : Type 0} (P : X → Type 0) (xs ys : List X) → All P (xs ++ ys) → All P ys
all-behind P xs ys all i d below =
    let size = length-append xs ys in
    subst P (get_or-append-add xs ys i d) (all (length xs + i) d (omega (arith, size, below)))

-- the places of the cells at an entry, over any rows
abbrev places_by : DisbursedLoan → State → Entry → Cell → ℕ
places_by loan book e = place_by loan.terms.strategy (due_by e.day book.rows)

lawful-over : (loan : DisbursedLoan) (book : State) → length book.rows ≡ loan.periods → (e : Entry)
    → IsOrder loan.periods (orders_by (cells_of loan) book.rows e) (places_by loan book e)
lawful-over loan book size e =
    let most = due_by-le e.day book.rows in
    lawful loan.terms.strategy loan.periods (due_by e.day book.rows) (omega (arith, most, size))

numbered-standing : (loan : DisbursedLoan) → IsSoundDisbursed loan
    → All (IsEntryTo (length loan.entries)) (standing_entries loan.entries)
numbered-standing loan sound =
    All-standing (IsEntryTo (length loan.entries)) loan.entries
    (λ k default within.
    let same : get_or loan.entries k default ≡ entry_at loan.entries k =
    get_or_default loan.entries k default no_entry within in
    let is = ap (λ (e : Entry). e.seq) same ∙ sound.entries.numbers k within in
    (omega (arith, is), omega (arith, is, within)))

-- what is applied, where new entries stand as old ones up to a place and then as these
module _ (old : DisbursedLoan) (es back applied : List Entry) (k : ℕ) (book : State)
    (sound : IsSoundDisbursed (record old { entries = es })) (stands : standing_entries es
    ≡ take k (standing_entries old.entries) ++ back) (is : applied ≡ back)
    (bounded : IsBounded old.periods (2 * most_kept) book) where
  abbrev new : DisbursedLoan
  new = record old { entries = es }

  abbrev orders : Orders
  orders = orders_by (cells_of old) book.rows

  each : All (IsReplayable old.periods) applied
  each =
      subst (All (IsReplayable old.periods)) (sym is)
      (all-behind (IsReplayable old.periods) (take k (standing_entries old.entries)) back
      (subst (All (IsReplayable old.periods)) stands (each-standing new sound)))

  number : All (IsEntryTo (length es)) applied
  number =
      subst (All (IsEntryTo (length es))) (sym is)
      (all-behind (IsEntryTo (length es)) (take k (standing_entries old.entries)) back
      (subst (All (IsEntryTo (length es))) stands (numbered-standing new sound)))

  few : length applied ≤ 9999
  few =
      let size = ap length stands ∙ length-append (take k (standing_entries old.entries)) back in
      let same = ap length is in
      let most = length-standing-le es in
      omega (arith, size, same, most, sound.entries.few)

  amount : amounts applied ≤ 9999 * 10 ^ 12
  amount = let most = amounts-most old.periods applied each in omega (arith, most, few)

  pub fits-safe : AreApplicable orders applied book
  fits-safe = applicable-all old.periods (2 * most_kept) orders (places_by old book) applied book
      (lawful-over old book bounded.size) each bounded (omega (arith, amount))

  shaped : IsShaped old.periods (after_entries orders applied book)
  shaped =
      let good = good-all old.periods (2 * most_kept) orders (places_by old book) applied book
      (lawful-over old book bounded.size) each bounded in
      record { size = good.size; whole = good.whole; within = good.within }

  pub safe-redone : (next : State) (front parts : List SettledPart) → next ≡ after_entries orders applied book
      → parts ≡ settled_by orders applied book → AreInRows old.periods front → AreNumberedTo (length es) front
      → settled_amount (front ++ parts) ≤ most_kept → ((n : ℕ) → IsShaped n next → IsBounded n most_kept next)
      → IsSafe old.periods (length es) next (front ++ parts)
  safe-redone next front parts next_is parts_is cells numbers most bound = record {
    bounded = bound old.periods (subst (IsShaped old.periods) (sym next_is) shaped);
    placed = record {
      cells = All-append (λ (s : SettledPart). IsCell old.periods s.cell) front parts cells
          (subst (AreInRows old.periods) (sym parts_is)
          (cells-settled_by old.periods orders (places_by old book) applied book (lawful-over old book bounded.size)
          (λ j below. (each j no_entry below).there)
          (record { size = bounded.size; whole = bounded.whole; within = bounded.within })));
      numbers = All-append (IsNumberedTo (length es)) front parts numbers
          (subst (AreNumberedTo (length es)) (sym parts_is) (numbers-settled (length es) orders applied book number));
      amount = most;
    };
  }
