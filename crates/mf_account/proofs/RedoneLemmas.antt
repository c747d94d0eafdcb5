-- An account with an entry more, or with one reversed: what stood before the place is as it was, and what then stands
-- is applied from there.
use Rattle.std.proofs.Common.{◌≡◌, ℕ, zero, suc, ◌+◌, ◌-◌, ◌<◌, ◌≤◌, true, false, List, [], ◌∷◌, ◌++◌, length, get_or}
use Rattle.std.proofs.Common.{take, drop, arith, refl, ◌∙◌, ap, sym, subst, add-one, inl, inr}
use Rattle.std.specs.Prelude.{fold, insert, remove, All}
use Rattle.std.specs.List.{Contains}
use Rattle.std.proofs.lemmas.Bool.{cases_lt, cond-false}
use Rattle.std.proofs.lemmas.List.{take_rest, drop-map, length-map, get_or-map, get_or_default, take-append-drop}
use Rattle.std.proofs.lemmas.List.Elements.{All-take, All-drop}
use Rattle.mf_catalog.specs.declared.terms.StrategyName.{StrategyName}
use Rattle.mf_alloc.specs.declared.row.Cell.{Cell}
use Rattle.mf_alloc.specs.Order.{cell_by}
use Rattle.mf_account.specs.declared.entry.Entry.{Entry}
use Rattle.mf_account.specs.declared.settled.SettledPart.{SettledPart}
use Rattle.mf_account.specs.Effect.{State}
use Rattle.mf_account.specs.Account.{Orders, orders_by, after_entries, settled_by, first_state}
use Rattle.mf_account.specs.Applicable.{AreApplicable}
use Rattle.mf_account.specs.Standing.{order_with, with_entry, standing_entries, no_entry, entry_at, entries_at}
use Rattle.mf_account.specs.Standing.{with_mark}
use Rattle.mf_account.specs.StandingLaw.{IsStandingOf}
use Rattle.mf_account.specs.Loan.{DisbursedLoan, AreEntries, IsSoundDisbursed, cells_of, orders_of, schedule_of}
use Rattle.mf_account.specs.Loan.{state_of_loan}
use Rattle.mf_account.specs.Loan.{settled_of_loan}
use Rattle.mf_account.specs.Change.{ChangedNumbers, AreThose, AreAll, HasOtherRow, HasOtherParts, IsChange, settled_in}
use Rattle.mf_account.specs.Rewind.{IsRedone, state_before, settled_upto}
use Rattle.mf_account.proofs.DueLemmas.{dues-after_all, orders-same}
use Rattle.mf_account.proofs.TailLemmas.{after_all-append, settled_by-append, among-index, at-among}
use Rattle.mf_account.proofs.TailLemmas.{standing-at}
use Rattle.mf_account.proofs.RewindLemmas.{numbers-apart}
use Rattle.mf_account.proofs.ChangeLemmas.{change-is, all-tails, those-all, none-in}
use Rattle.mf_account.proofs.RemovedLemmas.{standing-removed}
use Rattle.mf_account.proofs.StandingIsOne.{standing-is-one}

-- the standing entries with one more
fold-push : (order xs : List Entry) (e : Entry) → fold with_entry order (xs ++ e ∷ [])
    ≡ with_entry (fold with_entry order xs) e
fold-push order [] e = refl
fold-push order (x ∷ xs) e = fold-push (with_entry order x) xs e

pub standing-entered : (entries others : List Entry) (place : ℕ) (e : Entry) → e.reversed ≡ false
    → others ≡ standing_entries entries → order_with e others ≡ insert others place e → standing_entries (entries ++ e
    ∷ []) ≡ take place (standing_entries entries) ++ e ∷ drop place (standing_entries entries)
standing-entered entries others place e stands is place_is =
    fold-push [] entries e
    ∙ cond-false e.reversed (standing_entries entries) (order_with e (standing_entries entries)) stands
    ∙ ap (order_with e) (sym is)
    ∙ place_is
    ∙ ap (λ xs. insert xs place e) is

remove-parts : (xs : List Entry) (k : ℕ) → remove xs k ≡ take k xs ++ drop (suc k) xs
remove-parts [] zero = refl
remove-parts [] (suc k) = refl
remove-parts (x ∷ xs) zero = refl
remove-parts (x ∷ xs) (suc k) = ap (λ y. x ∷ y) (remove-parts xs k)

-- the entries that a part of an order has, which the code cuts from a place on
pub later-is : (entries all seen : List Entry) (order slice : List ℕ) (k : ℕ) → seen ≡ entries → slice ≡ order
    → entries_at entries order ≡ all → entries_at seen (take (length slice - k) (drop k slice)) ≡ drop k all
later-is entries all seen order slice k seen_is slice_is is =
    ap (λ (e : List Entry). entries_at e (take (length slice - k) (drop k slice))) seen_is
    ∙ ap (entries_at entries) (take_rest slice k ∙ ap (drop k) slice_is)
    ∙ sym (drop-map (λ i. get_or entries i no_entry) k order)
    ∙ ap (drop k) is

pub within-later : (entries seen : List Entry) (order slice : List ℕ) (k : ℕ) → length seen ≡ length entries → slice
    ≡ order → All (λ i. i < length entries) order → All (λ i. i < length seen) (take (length slice - k) (drop k slice))
within-later entries seen order slice k size same within =
    let all : All (λ i. i < length seen) slice =
    subst (λ (n : ℕ). All (λ i. i < n) slice) (sym size) (subst (λ (o : List ℕ). All (λ i. i < length entries) o)
    (sym same) within) in
    All-take (λ i. i < length seen) (length slice - k) (drop k slice) (All-drop (λ i. i < length seen) k slice all)

-- where an order has an entry that stands
pub order-has : (n day : ℕ) (entries : List Entry) (order : List ℕ) (at : ℕ) → AreEntries n day entries
    → All (λ i. i < length entries) order → entries_at entries order ≡ standing_entries entries → at < length entries
    → (entry_at entries at).reversed ≡ false → Contains order at
order-has n day entries order at are within is there stands =
    let own : IsStandingOf entries (standing_entries entries) = (standing-is-one n day entries are).0 in
    let among = own.to (entry_at entries at) (at-among entries at there) stands in
    let index = among-index (entry_at entries at) (standing_entries entries) among in
    let k : ℕ = index.0 in
    let size : length (entries_at entries order) ≡ length order = length-map order (λ i. get_or entries i no_entry) in
    let same = ap length is in
    let below : k < length order = omega (arith, size, same, index.1) in
    let i : ℕ = get_or order k 0 in
    let read : entry_at entries i ≡ entry_at entries at =
    sym (get_or-map (λ i. get_or entries i no_entry) order k 0 no_entry below) ∙ ap (λ x. entry_at x k) is ∙ index.2 in
    let first = are.numbers i (within k 0 below) in
    let second = are.numbers at there in
    let seqs = ap (λ (x : Entry). x.seq) read in
    (k, below, get_or_default order k at 0 below ∙ omega (arith, first, second, seqs))

-- what stands at a place of an order
pub at-order : (entries all : List Entry) (order : List ℕ) (k at : ℕ) → entries_at entries order ≡ all
    → k < length order → get_or order k 0 ≡ at → entry_at all k ≡ entry_at entries at
at-order entries all order k at is within here =
    ap (λ x. entry_at x k) (sym is) ∙ get_or-map (λ i. get_or entries i no_entry) order k 0 no_entry within
    ∙ ap (entry_at entries) here

-- the standing entries with one less
pub standing-without-it : (n day : ℕ) (entries : List Entry) (at k : ℕ) → AreEntries n day entries
    → AreEntries n day (with_mark entries at true) → at < length entries → k < length (standing_entries entries)
    → entry_at (standing_entries entries) k ≡ entry_at entries at → standing_entries (with_mark entries at true)
    ≡ take k (standing_entries entries) ++ drop (k + 1) (standing_entries entries)
standing-without-it n day entries at k are are_marked there within here =
    standing-removed n day entries at k are are_marked there within here
    ∙ remove-parts (standing_entries entries) k
    ∙ ap (λ n. take k (standing_entries entries) ++ drop n (standing_entries entries)) (sym (add-one k))

-- the orders of a loan are those over its rows at any place
orders-before : (old : DisbursedLoan) (k : ℕ) → orders_by (cells_of old) (state_before old k).rows ≡ orders_of old
orders-before old k =
    orders-same (cells_of old) (state_before old k).rows (first_state (schedule_of old)).rows
    (dues-after_all (orders_of old) (take k (standing_entries old.entries)) (first_state (schedule_of old)))

pub redone-from : (old : DisbursedLoan) (es back applied : List Entry) (k kept : ℕ) (book next : State)
    (parts : List SettledPart)
    → standing_entries es ≡ take k (standing_entries old.entries) ++ back → kept ≤ length (settled_of_loan old)
    → take kept (settled_of_loan old) ≡ settled_upto old k → book ≡ state_before old k → applied ≡ back
    → next ≡ after_entries (orders_by (cells_of old) book.rows) applied book → parts ≡ settled_by
    (orders_by (cells_of old) book.rows) applied book → IsRedone old (record old { entries = es }) next kept parts
redone-from old es back applied k kept book next parts stands within front book_is applied_is next_is parts_is =
    let orders : Orders = orders_of old in
    let first : State = first_state (schedule_of old) in
    let before : List Entry = take k (standing_entries old.entries) in
    record {
      book_is = next_is
          ∙ ap (λ x. after_entries (orders_by (cells_of old) book.rows) x book) applied_is
          ∙ ap (λ (x : State). after_entries (orders_by (cells_of old) x.rows) back x) book_is
          ∙ ap (λ (o : Orders). after_entries o back (state_before old k)) (orders-before old k)
          ∙ sym (after_all-append orders before back first)
          ∙ ap (λ x. after_entries orders x first) (sym stands);
      within = within;
      parts_are = ap (λ x. x ++ parts) front
          ∙ ap (λ x. settled_upto old k ++ x)
          (parts_is
          ∙ ap (λ x. settled_by (orders_by (cells_of old) book.rows) x book) applied_is
          ∙ ap (λ (x : State). settled_by (orders_by (cells_of old) x.rows) back x) book_is
          ∙ ap (λ (o : Orders). settled_by o back (state_before old k)) (orders-before old k))
          ∙ sym (settled_by-append orders before back first)
          ∙ ap (λ x. settled_by orders x first) (sym stands);
    }

-- a number that no entry has is that of no part
none-of-number : (loan : DisbursedLoan) (seq : ℕ) → IsSoundDisbursed loan → (1 ≤ seq → seq ≤ length loan.entries → ⊥)
    → settled_in seq (settled_of_loan loan) ≡ []
none-of-number loan seq sound outside =
    none-in seq (settled_of_loan loan)
    (numbers-apart (orders_of loan) seq (standing_entries loan.entries) (first_state (schedule_of loan))
    (λ j below same.
    let at = standing-at loan.periods loan.day loan.entries j sound.entries below in
    let number = sound.entries.numbers at.0 at.1.within in
    let own : (entry_at loan.entries at.0).seq ≡ (entry_at (standing_entries loan.entries) j).seq =
    ap (λ (x : Entry). x.seq) at.1.same in
    let there = at.1.within in
    outside (omega (arith, number, own, same)) (omega (arith, number, own, same, there))))

other-within : (before after : DisbursedLoan) → IsSoundDisbursed before → IsSoundDisbursed after → length before.entries
    ≤ length after.entries
    → (seq : ℕ) → HasOtherParts (settled_of_loan before) (settled_of_loan after) seq → (1 ≤ seq)
    × (seq ≤ length after.entries)
other-within before after sound_before sound_after more seq differ =
    elim (cases_lt 0 seq) [
      | inl some ↦
          elim (cases_lt (length after.entries) seq) [
            | inl past ↦ absurd (differ (none-of-number before seq sound_before (λ from to. omega (
              arith,
              to,
              past,
              more,
            )) ∙ sym (none-of-number after seq sound_after (λ from to. omega (arith, to, past)))))
            | inr within ↦ (omega (arith, some), within)
          ]
      | inr none ↦ absurd (differ (none-of-number before seq sound_before (λ from to. omega (arith, from, none))
          ∙ sym (none-of-number after seq sound_after (λ from to. omega (arith, from, none)))))
    ]

-- what a change changes, seen from the parts that stay on
pub change-tails : (before after : DisbursedLoan) (old new : State) (kept : ℕ) (tail parts : List SettledPart)
    (change : ChangedNumbers) → IsSoundDisbursed before → IsSoundDisbursed after → length before.entries
    ≤ length after.entries
    → old ≡ state_of_loan before → tail ≡ drop kept (settled_of_loan before) → IsRedone before after new kept parts
    → length old.rows ≡ after.periods → AreThose (length old.rows) (HasOtherRow old.rows new.rows) change.rows
    → AreAll (HasOtherParts tail parts) change.seqs → IsChange before after change
change-tails before after old new kept tail parts change sound_before sound_after more old_is tail_is redone periods
    rows seqs =
    let all : List SettledPart = settled_of_loan before in
    let front : List SettledPart = take kept all in
    let later : AreAll (HasOtherParts (drop kept all) parts) change.seqs =
    subst (λ (x : List SettledPart). AreAll (HasOtherParts x parts) change.seqs) tail_is seqs in
    let whole : AreAll (HasOtherParts all (front ++ parts)) change.seqs =
    subst (λ (x : List SettledPart). AreAll (HasOtherParts x (front ++ parts)) change.seqs) (take-append-drop kept all)
    (all-tails front (drop kept all) parts change.seqs later) in
    let within : AreThose (length after.entries) (HasOtherParts all (front ++ parts)) change.seqs =
    those-all (length after.entries) (HasOtherParts all (front ++ parts)) change.seqs whole
    (λ seq differ. other-within before after sound_before sound_after more seq
    (subst (λ (x : List SettledPart). HasOtherParts all x seq) redone.parts_are differ)) in
    change-is before after old new all (front ++ parts) change old_is refl redone.book_is redone.parts_are periods rows
    within

-- the slice of the parts from a place on
pub tail-from : (slice all : List SettledPart) (k : ℕ) → slice ≡ all → take (length slice - k) (drop k slice)
    ≡ drop k all
tail-from slice all k is = take_rest slice k ∙ ap (drop k) is

-- ---- by the name of a loan's strategy: what it orders is what the loan does

-- the order of the cells by a strategy, where so many instalments are due
abbrev pub cells_named : StrategyName → ℕ → ℕ → ℕ → Cell
cells_named name n due = cell_by name due

pub after-named : (loan : DisbursedLoan) (name : StrategyName) (applied : List Entry) (book next : State)
    → name ≡ loan.terms.strategy → next ≡ after_entries (orders_by (cells_named name) book.rows) applied book
    → next ≡ after_entries (orders_by (cells_of loan) book.rows) applied book
after-named loan name applied book next same is =
    is ∙ ap (λ (n : StrategyName). after_entries (orders_by (cells_named n) book.rows) applied book) same

pub settled-named : (loan : DisbursedLoan) (name : StrategyName) (applied : List Entry) (book : State)
    (parts : List SettledPart)
    → name ≡ loan.terms.strategy → parts ≡ settled_by (orders_by (cells_named name) book.rows) applied book
    → parts ≡ settled_by (orders_by (cells_of loan) book.rows) applied book
settled-named loan name applied book parts same is =
    is ∙ ap (λ (n : StrategyName). settled_by (orders_by (cells_named n) book.rows) applied book) same

pub fits-named : (loan : DisbursedLoan) (name : StrategyName) (applied : List Entry) (book : State)
    → name ≡ loan.terms.strategy → AreApplicable (orders_by (cells_of loan) book.rows) applied book
    → AreApplicable (orders_by (cells_named name) book.rows) applied book
fits-named loan name applied book same is =
    subst (λ (n : StrategyName). AreApplicable (orders_by (cells_named n) book.rows) applied book) (sym same) is
