use Rattle.std.proofs.Common.{◌≡◌, ℕ, ◌+◌, ◌-◌, ◌*◌, ◌≤◌, ◌∷◌, [], ◌++◌, List, length, length-append, take, drop, arith}
use Rattle.std.proofs.Common.{refl, ap, sym, subst}
use Rattle.std.specs.Prelude.{insert}
use Rattle.std.proofs.lemmas.List.Elements.{All-take, All-weaker}
use Rattle.mf_alloc.specs.Rows.{IsCell}
use Rattle.mf_account.specs.declared.entry.Entry.{Entry}
use Rattle.mf_account.specs.declared.settled.SettledPart.{SettledPart}
use Rattle.mf_account.specs.Change.{KeptAccount}
use Rattle.mf_account.specs.Safe.{most_kept, IsBounded, IsSafe}
use Rattle.mf_account.specs.Told.{settled_amount, IsNumberedTo, AreNumberedTo}
use Rattle.mf_account.specs.Standing.{entries_at, order_with, standing_entries}
use Rattle.mf_account.specs.Loan.{DisbursedLoan, IsSoundDisbursed, settled_of_loan}
use Rattle.mf_account.specs.Rewind.{IsRedone, state_before, settled_upto}
use Rattle.mf_account.proofs.OrderLemmas.{length-order}
use Rattle.mf_account.proofs.RedoneLemmas.{after-named, settled-named, fits-named}
use Rattle.mf_account.proofs.RedoneLemmas.{standing-entered, later-is, within-later, redone-from}
use Rattle.mf_account.proofs.SafeLemmas.{fits-safe, safe-redone}
use Rattle.mf_account.proofs.account.LoanAccount.redone_with.Goals as goal

pub offset_bounds-deref-place : goal.offset_bounds-deref-place
offset_bounds-deref-place c =
    let within : c.args.place ≤ length (standing_entries c.self.inside.loan.entries) = subst (λ (a : KeptAccount).
    c.args.place ≤ length (standing_entries a.loan.entries)) (sym c.self.view_is) c.requires.within in
    let size = length-order c.self.inside.loan.entries c.self.inside.order.items c.self.invariant.order_is in
    let same = ap length c.deref.ensures.value in
    omega (arith, within, size, same, c.deref.ensures.len, c.self.inside.order.ok)

pub apply_with-requires-clause-few : goal.apply_with-requires-clause-few
apply_with-requires-clause-few c =
    let periods : c.self.inside.loan.periods ≡ c.args.self.now.loan.periods =
    ap (λ (a : KeptAccount). a.loan.periods) c.self.view_is in
    omega (arith, c.in_ok-book.ensures.bounded.size, periods, c.self.invariant.sound.limits.most_periods)

pub apply_with-requires-clause-within : goal.apply_with-requires-clause-within
apply_with-requires-clause-within c =
    within-later c.self.inside.loan.entries c.entries-entries.result.now c.self.inside.order.items c.deref.result.now
    c.args.place
    (ap length c.entries-entries.ensures) c.deref.ensures.value c.self.invariant.within

pub apply_with-requires-clause-fits : goal.apply_with-requires-clause-fits
apply_with-requires-clause-fits c =
    let old : DisbursedLoan = c.self.inside.loan in
    let e : Entry = c.args.entry.now in
    let place : ℕ = c.args.place in
    let later : List Entry = e ∷ entries_at c.entries-entries.result.now
    (take (length c.deref.result.now - place) (drop place c.deref.result.now)) in
    let place_is : order_with e (standing_entries old.entries) ≡ insert (standing_entries old.entries) place e =
    subst (λ (a : KeptAccount). order_with e (standing_entries a.loan.entries)
    ≡ insert (standing_entries a.loan.entries) place e) (sym c.self.view_is) c.requires.place in
    let sound : IsSoundDisbursed (record old { entries = old.entries ++ e ∷ [] }) = subst (λ (a : KeptAccount).
    IsSoundDisbursed (record a.loan { entries = a.loan.entries ++ e ∷ [] })) (sym c.self.view_is) c.requires.sound in
    let bounded : IsBounded old.periods (2 * most_kept) c.in_ok-book.book = subst (λ (a : KeptAccount).
    IsBounded a.loan.periods (2 * most_kept) c.in_ok-book.book) (sym c.self.view_is) c.in_ok-book.ensures.bounded in
    fits-named old c.strategy-strategy.result later c.in_ok-book.book c.strategy-strategy.ensures
    (fits-safe old (old.entries ++ e ∷ []) (e ∷ drop place (standing_entries old.entries)) _ place c.in_ok-book.book
    sound
    (standing-entered old.entries (standing_entries old.entries) place e c.requires.stands refl place_is)
    (ap (λ (x : List Entry). e ∷ x) (later-is old.entries (standing_entries old.entries) c.entries-entries.result.now
    c.self.inside.order.items c.deref.result.now place c.entries-entries.ensures c.deref.ensures.value
    c.self.invariant.order_is)) bounded)

pub returns-clause-redone : goal.returns-clause-redone
returns-clause-redone c replayed =
    let old : DisbursedLoan = c.self.inside.loan in
    let e : Entry = c.args.entry.now in
    let place : ℕ = c.args.place in
    let later : List Entry = e ∷ entries_at c.entries-entries.result.now
    (take (length c.deref.result.now - place) (drop place c.deref.result.now)) in
    let state = after-named old c.strategy-strategy.result later c.in_ok-book.book c.apply_with.new.book
    c.strategy-strategy.ensures c.in_ok-parts.ensures.state in
    let own = settled-named old c.strategy-strategy.result later c.in_ok-book.book c.in_ok-parts.parts.items
    c.strategy-strategy.ensures c.in_ok-parts.ensures.parts in
    let place_is : order_with e (standing_entries old.entries) ≡ insert (standing_entries old.entries) place e =
    subst (λ (a : KeptAccount). order_with e (standing_entries a.loan.entries)
    ≡ insert (standing_entries a.loan.entries) place e) (sym c.self.view_is) c.requires.place in
    let back = c.in_ok-book.ensures.back replayed in
    let book_is : c.in_ok-book.book ≡ state_before old c.args.place =
    subst (λ (a : KeptAccount). c.in_ok-book.book ≡ state_before a.loan c.args.place) (sym c.self.view_is) back.0 in
    let front : take c.in_ok-book.kept (settled_of_loan old) ≡ settled_upto old place = subst (λ (a : KeptAccount).
    take c.in_ok-book.kept (settled_of_loan a.loan) ≡ settled_upto a.loan place) (sym c.self.view_is) back.1 in
    let size = ap length replayed.settled in
    let same = ap (λ (a : KeptAccount). length (settled_of_loan a.loan)) c.self.view_is in
    let within : c.in_ok-book.kept ≤ length (settled_of_loan old) =
    omega (arith, c.in_ok-book.ensures.within, size, same) in
    subst (λ (a : KeptAccount). IsRedone a.loan (record a.loan { entries = a.loan.entries ++ e ∷ [] })
    c.apply_with.new.book
    c.in_ok-book.kept c.in_ok-parts.parts.items) c.self.view_is
    (redone-from old (old.entries ++ e ∷ []) (e ∷ drop place (standing_entries old.entries)) _ place c.in_ok-book.kept
    c.in_ok-book.book c.apply_with.new.book c.in_ok-parts.parts.items
    (standing-entered old.entries (standing_entries old.entries) place e c.requires.stands refl place_is) within front
    book_is
    (ap (λ (x : List Entry). e ∷ x) (later-is old.entries (standing_entries old.entries) c.entries-entries.result.now
    c.self.inside.order.items c.deref.result.now place c.entries-entries.ensures c.deref.ensures.value
    c.self.invariant.order_is))
    state own)

pub returns-clause-safe : goal.returns-clause-safe
returns-clause-safe c =
    let old : DisbursedLoan = c.self.inside.loan in
    let e : Entry = c.args.entry.now in
    let place : ℕ = c.args.place in
    let later : List Entry = e ∷ entries_at c.entries-entries.result.now
    (take (length c.deref.result.now - place) (drop place c.deref.result.now)) in
    let state = after-named old c.strategy-strategy.result later c.in_ok-book.book c.apply_with.new.book
    c.strategy-strategy.ensures c.in_ok-parts.ensures.state in
    let own = settled-named old c.strategy-strategy.result later c.in_ok-book.book c.in_ok-parts.parts.items
    c.strategy-strategy.ensures c.in_ok-parts.ensures.parts in
    let place_is : order_with e (standing_entries old.entries) ≡ insert (standing_entries old.entries) place e =
    subst (λ (a : KeptAccount). order_with e (standing_entries a.loan.entries)
    ≡ insert (standing_entries a.loan.entries) place e) (sym c.self.view_is) c.requires.place in
    let sound : IsSoundDisbursed (record old { entries = old.entries ++ e ∷ [] }) = subst (λ (a : KeptAccount).
    IsSoundDisbursed (record a.loan { entries = a.loan.entries ++ e ∷ [] })) (sym c.self.view_is) c.requires.sound in
    let bounded : IsBounded old.periods (2 * most_kept) c.in_ok-book.book = subst (λ (a : KeptAccount).
    IsBounded a.loan.periods (2 * most_kept) c.in_ok-book.book) (sym c.self.view_is) c.in_ok-book.ensures.bounded in
    let kept : ℕ = c.in_ok-book.kept in
    let amount : settled_amount (take kept c.self.inside.settled.items ++ c.in_ok-parts.parts.items) ≤ most_kept =
    subst (λ (x : List SettledPart). settled_amount (take kept c.self.inside.settled.items ++ x) ≤ most_kept)
    c.deref-2.ensures.value
    (subst (λ (a : KeptAccount). settled_amount (take kept a.settled ++ c.deref-2.result.now) ≤ most_kept)
    (sym c.self.view_is) (c.is_within_bounds.ensures.parts c.if-not-is_within_bounds.false)) in
    let count : length (old.entries ++ e ∷ []) ≡ length old.entries + 1 = length-append old.entries (e ∷ []) in
    let more : AreNumberedTo (length (old.entries ++ e ∷ [])) c.self.inside.settled.items =
    All-weaker (IsNumberedTo (length old.entries)) (IsNumberedTo (length (old.entries ++ e ∷ [])))
    (λ s is. (is.0, omega (arith, is.1, count))) c.self.inside.settled.items c.self.invariant.safe.placed.numbers in
    subst (λ (a : KeptAccount). IsSafe a.loan.periods (length a.loan.entries + 1) c.apply_with.new.book
    (take kept a.settled
    ++ c.in_ok-parts.parts.items)) c.self.view_is
    (subst (λ (n : ℕ). IsSafe old.periods n c.apply_with.new.book (take kept c.self.inside.settled.items
    ++ c.in_ok-parts.parts.items)) count
    (safe-redone old (old.entries ++ e ∷ []) (e ∷ drop place (standing_entries old.entries)) _ place c.in_ok-book.book
    sound
    (standing-entered old.entries (standing_entries old.entries) place e c.requires.stands refl place_is)
    (ap (λ (x : List Entry). e ∷ x) (later-is old.entries (standing_entries old.entries) c.entries-entries.result.now
    c.self.inside.order.items c.deref.result.now place c.entries-entries.ensures c.deref.ensures.value
    c.self.invariant.order_is)) bounded
    c.apply_with.new.book (take kept c.self.inside.settled.items) c.in_ok-parts.parts.items state
    own
    (All-take (λ (s : SettledPart). IsCell old.periods s.cell) kept c.self.inside.settled.items
    c.self.invariant.safe.placed.cells)
    (All-take (IsNumberedTo (length (old.entries ++ e ∷ []))) kept c.self.inside.settled.items more)
    amount (λ n shaped. c.is_within_bounds.ensures.book n shaped c.if-not-is_within_bounds.false)))
