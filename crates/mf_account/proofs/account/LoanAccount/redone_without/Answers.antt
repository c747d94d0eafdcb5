use Rattle.std.proofs.Common.{◌≡◌, ℕ, ◌+◌, ◌-◌, ◌*◌, ◌<◌, ◌≤◌, ◌++◌, true, List, length, take, drop, arith, ap, sym}
use Rattle.std.proofs.Common.{subst}
use Rattle.std.proofs.lemmas.List.{length-set}
use Rattle.std.proofs.lemmas.List.Elements.{All-take}
use Rattle.mf_alloc.specs.Rows.{IsCell}
use Rattle.mf_account.specs.declared.entry.Entry.{Entry}
use Rattle.mf_account.specs.declared.settled.SettledPart.{SettledPart}
use Rattle.mf_account.specs.Change.{KeptAccount}
use Rattle.mf_account.specs.Safe.{most_kept, IsBounded, IsSafe}
use Rattle.mf_account.specs.Told.{settled_amount, IsNumberedTo, AreNumberedTo}
use Rattle.mf_account.specs.Standing.{entries_at, standing_entries, entry_at, with_mark}
use Rattle.mf_account.specs.Loan.{DisbursedLoan, IsSoundDisbursed, settled_of_loan}
use Rattle.mf_account.specs.Rewind.{IsRedone, state_before, settled_upto}
use Rattle.mf_account.proofs.SoundLemmas.{sound-reversed}
use Rattle.mf_account.proofs.TailLemmas.{standing-at}
use Rattle.mf_account.proofs.OrderLemmas.{length-order}
use Rattle.mf_account.proofs.RedoneLemmas.{after-named, settled-named, fits-named}
use Rattle.mf_account.proofs.RedoneLemmas.{standing-without-it, later-is, within-later, redone-from}
use Rattle.mf_account.proofs.SafeLemmas.{fits-safe, safe-redone}
use Rattle.mf_account.proofs.account.LoanAccount.redone_without.Goals as goal

pub offset_bounds-deref-place : goal.offset_bounds-deref-place
offset_bounds-deref-place c =
    let within : c.args.place < length (standing_entries c.self.inside.loan.entries) = subst (λ (a : KeptAccount).
    c.args.place < length (standing_entries a.loan.entries)) (sym c.self.view_is) c.requires.within in
    let size = length-order c.self.inside.loan.entries c.self.inside.order.items c.self.invariant.order_is in
    let same = ap length c.deref.ensures.value in
    omega (arith, within, size, same, c.deref.ensures.len, c.self.inside.order.ok)

pub apply_all-requires-clause-few : goal.apply_all-requires-clause-few
apply_all-requires-clause-few c =
    let periods : c.self.inside.loan.periods ≡ c.args.self.now.loan.periods =
    ap (λ (a : KeptAccount). a.loan.periods) c.self.view_is in
    omega (arith, c.in_ok-book.ensures.bounded.size, periods, c.self.invariant.sound.limits.most_periods)

pub apply_all-requires-clause-within : goal.apply_all-requires-clause-within
apply_all-requires-clause-within c =
    within-later c.self.inside.loan.entries c.entries.result.now c.self.inside.order.items c.deref.result.now
    (c.args.place + 1)
    (ap length c.entries.ensures) c.deref.ensures.value c.self.invariant.within

pub apply_all-requires-clause-fits : goal.apply_all-requires-clause-fits
apply_all-requires-clause-fits c =
    let old : DisbursedLoan = c.self.inside.loan in
    let place : ℕ = c.args.place in
    let later : List Entry = entries_at c.entries.result.now
    (take (length c.deref.result.now - (place + 1)) (drop (place + 1) c.deref.result.now)) in
    let order : List ℕ = c.self.inside.order.items in
    let within : place < length (standing_entries old.entries) = subst (λ (a : KeptAccount). place
    < length (standing_entries a.loan.entries)) (sym c.self.view_is) c.requires.within in
    let at = standing-at old.periods old.day old.entries place c.self.invariant.sound.entries within in
    let sound : IsSoundDisbursed (record old { entries = with_mark old.entries at.0 true }) =
    sound-reversed old at.0 c.self.invariant.sound at.1.within in
    let bounded : IsBounded old.periods (2 * most_kept) c.in_ok-book.book = subst (λ (a : KeptAccount).
    IsBounded a.loan.periods (2 * most_kept) c.in_ok-book.book) (sym c.self.view_is) c.in_ok-book.ensures.bounded in
    let stands = standing-without-it old.periods old.day old.entries at.0 place c.self.invariant.sound.entries
    sound.entries at.1.within within (sym at.1.same) in
    fits-named old c.strategy-strategy.result later c.in_ok-book.book c.strategy-strategy.ensures
    (fits-safe old (with_mark old.entries at.0 true) (drop (place + 1) (standing_entries old.entries)) _ place
    c.in_ok-book.book sound stands
    (later-is old.entries (standing_entries old.entries) c.entries.result.now order c.deref.result.now (place + 1)
    c.entries.ensures c.deref.ensures.value c.self.invariant.order_is) bounded)

pub returns-clause-redone : goal.returns-clause-redone
returns-clause-redone c replayed at there same =
    let old : DisbursedLoan = c.self.inside.loan in
    let place : ℕ = c.args.place in
    let later : List Entry = entries_at c.entries.result.now
    (take (length c.deref.result.now - (place + 1)) (drop (place + 1) c.deref.result.now)) in
    let state = after-named old c.strategy-strategy.result later c.in_ok-book.book c.apply_all.new.book
    c.strategy-strategy.ensures c.in_ok-parts.ensures.state in
    let own = settled-named old c.strategy-strategy.result later c.in_ok-book.book c.in_ok-parts.parts.items
    c.strategy-strategy.ensures c.in_ok-parts.ensures.parts in
    let order : List ℕ = c.self.inside.order.items in
    let within : place < length (standing_entries old.entries) = subst (λ (a : KeptAccount). place
    < length (standing_entries a.loan.entries)) (sym c.self.view_is) c.requires.within in
    let below : at < length old.entries =
    subst (λ (a : KeptAccount). at < length a.loan.entries) (sym c.self.view_is) there in
    let here : entry_at (standing_entries old.entries) place ≡ entry_at old.entries at = subst (λ (a : KeptAccount).
    entry_at (standing_entries a.loan.entries) place ≡ entry_at a.loan.entries at) (sym c.self.view_is) same in
    let sound : IsSoundDisbursed (record old { entries = with_mark old.entries at true }) =
    sound-reversed old at c.self.invariant.sound below in
    let back = c.in_ok-book.ensures.back replayed in
    let book_is : c.in_ok-book.book ≡ state_before old c.args.place =
    subst (λ (a : KeptAccount). c.in_ok-book.book ≡ state_before a.loan c.args.place) (sym c.self.view_is) back.0 in
    let stands = standing-without-it old.periods old.day old.entries at place c.self.invariant.sound.entries
    sound.entries below within here in
    let front : take c.in_ok-book.kept (settled_of_loan old) ≡ settled_upto old place = subst (λ (a : KeptAccount).
    take c.in_ok-book.kept (settled_of_loan a.loan) ≡ settled_upto a.loan place) (sym c.self.view_is) back.1 in
    let size = ap length replayed.settled in
    let seen = ap (λ (a : KeptAccount). length (settled_of_loan a.loan)) c.self.view_is in
    let kept : c.in_ok-book.kept ≤ length (settled_of_loan old) =
    omega (arith, c.in_ok-book.ensures.within, size, seen) in
    subst (λ (a : KeptAccount). IsRedone a.loan (record a.loan { entries = with_mark a.loan.entries at true })
    c.apply_all.new.book c.in_ok-book.kept c.in_ok-parts.parts.items) c.self.view_is
    (redone-from old (with_mark old.entries at true) (drop (place + 1) (standing_entries old.entries)) _ place
    c.in_ok-book.kept c.in_ok-book.book c.apply_all.new.book c.in_ok-parts.parts.items stands kept front book_is
    (later-is old.entries (standing_entries old.entries) c.entries.result.now order c.deref.result.now (place + 1)
    c.entries.ensures c.deref.ensures.value c.self.invariant.order_is)
    state own)

pub returns-clause-safe : goal.returns-clause-safe
returns-clause-safe c =
    let old : DisbursedLoan = c.self.inside.loan in
    let place : ℕ = c.args.place in
    let later : List Entry = entries_at c.entries.result.now
    (take (length c.deref.result.now - (place + 1)) (drop (place + 1) c.deref.result.now)) in
    let state = after-named old c.strategy-strategy.result later c.in_ok-book.book c.apply_all.new.book
    c.strategy-strategy.ensures c.in_ok-parts.ensures.state in
    let own = settled-named old c.strategy-strategy.result later c.in_ok-book.book c.in_ok-parts.parts.items
    c.strategy-strategy.ensures c.in_ok-parts.ensures.parts in
    let order : List ℕ = c.self.inside.order.items in
    let within : place < length (standing_entries old.entries) = subst (λ (a : KeptAccount). place
    < length (standing_entries a.loan.entries)) (sym c.self.view_is) c.requires.within in
    let at = standing-at old.periods old.day old.entries place c.self.invariant.sound.entries within in
    let sound : IsSoundDisbursed (record old { entries = with_mark old.entries at.0 true }) =
    sound-reversed old at.0 c.self.invariant.sound at.1.within in
    let bounded : IsBounded old.periods (2 * most_kept) c.in_ok-book.book = subst (λ (a : KeptAccount).
    IsBounded a.loan.periods (2 * most_kept) c.in_ok-book.book) (sym c.self.view_is) c.in_ok-book.ensures.bounded in
    let stands = standing-without-it old.periods old.day old.entries at.0 place c.self.invariant.sound.entries
    sound.entries at.1.within within (sym at.1.same) in
    let kept : ℕ = c.in_ok-book.kept in
    let amount : settled_amount (take kept c.self.inside.settled.items ++ c.in_ok-parts.parts.items) ≤ most_kept =
    subst (λ (x : List SettledPart). settled_amount (take kept c.self.inside.settled.items ++ x) ≤ most_kept)
    c.deref-2.ensures.value
    (subst (λ (a : KeptAccount). settled_amount (take kept a.settled ++ c.deref-2.result.now) ≤ most_kept)
    (sym c.self.view_is) (c.is_within_bounds.ensures.parts c.if-not-is_within_bounds.false)) in
    let count : length (with_mark old.entries at.0 true) ≡ length old.entries =
    length-set old.entries at.0 (record (entry_at old.entries at.0) { reversed = true }) in
    let numbers : AreNumberedTo (length (with_mark old.entries at.0 true)) c.self.inside.settled.items =
    subst (λ (n : ℕ). AreNumberedTo n c.self.inside.settled.items) (sym count) c.self.invariant.safe.placed.numbers in
    subst (λ (a : KeptAccount). IsSafe a.loan.periods (length a.loan.entries) c.apply_all.new.book (take kept a.settled
    ++ c.in_ok-parts.parts.items)) c.self.view_is
    (subst (λ (n : ℕ). IsSafe old.periods n c.apply_all.new.book (take kept c.self.inside.settled.items
    ++ c.in_ok-parts.parts.items)) count
    (safe-redone old (with_mark old.entries at.0 true) (drop (place + 1) (standing_entries old.entries)) _ place
    c.in_ok-book.book sound stands
    (later-is old.entries (standing_entries old.entries) c.entries.result.now order c.deref.result.now (place + 1)
    c.entries.ensures c.deref.ensures.value c.self.invariant.order_is) bounded
    c.apply_all.new.book (take kept c.self.inside.settled.items) c.in_ok-parts.parts.items state
    own
    (All-take (λ (s : SettledPart). IsCell old.periods s.cell) kept c.self.inside.settled.items
    c.self.invariant.safe.placed.cells)
    (All-take (IsNumberedTo (length (with_mark old.entries at.0 true))) kept c.self.inside.settled.items numbers)
    amount (λ n shaped. c.is_within_bounds.ensures.book n shaped c.if-not-is_within_bounds.false)))
