use Rattle.std.proofs.Common.{◌≡◌, ℕ, ◌<◌, ◌≤◌, ◌∙◌, ◌++◌, true, ap, sym, subst, arith, length, take, List}
use Rattle.std.specs.Prelude.{remove}
use Rattle.std.proofs.lemmas.List.{length-set}
use Rattle.mf_account.specs.declared.settled.SettledPart.{SettledPart}
use Rattle.mf_account.specs.Standing.{standing_entries, with_mark, entry_at}
use Rattle.mf_account.specs.Change.{KeptAccount, IsChange, IsReplayed}
use Rattle.mf_account.specs.Safe.{IsSafe}
use Rattle.mf_account.specs.Loan.{DisbursedLoan, IsSoundDisbursed, IsKept, settled_of_loan}
use Rattle.mf_account.specs.Rewind.{IsRedone}
use Rattle.mf_account.proofs.SoundLemmas.{sound-reversed}
use Rattle.mf_account.proofs.OrderLemmas.{length-order, order-removed, within-removed}
use Rattle.mf_account.proofs.account.LoanAccount.take_out.Goals as goal

pub remove-requires : goal.remove-requires
remove-requires c =
    let within : c.place_at-place.result < length (standing_entries c.self.inside.loan.entries) =
    subst (λ (a : KeptAccount). c.place_at-place.result < length (standing_entries a.loan.entries)) (sym c.self.view_is)
    c.place_at-place.ensures.within in
    let size = length-order c.self.inside.loan.entries c.self.inside.order.items c.self.invariant.order_is in
    omega (arith, within, size, c.self.inside.order.ok)

pub change_to-requires-clause-size : goal.change_to-requires-clause-size
change_to-requires-clause-size c = c.in_ok-book.ensures.safe.bounded.size

pub invariant_of-self-2 : goal.invariant_of-self-2
invariant_of-self-2 c =
    let old : DisbursedLoan = c.self.inside.loan in
    let new : DisbursedLoan = record old { entries = with_mark old.entries c.args.at true } in
    let there : c.args.at < length old.entries =
    subst (λ (a : KeptAccount). c.args.at < length a.loan.entries) (sym c.self.view_is) c.requires.there in
    let sound : IsSoundDisbursed new = sound-reversed old c.args.at c.self.invariant.sound there in
    let place : ℕ = c.place_at-place.result in
    let within : place < length (standing_entries old.entries) = subst (λ (a : KeptAccount). place
    < length (standing_entries a.loan.entries)) (sym c.self.view_is) c.place_at-place.ensures.within in
    let here : entry_at (standing_entries old.entries) place
    ≡ entry_at old.entries c.args.at = subst (λ (a : KeptAccount).
    entry_at (standing_entries a.loan.entries) place ≡ entry_at a.loan.entries c.args.at) (sym c.self.view_is)
    c.place_at-place.ensures.there in
    let settled : c.put_behind.new.settled.items ≡ take c.in_ok-book.kept c.self.inside.settled.items
    ++ c.in_ok-book.parts.items =
    c.put_behind.ensures
    ∙ ap (λ (x : List SettledPart). take c.in_ok-book.kept x ++ c.deref-2.result.now) c.in_ok-reserve.ensures.items
    ∙ ap (λ (x : List SettledPart). take c.in_ok-book.kept c.self.inside.settled.items ++ x) c.deref-2.ensures.value in
    let count : length old.entries ≡ length new.entries =
    sym (length-set old.entries c.args.at (record (entry_at old.entries c.args.at) { reversed = true })) in
    let safe : IsSafe old.periods (length old.entries) c.in_ok-book.book
    (take c.in_ok-book.kept c.self.inside.settled.items ++ c.in_ok-book.parts.items) =
    subst (λ (a : KeptAccount). IsSafe a.loan.periods (length a.loan.entries) c.in_ok-book.book (take c.in_ok-book.kept
    a.settled ++ c.in_ok-book.parts.items)) (sym c.self.view_is) c.in_ok-book.ensures.safe in
    let kept : IsKept new (remove c.self.inside.order.items place) c.self.inside.schedule.items
    c.self.inside.disbursement_fee c.in_ok-book.book c.put_behind.new.settled.items = record {
      sound = sound;
      within = within-removed old.entries c.self.inside.order.items c.args.at place c.self.invariant.within;
      order_is = order-removed old.periods old.day old.entries c.self.inside.order.items c.args.at place
          c.self.invariant.sound.entries sound.entries there c.self.invariant.order_is within here;
      schedule_is = c.self.invariant.schedule_is;
      fee_is = c.self.invariant.fee_is;
      safe = subst (λ (x : List SettledPart). IsSafe old.periods (length new.entries) c.in_ok-book.book x) (sym settled)
          (subst (λ (n : ℕ). IsSafe old.periods n c.in_ok-book.book (take c.in_ok-book.kept c.self.inside.settled.items
          ++ c.in_ok-book.parts.items)) count safe);
    } in
    subst (λ (o : List ℕ). IsKept c.reverse_entry.new.self o
    c.self.inside.schedule.items c.self.inside.disbursement_fee c.in_ok-book.book c.put_behind.new.settled.items)
    (sym c.remove.ensures.items)
    (subst (λ (l : DisbursedLoan). IsKept l (remove c.self.inside.order.items place)
    c.self.inside.schedule.items c.self.inside.disbursement_fee c.in_ok-book.book c.put_behind.new.settled.items)
    (sym c.reverse_entry.ensures) kept)

pub returns-clause-replayed : goal.returns-clause-replayed
returns-clause-replayed c replayed =
    let loan : DisbursedLoan = c.args.self.now.loan in
    let new : DisbursedLoan = record loan { entries = with_mark loan.entries c.args.at true } in
    let redone : IsRedone loan new c.in_ok-book.book c.in_ok-book.kept c.in_ok-book.parts.items =
    c.in_ok-book.ensures.redone replayed c.args.at c.requires.there c.place_at-place.ensures.there in
    let settled : c.put_behind.new.settled.items ≡ settled_of_loan new =
    c.put_behind.ensures
    ∙ ap (λ (x : List SettledPart). take c.in_ok-book.kept x ++ c.deref-2.result.now) (c.in_ok-reserve.ensures.items
    ∙ ap (λ (a : KeptAccount). a.settled) c.self.view_is ∙ replayed.settled)
    ∙ ap (λ (x : List SettledPart). take c.in_ok-book.kept (settled_of_loan loan) ++ x) c.deref-2.ensures.value
    ∙ redone.parts_are in
    let is : IsReplayed (record {
      loan = new;
      state = c.in_ok-book.book;
      settled = c.put_behind.new.settled.items;
      change = c.in_ok-change.change;
    }) = record { state = redone.book_is; settled = settled } in
    subst (λ (l : DisbursedLoan). IsReplayed (record {
      loan = l;
      state = c.in_ok-book.book;
      settled = c.put_behind.new.settled.items;
      change = c.in_ok-change.change;
    }))
    (sym (c.reverse_entry.ensures ∙ ap (λ (a : KeptAccount). record a.loan {
      entries = with_mark a.loan.entries c.args.at true;
    }) c.self.view_is)) is

pub returns-clause-change : goal.returns-clause-change
returns-clause-change c replayed =
    let old : DisbursedLoan = c.self.inside.loan in
    let new : DisbursedLoan = record old { entries = with_mark old.entries c.args.at true } in
    let there : c.args.at < length old.entries =
    subst (λ (a : KeptAccount). c.args.at < length a.loan.entries) (sym c.self.view_is) c.requires.there in
    let sound : IsSoundDisbursed new = sound-reversed old c.args.at c.self.invariant.sound there in
    let redone : IsRedone old new c.in_ok-book.book c.in_ok-book.kept c.in_ok-book.parts.items = subst
    (λ (a : KeptAccount).
    IsRedone a.loan (record a.loan { entries = with_mark a.loan.entries c.args.at true }) c.in_ok-book.book
    c.in_ok-book.kept c.in_ok-book.parts.items) (sym c.self.view_is) (c.in_ok-book.ensures.redone replayed c.args.at
    c.requires.there c.place_at-place.ensures.there) in
    let longer : length new.entries ≡ length old.entries =
    length-set old.entries c.args.at (record (entry_at old.entries c.args.at) { reversed = true }) in
    let more : length c.args.self.now.loan.entries ≤ length new.entries =
    subst (λ (a : KeptAccount). length a.loan.entries ≤ length new.entries) c.self.view_is (omega (arith, longer)) in
    let own : IsRedone c.args.self.now.loan new c.in_ok-book.book c.in_ok-book.kept c.deref.result.now =
    subst (λ (x : List SettledPart). IsRedone c.args.self.now.loan new c.in_ok-book.book c.in_ok-book.kept x)
    (sym c.deref.ensures.value)
    (subst (λ (a : KeptAccount). IsRedone a.loan new c.in_ok-book.book c.in_ok-book.kept c.in_ok-book.parts.items)
    c.self.view_is redone) in
    let same : new.periods ≡ c.args.self.now.loan.periods = ap (λ (a : KeptAccount). a.loan.periods) c.self.view_is in
    subst (λ (l : DisbursedLoan). IsChange c.args.self.now.loan l c.in_ok-change.change) (sym c.reverse_entry.ensures)
    (c.in_ok-change.ensures.change replayed new sound same more own)
