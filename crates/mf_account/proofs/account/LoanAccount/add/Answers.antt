use Rattle.std.proofs.Common.{◌≡◌, ◌+◌, ◌≤◌, ◌∙◌, ◌++◌, ◌∷◌, [], ℕ, ap, sym, subst, arith, take, List, length}
use Rattle.std.proofs.Common.{length-append, refl}
use Rattle.std.specs.Prelude.{insert}
use Rattle.mf_account.specs.declared.settled.SettledPart.{SettledPart}
use Rattle.mf_account.specs.Change.{KeptAccount, IsChange, IsReplayed}
use Rattle.mf_account.specs.Safe.{IsSafe}
use Rattle.mf_account.specs.Standing.{order_with, standing_entries}
use Rattle.mf_account.specs.Loan.{DisbursedLoan, IsSoundDisbursed, IsKept, settled_of_loan}
use Rattle.mf_account.specs.Rewind.{IsRedone}
use Rattle.mf_account.proofs.OrderLemmas.{length-order, order-entered, within-entered}
use Rattle.mf_account.proofs.account.LoanAccount.add.Goals as goal

pub put_in-requires-clause-within : goal.put_in-requires-clause-within
put_in-requires-clause-within c =
    let within : c.place_of-place.result ≤ length (standing_entries c.self.inside.loan.entries) =
    subst (λ (a : KeptAccount). c.place_of-place.result ≤ length (standing_entries a.loan.entries)) (sym c.self.view_is)
    c.place_of-place.ensures.within in
    let size = length-order c.self.inside.loan.entries c.self.inside.order.items c.self.invariant.order_is in
    omega (arith, within, size, c.self.inside.order.ok, c.in_ok-reserve-2.ensures.len)

pub change_to-requires-clause-size : goal.change_to-requires-clause-size
change_to-requires-clause-size c = c.in_ok-book.ensures.safe.bounded.size

pub invariant_of-self-2 : goal.invariant_of-self-2
invariant_of-self-2 c =
    let old : DisbursedLoan = c.self.inside.loan in
    let new : DisbursedLoan = record old { entries = old.entries ++ c.args.entry ∷ [] } in
    let place : ℕ = c.place_of-place.result in
    let sound : IsSoundDisbursed new = subst (λ (a : KeptAccount). IsSoundDisbursed (record a.loan {
      entries = a.loan.entries ++ c.args.entry
          ∷ [];
    })) (sym c.self.view_is) c.requires.sound in
    let place_is : order_with c.args.entry (standing_entries old.entries) ≡ insert (standing_entries old.entries) place
    c.args.entry = subst (λ (a : KeptAccount). order_with c.args.entry (standing_entries a.loan.entries) ≡ insert
    (standing_entries a.loan.entries) place c.args.entry) (sym c.self.view_is) c.place_of-place.ensures.place in
    let at : length c.entries-at.result.now ≡ length old.entries = ap length c.entries-at.ensures in
    let order : c.put_in.new.order.items ≡ insert c.self.inside.order.items place (length old.entries) =
    c.put_in.ensures
    ∙ ap (λ (o : List ℕ). insert o place (length c.entries-at.result.now)) c.in_ok-reserve-2.ensures.items
    ∙ ap (insert c.self.inside.order.items place) at in
    let settled : c.put_behind.new.settled.items ≡ take c.in_ok-book.kept c.self.inside.settled.items
    ++ c.in_ok-book.parts.items =
    c.put_behind.ensures
    ∙ ap (λ (x : List SettledPart). take c.in_ok-book.kept x ++ c.deref-2.result.now) c.in_ok-reserve.ensures.items
    ∙ ap (λ (x : List SettledPart). take c.in_ok-book.kept c.self.inside.settled.items ++ x) c.deref-2.ensures.value in
    let count : length old.entries + 1 ≡ length new.entries = sym (length-append old.entries (c.args.entry ∷ [])) in
    let safe : IsSafe old.periods (length old.entries + 1) c.in_ok-book.book
    (take c.in_ok-book.kept c.self.inside.settled.items ++ c.in_ok-book.parts.items) =
    subst (λ (a : KeptAccount). IsSafe a.loan.periods (length a.loan.entries + 1) c.in_ok-book.book
    (take c.in_ok-book.kept
    a.settled ++ c.in_ok-book.parts.items)) (sym c.self.view_is) c.in_ok-book.ensures.safe in
    let kept : IsKept new (insert c.self.inside.order.items place (length old.entries)) c.self.inside.schedule.items
    c.self.inside.disbursement_fee c.in_ok-book.book c.put_behind.new.settled.items = record {
      sound = sound;
      within = within-entered old.entries c.self.inside.order.items place c.args.entry c.self.invariant.within;
      order_is = order-entered old.entries c.self.inside.order.items place c.args.entry c.self.invariant.within
          c.self.invariant.order_is c.requires.stands place_is;
      schedule_is = c.self.invariant.schedule_is;
      fee_is = c.self.invariant.fee_is;
      safe = subst (λ (x : List SettledPart). IsSafe old.periods (length new.entries) c.in_ok-book.book x) (sym settled)
          (subst (λ (n : ℕ). IsSafe old.periods n c.in_ok-book.book (take c.in_ok-book.kept c.self.inside.settled.items
          ++ c.in_ok-book.parts.items)) count safe);
    } in
    subst (λ (o : List ℕ). IsKept c.add_entry.new.self o c.self.inside.schedule.items
    c.self.inside.disbursement_fee c.in_ok-book.book c.put_behind.new.settled.items) (sym order)
    (subst (λ (l : DisbursedLoan). IsKept l
    (insert c.self.inside.order.items place (length old.entries)) c.self.inside.schedule.items
    c.self.inside.disbursement_fee c.in_ok-book.book c.put_behind.new.settled.items)
    (sym c.in_ok-add_entry.ensures.ok) kept)

pub returns-clause-replayed : goal.returns-clause-replayed
returns-clause-replayed c replayed =
    let loan : DisbursedLoan = c.args.self.now.loan in
    let new : DisbursedLoan = record loan { entries = loan.entries ++ c.args.entry ∷ [] } in
    let redone : IsRedone loan new c.in_ok-book.book c.in_ok-book.kept c.in_ok-book.parts.items =
    c.in_ok-book.ensures.redone replayed in
    let settled : c.put_behind.new.settled.items ≡ settled_of_loan new =
    c.put_behind.ensures
    ∙ ap (λ (x : List SettledPart). take c.in_ok-book.kept x ++ c.deref-2.result.now) (c.in_ok-reserve.ensures.items
    ∙ ap (λ (a : KeptAccount). a.settled) c.self.view_is ∙ replayed.settled)
    ∙ ap (λ (x : List SettledPart). take c.in_ok-book.kept (settled_of_loan loan) ++ x) c.deref-2.ensures.value
    ∙ redone.parts_are in
    let is : IsReplayed (record {
      loan = new;
      state = c.in_ok-book.book;
      settled = c.put_behind.new.settled.items;
      change = c.in_ok-change.change;
    }) = record { state = redone.book_is; settled = settled } in
    subst (λ (l : DisbursedLoan). IsReplayed (record {
      loan = l;
      state = c.in_ok-book.book;
      settled = c.put_behind.new.settled.items;
      change = c.in_ok-change.change;
    }))
    (sym (c.in_ok-add_entry.ensures.ok ∙ ap (λ (a : KeptAccount). record a.loan {
      entries = a.loan.entries ++ c.args.entry ∷ [];
    }) c.self.view_is)) is

pub returns-clause-change : goal.returns-clause-change
returns-clause-change c replayed =
    let loan : DisbursedLoan = c.args.self.now.loan in
    let new : DisbursedLoan = record loan { entries = loan.entries ++ c.args.entry ∷ [] } in
    let longer = length-append loan.entries (c.args.entry ∷ []) in
    let own : IsRedone loan new c.in_ok-book.book c.in_ok-book.kept c.deref.result.now =
    subst (λ (x : List SettledPart). IsRedone loan new c.in_ok-book.book c.in_ok-book.kept x)
    (sym c.deref.ensures.value)
    (c.in_ok-book.ensures.redone replayed) in
    let is : IsChange loan new c.in_ok-change.change =
    c.in_ok-change.ensures.change replayed new c.requires.sound refl (omega (arith, longer)) own in
    subst (λ (l : DisbursedLoan). IsChange loan l c.in_ok-change.change)
    (sym (c.in_ok-add_entry.ensures.ok ∙ ap (λ (a : KeptAccount). record a.loan {
      entries = a.loan.entries ++ c.args.entry ∷ [];
    }) c.self.view_is)) is
