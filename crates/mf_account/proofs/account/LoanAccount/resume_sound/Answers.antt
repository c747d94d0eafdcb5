use Rattle.std.proofs.Common.{◌≡◌, ℕ, ◌∙◌, ap, sym, subst, arith, refl, length, List, Option, None, Some, Vec, Global}
use Rattle.std.specs.Prelude.{IfSome}
use Rattle.mf_account.specs.declared.entry.Entry.{Entry}
use Rattle.mf_account.specs.declared.settled.SettledPart.{SettledPart}
use Rattle.mf_account.specs.Change.{settled_in}
use Rattle.mf_account.specs.Standing.{standing_entries, entries_at}
use Rattle.mf_account.specs.Loan.{DisbursedLoan, IsSoundDisbursed, state_of_loan, settled_of_loan}
use Rattle.mf_account.proofs.ToldLemmas.{safe-sound}
use Rattle.mf_account.proofs.account.LoanAccount.resume_sound.Goals as goal

pub returns-then-len-loan-clause-account : goal.returns-then-len-loan-clause-account
returns-then-len-loan-clause-account c kept =
    let loan : DisbursedLoan = c.args.loan in
    let sound : IsSoundDisbursed loan = c.requires.sound in
    let size : length c.args.rows.items ≡ loan.periods =
    ap length kept.rows_are ∙ (safe-sound loan sound).bounded.size in
    let periods = ap (λ (l : DisbursedLoan). l.periods) c.loan.view_is in
    absurd (omega (arith, size, periods, c.len.ensures, c.args.rows.ok, c.if-len-loan.true))

pub resumed_book-requires-clause-sound : goal.resumed_book-requires-clause-sound
resumed_book-requires-clause-sound c =
    let loan : DisbursedLoan = c.args.loan in
    let sound : IsSoundDisbursed loan = c.requires.sound in
    (loan, sound, c.entries-entries.ensures)

none_of : {A : Type 0} (o : Option A) → ((a : A) → o ≡ Some a → ⊥) → o ≡ None
none_of None not_some = refl
none_of (Some a) not_some = absurd (not_some a refl)

pub returns-in_default-clause-account : goal.returns-in_default-clause-account
returns-in_default-clause-account c kept =
    let loan : DisbursedLoan = c.args.loan in
    let sound : IsSoundDisbursed loan = c.requires.sound in
    let count : length loan.entries ≡ length c.entries-entries.result.now = sym (ap length c.entries-entries.ensures) in
    let size : length c.args.rows.items ≡ loan.periods =
    ap length kept.rows_are ∙ (safe-sound loan sound).bounded.size in
    let periods : loan.periods ≡ c.len-2.result = omega (arith, size, c.len-2.ensures, c.args.rows.ok) in
    let order : entries_at loan.entries c.deref.result.now ≡ standing_entries loan.entries =
    ap (entries_at loan.entries) c.deref.ensures.value
    ∙ subst (λ (e : List Entry). entries_at e c.in_ok-order.order.items ≡ standing_entries e)
    c.entries-entries.ensures c.in_ok-order.ensures.order in
    let parts : (seq : ℕ) → settled_in seq c.deref-2.result.now ≡ settled_in seq (settled_of_loan loan) =
    λ seq. ap (settled_in seq) c.deref-2.ensures.value ∙ kept.parts_are seq in
    absurd (c.in_ok-placed.ensures.some loan sound count periods order parts (none_of c.in_ok-placed.placed
    c.in_default.not-Some))

pub returns-in_default-resumed_book-clause-account : goal.returns-in_default-resumed_book-clause-account
returns-in_default-resumed_book-clause-account c kept =
    let loan : DisbursedLoan = c.args.loan in
    let sound : IsSoundDisbursed loan = c.requires.sound in
    absurd (c.in_default-resumed_book.ensures.some loan sound kept.rows_are refl)

pub returns-clause-account : goal.returns-clause-account
returns-clause-account c kept =
    let loan : DisbursedLoan = c.args.loan in
    let sound : IsSoundDisbursed loan = c.requires.sound in
    let count : length loan.entries ≡ length c.entries-entries.result.now = sym (ap length c.entries-entries.ensures) in
    let order : entries_at loan.entries c.deref.result.now ≡ standing_entries loan.entries =
    ap (entries_at loan.entries) c.deref.ensures.value
    ∙ subst (λ (e : List Entry). entries_at e c.in_ok-order.order.items ≡ standing_entries e)
    c.entries-entries.ensures c.in_ok-order.ensures.order in
    let parts : (seq : ℕ) → settled_in seq c.deref-2.result.now ≡ settled_in seq (settled_of_loan loan) =
    λ seq. ap (settled_in seq) c.deref-2.ensures.value ∙ kept.parts_are seq in
    let settled : c.in-Some.settled.items ≡ settled_of_loan loan =
    subst (λ (o : Option (Vec SettledPart Global)). IfSome o (λ v. v.items ≡ settled_of_loan loan)) c.in-Some.is
    (c.in_ok-placed.ensures.loan loan sound count order parts) in
    let book : c.in-Some-resumed_book.book ≡ state_of_loan loan =
    c.in-Some-resumed_book.ensures.book loan sound c.entries-entries.ensures kept.rows_are in
    (λ t. Some (record { loan = loan; state = book t; settled = settled t; change = c.no_change.ensures t }))
