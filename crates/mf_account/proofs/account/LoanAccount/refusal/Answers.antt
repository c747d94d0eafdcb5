use Rattle.std.proofs.Common.{◌≡◌, ℕ, true, false, not, leb, length, arith, ◌∙◌, ap, subst, sym, refl}
use Rattle.std.specs.Prelude.{is_some}
use Rattle.std.proofs.lemmas.Bool.{le-leb, lt-leb}
use Rattle.mf_account.specs.declared.entry.Entry.{Entry}
use Rattle.mf_account.specs.Account.{status_of}
use Rattle.mf_account.specs.Change.{KeptAccount}
use Rattle.mf_account.specs.Effect.{State}
use Rattle.mf_account.specs.Loan.{DisbursedLoan, IsSoundDisbursed, state_of_loan, status_of_loan}
use Rattle.mf_account.specs.Refusals.{is_sealed, admits, is_out_of_order, is_forbidden}
use Rattle.mf_account.proofs.SoundLemmas.{chosen-here, chosen-later}
use Rattle.mf_account.proofs.account.LoanAccount.refusal.Goals as goal

pub returns-then-is_forbidden-clause-value : goal.returns-then-is_forbidden-clause-value
returns-then-is_forbidden-clause-value c replayed =
    let loan : DisbursedLoan = c.args.self.now.loan in
    let e : Entry = c.args.entry.now in
    let day : ℕ = c.args.business_day in
    let sealed : is_sealed loan.entries ≡ false = sym c.if-is_sealed.ensures in
    let admitted : not (admits e.kind (status_of_loan loan)) ≡ false =
    ap (λ (x : State). not (admits e.kind (status_of loan.entries x))) (sym replayed.state)
    ∙ ap (λ n. not (admits e.kind n)) (sym c.status.ensures) ∙ ap not (sym c.if-not-admits.ensures) in
    let ordered : is_out_of_order e.kind loan.day day e.day ≡ false = ap (λ d. is_out_of_order e.kind d day e.day)
    (sym c.day.ensures) ∙ sym c.if-is_out_of_order.ensures in
    let sound : IsSoundDisbursed loan = subst (λ (a : KeptAccount). IsSoundDisbursed a.loan) c.self.view_is
    c.self.invariant.sound in
    let rows : c.deref.result.now ≡ (state_of_loan loan).rows =
    c.deref.ensures.value ∙ ap (λ (s : State). s.rows) c.book.view_is ∙ ap (λ (a : KeptAccount). a.state.rows)
    c.self.view_is ∙ ap (λ (s : State). s.rows) replayed.state in
    let charged : c.is_some.result ≡ is_some loan.terms.overdue =
    c.is_some.ensures ∙ ap (λ (l : DisbursedLoan). is_some l.terms.overdue) c.loan.view_is
    ∙ ap (λ (a : KeptAccount). is_some a.loan.terms.overdue) c.self.view_is in
    let allowed : is_forbidden e.kind (is_some loan.terms.overdue) (state_of_loan loan).rows loan.entries e day ≡ true =
    ap (λ b. is_forbidden e.kind b (state_of_loan loan).rows loan.entries e day) (sym charged)
    ∙ ap (λ r. is_forbidden e.kind c.is_some.result r loan.entries e day) (sym rows)
    ∙ sym (c.if-is_forbidden.ensures.value loan sound rows) in
    chosen-later _ _ _ _ sealed (chosen-later _ _ _ _ admitted (chosen-later _ _ _ _ ordered
    (chosen-here _ _ _ allowed)))

pub returns-then-is_out_of_limits-clause-value : goal.returns-then-is_out_of_limits-clause-value
returns-then-is_out_of_limits-clause-value c replayed =
    let loan : DisbursedLoan = c.args.self.now.loan in
    let e : Entry = c.args.entry.now in
    let day : ℕ = c.args.business_day in
    let sealed : is_sealed loan.entries ≡ false = sym c.if-is_sealed.ensures in
    let admitted : not (admits e.kind (status_of_loan loan)) ≡ false =
    ap (λ (x : State). not (admits e.kind (status_of loan.entries x))) (sym replayed.state)
    ∙ ap (λ n. not (admits e.kind n)) (sym c.status.ensures) ∙ ap not (sym c.if-not-admits.ensures) in
    let ordered : is_out_of_order e.kind loan.day day e.day ≡ false = ap (λ d. is_out_of_order e.kind d day e.day)
    (sym c.day.ensures) ∙ sym c.if-is_out_of_order.ensures in
    let sound : IsSoundDisbursed loan = subst (λ (a : KeptAccount). IsSoundDisbursed a.loan) c.self.view_is
    c.self.invariant.sound in
    let rows : c.deref.result.now ≡ (state_of_loan loan).rows =
    c.deref.ensures.value ∙ ap (λ (s : State). s.rows) c.book.view_is ∙ ap (λ (a : KeptAccount). a.state.rows)
    c.self.view_is ∙ ap (λ (s : State). s.rows) replayed.state in
    let charged : c.is_some.result ≡ is_some loan.terms.overdue =
    c.is_some.ensures ∙ ap (λ (l : DisbursedLoan). is_some l.terms.overdue) c.loan.view_is
    ∙ ap (λ (a : KeptAccount). is_some a.loan.terms.overdue) c.self.view_is in
    let allowed : is_forbidden e.kind (is_some loan.terms.overdue) (state_of_loan loan).rows loan.entries e day
    ≡ false =
    ap (λ b. is_forbidden e.kind b (state_of_loan loan).rows loan.entries e day) (sym charged)
    ∙ ap (λ r. is_forbidden e.kind c.is_some.result r loan.entries e day) (sym rows)
    ∙ sym (c.if-is_forbidden.ensures.value loan sound rows) in
    chosen-later _ _ _ _ sealed (chosen-later _ _ _ _ admitted (chosen-later _ _ _ _ ordered
    (chosen-later _ _ _ _ allowed (chosen-here _ _ _ (sym c.if-is_out_of_limits.ensures)))))

pub returns-then-entries-ge-MOST_ENTRIES-clause-value : goal.returns-then-entries-ge-MOST_ENTRIES-clause-value
returns-then-entries-ge-MOST_ENTRIES-clause-value c replayed =
    let loan : DisbursedLoan = c.args.self.now.loan in
    let e : Entry = c.args.entry.now in
    let day : ℕ = c.args.business_day in
    let sealed : is_sealed loan.entries ≡ false = sym c.if-is_sealed.ensures in
    let admitted : not (admits e.kind (status_of_loan loan)) ≡ false =
    ap (λ (x : State). not (admits e.kind (status_of loan.entries x))) (sym replayed.state)
    ∙ ap (λ n. not (admits e.kind n)) (sym c.status.ensures) ∙ ap not (sym c.if-not-admits.ensures) in
    let ordered : is_out_of_order e.kind loan.day day e.day ≡ false = ap (λ d. is_out_of_order e.kind d day e.day)
    (sym c.day.ensures) ∙ sym c.if-is_out_of_order.ensures in
    let sound : IsSoundDisbursed loan = subst (λ (a : KeptAccount). IsSoundDisbursed a.loan) c.self.view_is
    c.self.invariant.sound in
    let rows : c.deref.result.now ≡ (state_of_loan loan).rows =
    c.deref.ensures.value ∙ ap (λ (s : State). s.rows) c.book.view_is ∙ ap (λ (a : KeptAccount). a.state.rows)
    c.self.view_is ∙ ap (λ (s : State). s.rows) replayed.state in
    let charged : c.is_some.result ≡ is_some loan.terms.overdue =
    c.is_some.ensures ∙ ap (λ (l : DisbursedLoan). is_some l.terms.overdue) c.loan.view_is
    ∙ ap (λ (a : KeptAccount). is_some a.loan.terms.overdue) c.self.view_is in
    let allowed : is_forbidden e.kind (is_some loan.terms.overdue) (state_of_loan loan).rows loan.entries e day
    ≡ false =
    ap (λ b. is_forbidden e.kind b (state_of_loan loan).rows loan.entries e day) (sym charged)
    ∙ ap (λ r. is_forbidden e.kind c.is_some.result r loan.entries e day) (sym rows)
    ∙ sym (c.if-is_forbidden.ensures.value loan sound rows) in
    let size : length c.entries.result.now ≡ length loan.entries = ap length c.entries.ensures in
    let many : leb 9999 (length loan.entries) ≡ true = le-leb 9999 (length loan.entries)
    (omega (arith, size, c.if-entries-ge-MOST_ENTRIES.true)) in
    chosen-later _ _ _ _ sealed (chosen-later _ _ _ _ admitted (chosen-later _ _ _ _ ordered (chosen-later _ _ _ _
    allowed (chosen-later _ _ _ _ (sym c.if-is_out_of_limits.ensures) (chosen-here _ _ _ many)))))

pub returns-else-entries-ge-MOST_ENTRIES-clause-value : goal.returns-else-entries-ge-MOST_ENTRIES-clause-value
returns-else-entries-ge-MOST_ENTRIES-clause-value c replayed =
    let loan : DisbursedLoan = c.args.self.now.loan in
    let e : Entry = c.args.entry.now in
    let day : ℕ = c.args.business_day in
    let sealed : is_sealed loan.entries ≡ false = sym c.if-is_sealed.ensures in
    let admitted : not (admits e.kind (status_of_loan loan)) ≡ false =
    ap (λ (x : State). not (admits e.kind (status_of loan.entries x))) (sym replayed.state)
    ∙ ap (λ n. not (admits e.kind n)) (sym c.status.ensures) ∙ ap not (sym c.if-not-admits.ensures) in
    let ordered : is_out_of_order e.kind loan.day day e.day ≡ false = ap (λ d. is_out_of_order e.kind d day e.day)
    (sym c.day.ensures) ∙ sym c.if-is_out_of_order.ensures in
    let sound : IsSoundDisbursed loan = subst (λ (a : KeptAccount). IsSoundDisbursed a.loan) c.self.view_is
    c.self.invariant.sound in
    let rows : c.deref.result.now ≡ (state_of_loan loan).rows =
    c.deref.ensures.value ∙ ap (λ (s : State). s.rows) c.book.view_is ∙ ap (λ (a : KeptAccount). a.state.rows)
    c.self.view_is ∙ ap (λ (s : State). s.rows) replayed.state in
    let charged : c.is_some.result ≡ is_some loan.terms.overdue =
    c.is_some.ensures ∙ ap (λ (l : DisbursedLoan). is_some l.terms.overdue) c.loan.view_is
    ∙ ap (λ (a : KeptAccount). is_some a.loan.terms.overdue) c.self.view_is in
    let allowed : is_forbidden e.kind (is_some loan.terms.overdue) (state_of_loan loan).rows loan.entries e day
    ≡ false =
    ap (λ b. is_forbidden e.kind b (state_of_loan loan).rows loan.entries e day) (sym charged)
    ∙ ap (λ r. is_forbidden e.kind c.is_some.result r loan.entries e day) (sym rows)
    ∙ sym (c.if-is_forbidden.ensures.value loan sound rows) in
    let size : length c.entries.result.now ≡ length loan.entries = ap length c.entries.ensures in
    let few : leb 9999 (length loan.entries) ≡ false = lt-leb 9999 (length loan.entries)
    (omega (arith, size, c.if-entries-ge-MOST_ENTRIES.false)) in
    chosen-later _ _ _ _ sealed (chosen-later _ _ _ _ admitted (chosen-later _ _ _ _ ordered (chosen-later _ _ _ _
    allowed (chosen-later _ _ _ _ (sym c.if-is_out_of_limits.ensures) (chosen-later _ _ _ _ few refl)))))
