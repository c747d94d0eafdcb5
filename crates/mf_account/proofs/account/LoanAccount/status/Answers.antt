use Rattle.std.proofs.Common.{◌≡◌, ℕ, ◌<◌, List, length, ◌∙◌, ap, sym, subst}
use Rattle.std.specs.Prelude.{All}
use Rattle.mf_alloc.specs.Sums.{Instalment}
use Rattle.mf_account.specs.declared.entry.Entry.{Entry}
use Rattle.mf_account.specs.Change.{KeptAccount}
use Rattle.mf_account.specs.Effect.{State}
use Rattle.mf_account.specs.Account.{status_of}
use Rattle.mf_account.specs.Standing.{standing_entries, entries_at}
use Rattle.mf_account.specs.Loan.{AreEntries}
use Rattle.mf_account.proofs.account.LoanAccount.status.Goals as goal

pub status-requires-clause-within : goal.status-requires-clause-within
status-requires-clause-within c =
    subst (λ (o : List ℕ). All (λ at. at < length c.entries.result.now) o) (sym c.deref.ensures.value)
    (subst (λ (e : List Entry). All (λ at. at < length e) c.self.inside.order.items) (sym c.entries.ensures)
    c.self.invariant.within)

pub status-requires-clause-order : goal.status-requires-clause-order
status-requires-clause-order c =
    ap (entries_at c.entries.result.now) c.deref.ensures.value
    ∙ subst (λ (e : List Entry). entries_at e c.self.inside.order.items ≡ standing_entries e)
    (sym c.entries.ensures) c.self.invariant.order_is

pub status-requires-clause-entries : goal.status-requires-clause-entries
status-requires-clause-entries c = (
  c.self.inside.loan.periods,
  c.self.inside.loan.day,
  subst (AreEntries c.self.inside.loan.periods c.self.inside.loan.day)
      (sym c.entries.ensures) c.self.invariant.sound.entries,
)

pub returns : goal.returns
returns c =
    let at : List Entry → List Instalment → ℕ → ℕ =
    λ entries rows overpaid. status_of entries (record { rows = rows; overpaid = overpaid; refunded = 0 }) in
    let overpaid : ℕ = c.book.inside.overpaid in
    c.status.ensures
    ∙ ap (λ entries. at entries c.deref-2.result.now overpaid) c.entries.ensures
    ∙ ap (λ rows. at c.self.inside.loan.entries rows overpaid) c.deref-2.ensures.value
    ∙ ap (λ (s : State). status_of c.self.inside.loan.entries s) c.book.view_is
    ∙ ap (λ (a : KeptAccount). status_of a.loan.entries a.state) c.self.view_is
