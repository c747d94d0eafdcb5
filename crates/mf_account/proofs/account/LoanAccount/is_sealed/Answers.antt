use Rattle.std.proofs.Common.{◌≡◌, ℕ, ◌<◌, List, length, ◌∙◌, ap, sym, subst}
use Rattle.std.specs.Prelude.{All}
use Rattle.mf_account.specs.declared.entry.Entry.{Entry}
use Rattle.mf_account.specs.Change.{KeptAccount}
use Rattle.mf_account.specs.Standing.{standing_entries, entries_at}
use Rattle.mf_account.specs.Loan.{AreEntries}
use Rattle.mf_account.specs.Refusals.{is_sealed}
use Rattle.mf_account.proofs.account.LoanAccount.is_sealed.Goals as goal

pub is_sealed-requires-clause-within : goal.is_sealed-requires-clause-within
is_sealed-requires-clause-within c =
    subst (λ (o : List ℕ). All (λ at. at < length c.entries.result.now) o) (sym c.deref.ensures.value)
    (subst (λ (e : List Entry). All (λ at. at < length e) c.self.inside.order.items) (sym c.entries.ensures)
    c.self.invariant.within)

pub is_sealed-requires-clause-order : goal.is_sealed-requires-clause-order
is_sealed-requires-clause-order c =
    ap (entries_at c.entries.result.now) c.deref.ensures.value
    ∙ subst (λ (e : List Entry). entries_at e c.self.inside.order.items ≡ standing_entries e)
    (sym c.entries.ensures) c.self.invariant.order_is

pub is_sealed-requires-clause-entries : goal.is_sealed-requires-clause-entries
is_sealed-requires-clause-entries c = (
  c.self.inside.loan.periods,
  c.self.inside.loan.day,
  subst (AreEntries c.self.inside.loan.periods c.self.inside.loan.day)
      (sym c.entries.ensures) c.self.invariant.sound.entries,
)

pub returns : goal.returns
returns c = c.is_sealed.ensures ∙ ap is_sealed c.entries.ensures ∙ ap (λ (a : KeptAccount). is_sealed a.loan.entries)
    c.self.view_is
