use Rattle.std.proofs.Common.{◌≡◌, ℕ, ◌<◌, [], List, length, arith, ◌∙◌, ap, sym, subst}
use Rattle.std.specs.Prelude.{All, insert}
use Rattle.mf_account.specs.declared.entry.Entry.{Entry}
use Rattle.mf_account.specs.Change.{KeptAccount}
use Rattle.mf_account.specs.Standing.{order_with, standing_entries, entries_at, IsInOrder}
use Rattle.mf_account.proofs.InOrder.{in_order-fold}
use Rattle.mf_account.proofs.OrderLemmas.{length-order}
use Rattle.mf_account.proofs.account.LoanAccount.place_of.Goals as goal

pub position-requires-clause-within : goal.position-requires-clause-within
position-requires-clause-within c =
    subst (λ (o : List ℕ). All (λ at. at < length c.entries.result.now) o) (sym c.deref.ensures.value)
    (subst (λ (e : List Entry). All (λ at. at < length e) c.self.inside.order.items) (sym c.entries.ensures)
    c.self.invariant.within)

pub position-requires-clause-ordered : goal.position-requires-clause-ordered
position-requires-clause-ordered c =
    let all : entries_at c.entries.result.now c.deref.result.now ≡ standing_entries c.self.inside.loan.entries =
    ap (λ e. entries_at e c.deref.result.now) c.entries.ensures ∙ ap (entries_at c.self.inside.loan.entries)
    c.deref.ensures.value ∙ c.self.invariant.order_is in
    subst IsInOrder (sym all) (in_order-fold [] c.self.inside.loan.entries tt)

pub returns-clause-within : goal.returns-clause-within
returns-clause-within c =
    let size = length-order c.self.inside.loan.entries c.self.inside.order.items c.self.invariant.order_is in
    let same = ap length c.deref.ensures.value in
    let seen : length (standing_entries c.self.inside.loan.entries)
    ≡ length (standing_entries c.args.self.now.loan.entries) =
    ap (λ (a : KeptAccount). length (standing_entries a.loan.entries)) c.self.view_is in
    omega (arith, c.position.ensures.within, size, same, seen)

pub returns-clause-place : goal.returns-clause-place
returns-clause-place c =
    let all : entries_at c.entries.result.now c.deref.result.now ≡ standing_entries c.args.self.now.loan.entries =
    ap (λ e. entries_at e c.deref.result.now) c.entries.ensures ∙ ap (entries_at c.self.inside.loan.entries)
    c.deref.ensures.value ∙ c.self.invariant.order_is
    ∙ ap (λ (a : KeptAccount). standing_entries a.loan.entries) c.self.view_is in
    subst (λ (x : List Entry). order_with c.args.entry.now x ≡ insert x c.position.result c.args.entry.now) all
    c.position.ensures.place
