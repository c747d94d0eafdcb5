use Rattle.std.proofs.Common.{◌≡◌, ℕ, ◌<◌, false, List, length, get_or, arith, ◌∙◌, ap, sym, subst}
use Rattle.std.specs.List.{Contains}
use Rattle.mf_account.specs.Change.{KeptAccount}
use Rattle.mf_account.specs.Standing.{standing_entries, entry_at}
use Rattle.mf_account.specs.Loan.{DisbursedLoan}
use Rattle.mf_account.proofs.OrderLemmas.{length-order}
use Rattle.mf_account.proofs.RedoneLemmas.{order-has, at-order}
use Rattle.mf_account.proofs.account.LoanAccount.place_at.Goals as goal

pub place_in-requires : goal.place_in-requires
place_in-requires c =
    let old : DisbursedLoan = c.self.inside.loan in
    let there : c.args.at < length old.entries =
    subst (λ (a : KeptAccount). c.args.at < length a.loan.entries) (sym c.self.view_is) c.requires.there in
    let stands : (entry_at old.entries c.args.at).reversed ≡ false = subst (λ (a : KeptAccount).
    (entry_at a.loan.entries c.args.at).reversed ≡ false) (sym c.self.view_is) c.requires.stands in
    subst (λ (o : List ℕ). Contains o c.args.at) (sym c.deref.ensures.value)
    (order-has old.periods old.day old.entries c.self.inside.order.items c.args.at c.self.invariant.sound.entries
    c.self.invariant.within c.self.invariant.order_is there stands)

pub returns-clause-within : goal.returns-clause-within
returns-clause-within c =
    let size = length-order c.self.inside.loan.entries c.self.inside.order.items c.self.invariant.order_is in
    let same = ap length c.deref.ensures.value in
    let seen : length (standing_entries c.self.inside.loan.entries)
    ≡ length (standing_entries c.args.self.now.loan.entries) =
    ap (λ (a : KeptAccount). length (standing_entries a.loan.entries)) c.self.view_is in
    omega (arith, c.place_in.ensures.within, size, same, seen)

pub returns-clause-there : goal.returns-clause-there
returns-clause-there c =
    let old : DisbursedLoan = c.self.inside.loan in
    let same = ap length c.deref.ensures.value in
    let below : c.place_in.result < length c.self.inside.order.items = omega (arith, c.place_in.ensures.within, same) in
    let here : get_or c.self.inside.order.items c.place_in.result 0 ≡ c.args.at =
    ap (λ (o : List ℕ). get_or o c.place_in.result 0) (sym c.deref.ensures.value) ∙ c.place_in.ensures.there in
    subst (λ (a : KeptAccount). entry_at (standing_entries a.loan.entries) c.place_in.result ≡ entry_at a.loan.entries
    c.args.at) c.self.view_is
    (at-order old.entries (standing_entries old.entries) c.self.inside.order.items c.place_in.result c.args.at
    c.self.invariant.order_is below here)
