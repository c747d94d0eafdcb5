use Rattle.std.proofs.Common.{◌≡◌, ◌∙◌, ap, sym, subst, List, ℕ}
use Rattle.mf_alloc.specs.Sums.{Instalment, AreWithin}
use Rattle.mf_account.specs.Change.{KeptAccount}
use Rattle.mf_account.specs.Effect.{State}
use Rattle.mf_account.specs.Balance.{HasRoom, balances_by}
use Rattle.mf_account.specs.Loan.{fee_of_loan}
use Rattle.mf_account.proofs.ConserveLemmas.{room-bounded}
use Rattle.mf_account.proofs.account.LoanAccount.sums.Goals as goal

pub book_sums-requires : goal.book_sums-requires
book_sums-requires c =
    let rows : c.deref.result.now ≡ c.self.inside.book.rows =
    c.deref.ensures.value ∙ ap (λ (s : State). s.rows) c.book.view_is in
    subst HasRoom (sym rows) (room-bounded c.self.inside.loan.periods c.self.inside.book c.self.invariant.safe.bounded)

pub returns-clause-value : goal.returns-clause-value
returns-clause-value c =
    let at : List Instalment → State =
    λ r. record { rows = r; overpaid = c.book.inside.overpaid; refunded = c.book.inside.refunded } in
    let fee : ℕ = c.self.inside.disbursement_fee in
    c.book_sums.ensures
    ∙ ap (λ r. balances_by fee (at r)) c.deref.ensures.value
    ∙ ap (balances_by fee) c.book.view_is
    ∙ ap (λ f. balances_by f c.self.inside.book) c.self.invariant.fee_is
    ∙ ap (λ (a : KeptAccount). balances_by (fee_of_loan a.loan) a.state) c.self.view_is

pub returns-clause-apart : goal.returns-clause-apart
returns-clause-apart c =
    subst (λ (a : KeptAccount). AreWithin a.state.rows) c.self.view_is c.self.invariant.safe.bounded.within
