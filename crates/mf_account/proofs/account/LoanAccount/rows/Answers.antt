use Rattle.std.proofs.Common.{◌≡◌, ◌∙◌, ap, sym, subst, arith, length}
use Rattle.mf_account.specs.declared.account.LoanAccount.TheInside.{Inside}
use Rattle.mf_account.specs.Told.{AreRowsSmall}
use Rattle.mf_account.proofs.ToldLemmas.{rows-small}
use Rattle.mf_account.proofs.account.LoanAccount.rows.Goals as goal

pub returns-clause-few : goal.returns-clause-few
returns-clause-few c =
    let rows : c.as_slice.result.now ≡ c.self.inside.book.rows =
    c.as_slice.ensures.value ∙ ap (λ (i : Inside). i.book.rows) c.self-inside.view_is in
    let size = ap length rows in
    omega (arith, size, c.self.invariant.safe.bounded.size, c.self.invariant.sound.limits.most_periods)

pub returns-clause-small : goal.returns-clause-small
returns-clause-small c =
    let rows : c.as_slice.result.now ≡ c.self.inside.book.rows =
    c.as_slice.ensures.value ∙ ap (λ (i : Inside). i.book.rows) c.self-inside.view_is in
    subst AreRowsSmall (sym rows) (rows-small c.self.inside.loan.periods c.self.inside.book
    c.self.invariant.safe.bounded)
