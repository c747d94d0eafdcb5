use Rattle.std.proofs.Common.{◌≡◌, ◌≤◌, arith, ap, sym, subst, List, ◌∙◌}
use Rattle.std.specs.Prelude.{IsTrue}
use Rattle.std.proofs.lemmas.Bool.{leb-true, le-leb}
use Rattle.mf_alloc.specs.Sums.{Instalment}
use Rattle.mf_account.specs.Account.{sum_at}
use Rattle.mf_account.specs.Effect.{State}
use Rattle.mf_account.specs.Safe.{most_kept}
use Rattle.mf_account.proofs.BoundLemmas.{bounded-from}
use Rattle.mf_account.proofs.safe.is_bounded.Goals as goal

pub returns-then-not-are_owed_within-clause-exact : goal.returns-then-not-are_owed_within-clause-exact
returns-then-not-are_owed_within-clause-exact c n is =
    let rows : c.deref.result.now ≡ c.args.book.now.rows =
    c.deref.ensures.value ∙ ap (λ (s : State). s.rows) c.book.view_is in
    subst IsTrue c.if-not-are_owed_within.true
    (c.are_owed_within.ensures.exact
    (λ p small. subst (λ (r : List Instalment). sum_at (λ (row : Instalment). row.owed) p r
    ≤ most_kept) (sym rows) (is.owed p)))

pub returns-clause-bounded : goal.returns-clause-bounded
returns-clause-bounded c n is within =
    let rows : c.deref.result.now ≡ c.args.book.now.rows =
    c.deref.ensures.value ∙ ap (λ (s : State). s.rows) c.book.view_is in
    bounded-from n most_kept c.args.book.now is
    (λ p small. subst (λ (r : List Instalment). sum_at (λ (row : Instalment). row.owed) p r ≤ most_kept) rows
    (c.are_owed_within.ensures.within c.if-not-are_owed_within.false p small))
    (let overpaid = ap (λ (s : State). s.overpaid) c.book.view_is in
    let refunded = ap (λ (s : State). s.refunded) c.book.view_is in
    let most = leb-true c.saturating_add-money.result 1000000000000000000 within in
    omega (arith, overpaid, refunded, most, c.saturating_add-money.ensures))

pub returns-clause-exact : goal.returns-clause-exact
returns-clause-exact c n is =
    let overpaid = ap (λ (s : State). s.overpaid) c.book.view_is in
    let refunded = ap (λ (s : State). s.refunded) c.book.view_is in
    le-leb c.saturating_add-money.result 1000000000000000000 (omega (
      arith,
      overpaid,
      refunded,
      is.money,
      c.saturating_add-money.ensures,
    ))
