use Rattle.std.proofs.Common.{◌∙◌, arith, ap, get_or}
use Rattle.std.proofs.lemmas.List.Sums.{sum_by_more_le}
use Rattle.mf_alloc.specs.Sums.{Instalment}
use Rattle.mf_account.proofs.safe.is_owed_within.Goals as goal

pub returns-then-room-owed-clause-exact : goal.returns-then-room-owed-clause-exact
returns-then-room-owed-clause-exact c within =
    let more = sum_by_more_le (λ (row : Instalment). get_or row.owed c.args.p 0) c.args.rows.now c.loop-row.row-index
    c.row-item.result (omega (arith, c.loop-row-test.true)) in
    let own = ap (λ (row : Instalment). get_or row.owed c.args.p 0) (c.row.view_is ∙ c.row-item.is) in
    absurd (omega (arith, own, more, within, c.loop-row.invariant, c.if-room-owed.true))
