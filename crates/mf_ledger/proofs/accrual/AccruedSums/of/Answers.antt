use Rattle.std.proofs.Common.{◌≡◌, ◌<◌, ◌^◌, ℕ, List, ap, ◌∙◌, sym, arith, rules}
use Rattle.std.specs.Prelude.{slice_index}
use Rattle.mf_alloc.specs.Sums.{Instalment}
use Rattle.mf_account.specs.declared.balances.Balances.{Balances}
use Rattle.mf_account.specs.Balance.{open_in}
use Rattle.mf_ledger.specs.Accrual.{due_open}
use Rattle.mf_ledger.proofs.TieLemmas.{due-most}
use Rattle.mf_ledger.proofs.accrual.AccruedSums.of.Goals as goal

-- what fell due fits, since all that is outstanding does
fits : (day p outstanding : ℕ) (rows book : List Instalment) → rows ≡ book → outstanding ≡ open_in p book
    → outstanding < 2 ^ 64 → due_open day rows p < 2 ^ 64
fits day p outstanding rows book same is small =
    let most = due-most day p rows in
    let whole : outstanding ≡ open_in p rows = is ∙ ap (open_in p) (sym same) in
    omega (arith, most, whole, small)

pub due_outstanding-requires : goal.due_outstanding-requires
due_outstanding-requires c =
    let small : slice_index c.balances-balances.result.outstanding 0 < 2 ^ 64 = search rules in
    fits c.args.day 0 (slice_index c.balances-balances.result.outstanding 0) c.rows-rows.result.now _
    c.rows-rows.ensures.rows (ap (λ (b : Balances). slice_index b.outstanding 0) c.balances-balances.ensures.value)
    small

pub due_outstanding-requires-in-Some : goal.due_outstanding-requires-in-Some
due_outstanding-requires-in-Some c =
    let small : slice_index c.balances-balances.result.outstanding 1 < 2 ^ 64 = search rules in
    fits c.args.day 1 (slice_index c.balances-balances.result.outstanding 1) c.rows-rows.result.now _
    c.rows-rows.ensures.rows (ap (λ (b : Balances). slice_index b.outstanding 1) c.balances-balances.ensures.value)
    small

pub due_outstanding-requires-in-Some-2 : goal.due_outstanding-requires-in-Some-2
due_outstanding-requires-in-Some-2 c =
    let small : slice_index c.balances-balances.result.outstanding 2 < 2 ^ 64 = search rules in
    fits c.args.day 2 (slice_index c.balances-balances.result.outstanding 2) c.rows-rows.result.now _
    c.rows-rows.ensures.rows (ap (λ (b : Balances). slice_index b.outstanding 2) c.balances-balances.ensures.value)
    small

pub due_outstanding-requires-in-Some-3 : goal.due_outstanding-requires-in-Some-3
due_outstanding-requires-in-Some-3 c =
    let small : slice_index c.balances-balances.result.outstanding 3 < 2 ^ 64 = search rules in
    fits c.args.day 3 (slice_index c.balances-balances.result.outstanding 3) c.rows-rows.result.now _
    c.rows-rows.ensures.rows (ap (λ (b : Balances). slice_index b.outstanding 3) c.balances-balances.ensures.value)
    small
