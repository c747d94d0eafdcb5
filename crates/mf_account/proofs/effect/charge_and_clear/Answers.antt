use Rattle.std.proofs.Common.{ℕ, ap, ◌∙◌, List}
use Rattle.mf_alloc.specs.declared.row.Cell.{Cell}
use Rattle.mf_alloc.specs.Sums.{Instalment}
use Rattle.mf_alloc.specs.Order.{order_at}
use Rattle.mf_account.specs.Account.{parts_numbered}
use Rattle.mf_account.specs.Effect.{with_charge, parts_cleared}
use Rattle.mf_account.specs.AtOnce.{with_cleared}
use Rattle.mf_account.proofs.EffectLemmas.{with_cleared-from}
use Rattle.mf_account.proofs.DueLemmas.{order-same, dues-with_charge}
use Rattle.mf_account.proofs.effect.charge_and_clear.Goals as goal

pub returns-clause-rows : goal.returns-clause-rows
returns-clause-rows g c =
    let cells = g.T.Strategy.cell_at c.args.strategy.now in
    let entry = c.args.entry.now in
    let charged : List Instalment = c.charge.new.rows in
    let owed : List Instalment = with_charge entry.kind entry c.args.rows.now in
    let parts = c.deref.ensures.value ∙ c.in_ok-parts.ensures.parts in
    let same = order-same cells owed c.args.rows.now entry.day (dues-with_charge entry.kind entry c.args.rows.now) in
    with_cleared-from (order_at cells charged entry.day) entry entry.seq charged c.settle_all.new.rows
    c.deref.result.now parts c.settle_all.ensures
    ∙ ap (λ (x : List Instalment). with_cleared (order_at cells x entry.day) entry x) c.charge.ensures
    ∙ ap (λ (o : ℕ → Cell). with_cleared o entry owed) same

pub returns-clause-parts : goal.returns-clause-parts
returns-clause-parts g c =
    let cells = g.T.Strategy.cell_at c.args.strategy.now in
    let entry = c.args.entry.now in
    let owed : List Instalment = with_charge entry.kind entry c.args.rows.now in
    let same = order-same cells owed c.args.rows.now entry.day (dues-with_charge entry.kind entry c.args.rows.now) in
    c.in_ok-parts.ensures.parts
    ∙ ap (λ (x : List Instalment). parts_numbered entry.seq 1 (parts_cleared (order_at cells x entry.day) entry x))
    c.charge.ensures
    ∙ ap (λ (o : ℕ → Cell). parts_numbered entry.seq 1 (parts_cleared o entry owed)) same
