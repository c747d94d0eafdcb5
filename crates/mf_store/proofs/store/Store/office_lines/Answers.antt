use Rattle.std.proofs.Common.{◌∙◌}
use Rattle.std.proofs.lemmas.Result.{IfOk-weaker}
use Rattle.mf_store.proofs.ArrearsLemmas.{lines_told}
use Rattle.mf_store.proofs.store.Store.office_lines.Goals as goal

pub returns-clause-value : goal.returns-clause-value
returns-clause-value g c clean i s =
    let after_today = c.lines_of_offices.ensures.asks.kept.premise clean in
    let after_offices = c.in_ok-today.ensures.asks.kept.premise after_today in
    let first = c.in_ok-offices.ensures.asks.kept.same after_offices i s in
    let offices = c.as_slice.ensures ∙ c.in_ok-offices.ensures.value after_offices i s in
    let day = c.in_ok-today.ensures.value after_today i first in
    IfOk-weaker c.lines_of_offices.result _ _ (λ list. lines_told c.args.to i c.as_slice.result.now list
    s.sound.tree.ascending offices)
    (c.lines_of_offices.ensures.value clean i (c.in_ok-today.ensures.asks.kept.same after_today i first) day)
