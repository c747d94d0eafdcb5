use Rattle.std.proofs.Common.{◌∙◌, ap, get_or, ltb}
use Rattle.mf_alloc.specs.Sums.{Instalment}
use Rattle.mf_account.proofs.PenaltyLemmas.{owed-tells}
use Rattle.mf_account.proofs.refusal.has_penalty.Goals as goal

pub returns : goal.returns
returns c = λ loan instalment sound first is.
    ap (λ place. ltb 0 (get_or c.row.inside.owed place 0)) c.index.ensures.value
    ∙ ap (λ (row : Instalment). ltb 0 (get_or row.owed 0 0)) c.row.view_is ∙ owed-tells loan instalment c.args.row.now
    sound
    first is
