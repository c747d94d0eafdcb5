use Rattle.mf_store_values.proofs.SameLemmas.{same_all}
use Rattle.mf_store_values.proofs.AnswerLemmas.{yes_answer}
use Rattle.mf_store_values.proofs.same.are_same.Goals as goal

pub returns : goal.returns
returns g c = yes_answer (same_all c.args.rows.now c.args.others.now c.loop-place.place c.if-rows-others.false
    c.loop-place-test.false c.loop-place.invariant)
