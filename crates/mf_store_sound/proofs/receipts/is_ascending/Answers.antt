use Rattle.std.proofs.Common.{◌∙◌, sym}
use Rattle.mf_store_sound.proofs.ReceiptLemmas.{rises_not, rose}
use Rattle.mf_store_values.proofs.AnswerLemmas.{no_answer, yes_answer}
use Rattle.mf_store_sound.proofs.receipts.is_ascending.Goals as goal

pub returns-then-not-is_before : goal.returns-then-not-is_before
returns-then-not-is_before c =
    no_answer (rises_not c.args.rows.now c.loop-place.place c.index-rows-place.result
    c.index-rows-place-in-loop-place.result c.loop-place.auto.place c.loop-place-test.true c.index-rows-place.is
    c.index-rows-place-in-loop-place.is (sym c.is_before.ensures ∙ c.if-not-is_before.true))

pub returns : goal.returns
returns c = yes_answer (rose c.args.rows.now c.loop-place.place c.loop-place-test.false c.loop-place.invariant)
