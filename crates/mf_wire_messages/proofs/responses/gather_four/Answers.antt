use Rattle.std.proofs.lemmas.Result.{IfOk-weaker, on_err_weaker}
use Rattle.mf_wire_messages.proofs.GatherLemmas.{gathers_both, cut_first, cut_second}
use Rattle.mf_wire_messages.proofs.responses.gather_four.Goals as goal

pub returns-in_default-gather-clause-err : goal.returns-in_default-gather-clause-err
returns-in_default-gather-clause-err g c =
    cut_second _ _ _ _ _ c.args.first.now _ c.in-Ok.ensures.ok (cut_first _ _ _ c.args.second.now _
    c.in_default-gather.ensures.err)

pub returns-in_default-gather-2-clause-err : goal.returns-in_default-gather-2-clause-err
returns-in_default-gather-2-clause-err g c =
    cut_second _ _ _ _ _ c.args.first.now _ c.in-Ok.ensures.ok
    (cut_second _ _ _ _ _ c.args.second.now _ c.in-Ok-gather.ensures.ok (cut_first _ _ _ c.args.third.now
    c.args.fourth.now c.in_default-gather-2.ensures.err))

pub returns-clause-ok : goal.returns-clause-ok
returns-clause-ok g c =
    IfOk-weaker c.gather-4.result _ _
    (λ n h. gathers_both _ _ _ _ _ c.args.first.now _ _ c.in-Ok.ensures.ok
    (gathers_both _ _ _ _ _ c.args.second.now _ _ c.in-Ok-gather.ensures.ok (gathers_both _ _ _ _ _ c.args.third.now _
    c.args.fourth.now c.in-Ok-gather-2.ensures.ok h)))
    c.gather-4.ensures.ok

pub returns-clause-err : goal.returns-clause-err
returns-clause-err g c =
    on_err_weaker c.gather-4.result
    (λ p. cut_second _ _ _ _ _ c.args.first.now _ c.in-Ok.ensures.ok
    (cut_second _ _ _ _ _ c.args.second.now _ c.in-Ok-gather.ensures.ok (cut_second _ _ _ _ _ c.args.third.now
    c.args.fourth.now c.in-Ok-gather-2.ensures.ok p)))
    c.gather-4.ensures.err
