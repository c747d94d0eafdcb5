use Rattle.mf_lists_desk.proofs.ViewLemmas.{answers_alike}
use Rattle.mf_lists_desk.proofs.answering.answer.Goals as goal

pub returns-clause-own_view : goal.returns-clause-own_view
returns-clause-own_view g c =
    answers_alike g.S.InstitutionStore _ _ _ _ _
    (c.an_answer_is_read_off_the_view.ensures.view g.L.Lists.folded c.args.caller c.args.request) c.reply.ensures.told
