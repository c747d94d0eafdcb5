use Rattle.std.proofs.Common.{sym, ap, ◌∙◌}
use Rattle.std.specs.Prelude.{Result}
use Rattle.mf_base.specs.declared.fault.Fault.{Fault}
use Rattle.mf_model.specs.Outcomes.{with_value}
use Rattle.mf_lists.specs.declared.answer.ListAnswer.TheVariants.{Listed}
use Rattle.mf_lists.specs.declared.answer.ListTold.{ListTold}
use Rattle.mf_lists.specs.declared.request.ListRequest.TheVariants.{OfOffice}
use Rattle.mf_lists.specs.Readings.{list_reply}
use Rattle.mf_lists.proofs.ListLemmas.{reply-by_view, reply-known, reply-unknown, unseen}
use Rattle.mf_lists.proofs.laws.an_answer_is_read_off_the_view.Goals as goal

pub returns-clause-view : goal.returns-clause-view
returns-clause-view c = reply-by_view

pub returns-clause-alike : goal.returns-clause-alike
returns-clause-alike c = λ folded c request i j same.
    sym (reply-by_view folded c request i) ∙ ap (list_reply folded c request) same ∙ reply-by_view folded c request j

pub returns-clause-nobody : goal.returns-clause-nobody
returns-clause-nobody c = reply-unknown

pub returns-clause-unseen : goal.returns-clause-unseen
returns-clause-unseen c = λ folded c s x asked i known hidden.
    reply-known folded c s (OfOffice x asked) i known
    ∙ ap (λ (r : Result ListTold Fault). with_value r (λ told. Listed x told))
    (unseen folded asked c.office x i hidden)
