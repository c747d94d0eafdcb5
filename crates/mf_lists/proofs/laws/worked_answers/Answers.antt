use Rattle.std.proofs.Common.{refl, ap}
use Rattle.std.specs.Prelude.{Result}
use Rattle.mf_base.specs.declared.fault.Fault.{Fault}
use Rattle.mf_office.specs.Tree.{is_within, is_at_or_below}
use Rattle.mf_model.specs.Outcomes.{with_value}
use Rattle.mf_lists.specs.declared.answer.ListAnswer.TheVariants.{Previewed}
use Rattle.mf_lists.specs.declared.preview.LoanPreview.{LoanPreview}
use Rattle.mf_lists.proofs.WorkedLemmas.{worked-shown}
use Rattle.mf_lists.proofs.laws.worked_answers.Goals as goal

pub returns-clause-staff : goal.returns-clause-staff
unfolding is_at_or_below is_within
returns-clause-staff c = refl

pub returns-clause-above : goal.returns-clause-above
unfolding is_at_or_below is_within
returns-clause-above c = refl

pub returns-clause-beside : goal.returns-clause-beside
unfolding is_at_or_below is_within
returns-clause-beside c = refl

pub returns-clause-missing : goal.returns-clause-missing
unfolding is_at_or_below is_within
returns-clause-missing c = refl

pub returns-clause-nobody : goal.returns-clause-nobody
returns-clause-nobody c = refl

pub returns-clause-preview : goal.returns-clause-preview
returns-clause-preview c = ap (λ (r : Result LoanPreview Fault). with_value r (λ shown. Previewed shown)) worked-shown

pub returns-clause-retired : goal.returns-clause-retired
returns-clause-retired c = refl

pub returns-clause-nobody_asks : goal.returns-clause-nobody_asks
returns-clause-nobody_asks c = refl
