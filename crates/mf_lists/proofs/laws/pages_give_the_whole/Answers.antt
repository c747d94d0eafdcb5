use Rattle.std.proofs.Common.{true, refl}
use Rattle.std.specs.Prelude.{◌==◌}
use Rattle.mf_model.specs.Accounts.{status_in}
use Rattle.mf_lists.specs.declared.lines.ClientLine.{ClientLine}
use Rattle.mf_lists.specs.declared.lines.DueLine.{DueLine}
use Rattle.mf_lists.specs.declared.lines.StageLine.{StageLine}
use Rattle.mf_lists.specs.Lists.{counted_client, due_line, is_due, stage_line}
use Rattle.mf_lists.proofs.ListLemmas.{lines-by_pages}
use Rattle.mf_lists.proofs.laws.pages_give_the_whole.Goals as goal

pub returns-clause-clients : goal.returns-clause-clients
returns-clause-clients c = λ k rows turns few.
    lines-by_pages (λ (c : ClientLine). c.number) (counted_client k rows) (λ c. refl) (λ c. true) 500 turns
    rows.clients few

pub returns-clause-due : goal.returns-clause-due
returns-clause-due c = λ k rows day turns few.
    lines-by_pages (λ (d : DueLine). d.loan) (due_line day k rows) (λ l. refl) (λ l. is_due day k l.1) 200 turns
    rows.loans few

pub returns-clause-stages : goal.returns-clause-stages
returns-clause-stages c = λ k rows status turns few.
    lines-by_pages (λ (s : StageLine). s.loan) (stage_line rows) (λ l. refl) (λ l. status_in k l.1 == status) 200 turns
    rows.loans few
