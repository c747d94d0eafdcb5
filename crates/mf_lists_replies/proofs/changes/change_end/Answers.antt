use Rattle.std.proofs.Common.{◌∙◌}
use Rattle.std.specs.Prelude.{decimal}
use Rattle.serde_json.proofs.OnLiterals.{serde_json_on_literals}
use Rattle.mf_lists_replies.proofs.Pieces.{change_end_by}
use Rattle.mf_lists_replies.proofs.changes.change_end.Goals as goal

pub returns-clause-ok : goal.returns-clause-ok
unfolding serde_json_on_literals
returns-clause-ok c =
    let line = c.args.line.now in
    c.in_ok-end.ensures.ok ∙ (λ i. change_end_by (decimal line.number) (c.in_ok-path.ensures.ok i)
    (c.in_ok-staff.ensures.ok i) (c.in_ok-told.ensures.ok i))
