use Rattle.std.proofs.Common.{◌≡◌, ap, string_bytes, ◌∙◌}
use Rattle.std.specs.Prelude.{decimal}
use Rattle.json.specs.Print.{quoted}
use Rattle.serde_json.proofs.OnLiterals.{serde_json_on_literals}
use Rattle.mf_lists_replies.proofs.Pieces.{due_end_by}
use Rattle.mf_lists_replies.proofs.due.due_end.Goals as goal

pub returns-clause-ok : goal.returns-clause-ok
unfolding serde_json_on_literals
returns-clause-ok c =
    let line = c.args.line.now in
    let name : string_bytes c.in_ok-name.name ≡ quoted line.name = c.in_ok-name.ensures ∙ ap quoted c.as_str.ensures in
    c.in_ok-end.ensures.ok ∙ (λ i. due_end_by (decimal line.left) (c.in_ok-loan.ensures.ok i) (name i)
    (c.in_ok-oldest.ensures.ok i))
