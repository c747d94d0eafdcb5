use Rattle.std.proofs.Common.{◌≡◌, ◌++◌, ap, string_bytes, ◌∙◌}
use Rattle.std.specs.Prelude.{decimal}
use Rattle.json.specs.Print.{quoted}
use Rattle.serde_json.proofs.OnLiterals.{serde_json_on_literals}
use Rattle.mf_lists_replies.proofs.Pieces.{client_by}
use Rattle.mf_lists_replies.proofs.clients.ClientLineListLine.put.Goals as goal

pub returns-clause-ok : goal.returns-clause-ok
unfolding serde_json_on_literals
returns-clause-ok c =
    let line = c.args.self.now in
    let name : string_bytes c.in_ok-name.name ≡ quoted line.name = c.in_ok-name.ensures ∙ ap quoted c.as_str.ensures in
    c.in_ok-write.ensures.bytes ∙ (λ i. string_bytes c.args.text.now ++ client_by (decimal line.active)
    (c.in_ok-client.ensures.ok i) (name i) (decimal line.overdue) (decimal line.waiting))
