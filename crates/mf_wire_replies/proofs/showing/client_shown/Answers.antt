use Rattle.std.proofs.Common.{◌≡◌, ap, string_bytes, ◌∙◌}
use Rattle.json.specs.Print.{quoted}
use Rattle.serde_json.proofs.OnLiterals.{serde_json_on_literals}
use Rattle.mf_office.specs.Written.{account_text}
use Rattle.mf_wire_replies.proofs.Pieces.{client_by}
use Rattle.mf_wire_replies.proofs.showing.client_shown.Goals as goal

pub returns-clause-ok : goal.returns-clause-ok
unfolding serde_json_on_literals
returns-clause-ok c =
    let account = c.args.client in
    let client : string_bytes c.in_ok-client.client ≡ quoted (account_text account.office account.number) =
    c.in_ok-client.ensures ∙ ap quoted (c.as_str.ensures.value ∙ c.in_ok-text.ensures.text) in
    let name : string_bytes c.in_ok-name.name ≡ quoted c.args.name.now =
    c.in_ok-name.ensures ∙ ap quoted c.as_str-2.ensures in
    c.in_ok-body.ensures.ok ∙ (λ i. client_by (client i) (name i))
