use Rattle.std.proofs.Common.{◌≡◌, true, Some, is_some, ap, ◌∙◌, rules}
use Rattle.serde_json.specs.View.{view}
use Rattle.mf_model.specs.Sound.{IsName}
use Rattle.mf_wire_requests.specs.Bodies.{text_at, name_at}
use Rattle.mf_wire_requests.proofs.Ranges.{name_read}
use Rattle.mf_wire_requests.proofs.body.name.Goals as goal

pub returns-clause-value : goal.returns-clause-value
returns-clause-value c =
    let member = c.args.member.now in
    let body = view c.args.body.now in
    let text = c.in_ok-name.name.now in
    let there : text_at member body ≡ Some text = search rules in
    let named : IsName text = search rules in
    let same : text ≡ c.new.result = search rules in
    name_read member body text there named ∙ ap Some same

pub returns-in_err-from_str-clause-value : goal.returns-in_err-from_str-clause-value
returns-in_err-from_str-clause-value c =
    let member = c.args.member.now in
    let body = view c.args.body.now in
    let text = c.in_ok-name.name.now in
    let there : text_at member body ≡ Some text = search rules in
    let named : IsName text = search rules in
    let some : is_some (name_at member body) ≡ true = ap is_some (name_read member body text there named) in
    search rules
