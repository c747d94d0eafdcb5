use Rattle.std.proofs.Common.{◌≡◌, ap, string_bytes, ◌∙◌}
use Rattle.json.specs.Print.{quoted}
use Rattle.serde_json.proofs.OnLiterals.{serde_json_on_literals}
use Rattle.mf_office.specs.Written.{caller_text}
use Rattle.mf_wire_replies.proofs.Pieces.{entry_rest_by}
use Rattle.mf_wire_replies.proofs.showing.entries.entry_rest.Goals as goal

pub returns-clause-ok : goal.returns-clause-ok
unfolding serde_json_on_literals
returns-clause-ok c =
    let entry = c.args.entry.now in
    let staff : string_bytes c.in_ok-staff.staff ≡ quoted (caller_text entry.staff.office entry.staff.staff) =
    c.in_ok-staff.ensures ∙ ap quoted (c.as_str.ensures.value ∙ c.in_ok-text.ensures.text) in
    c.in_ok-rest.ensures.ok ∙ (λ i. entry_rest_by (c.waived_portion-portion.ensures i) (c.in_ok-receipt.ensures i)
    (c.truth-reversed.ensures i) (c.in_ok-shares.ensures.ok i) (staff i))
