use Rattle.std.proofs.Common.{◌≡◌, ◌++◌, ap, string_bytes, ◌∙◌}
use Rattle.json.specs.Print.{quoted}
use Rattle.serde_json.proofs.OnLiterals.{serde_json_on_literals}
use Rattle.mf_office.specs.Written.{caller_text}
use Rattle.mf_lists_replies.proofs.Pieces.{staff_by}
use Rattle.mf_lists_replies.proofs.clients.StaffLineListLine.put.Goals as goal

pub returns-clause-ok : goal.returns-clause-ok
unfolding serde_json_on_literals
returns-clause-ok c =
    let line = c.args.self.now in
    let name : string_bytes c.in_ok-name.name ≡ quoted line.name = c.in_ok-name.ensures ∙ ap quoted c.as_str.ensures in
    let staff : string_bytes c.in_ok-staff.staff ≡ quoted (caller_text c.args.place line.number) =
    c.in_ok-staff.ensures ∙ ap quoted (c.as_str-2.ensures.value ∙ c.in_ok-text.ensures.text) in
    c.in_ok-write.ensures.bytes
    ∙ (λ i. string_bytes c.args.text.now ++ staff_by (name i) (c.quoted_role-role.ensures i) (staff i))
