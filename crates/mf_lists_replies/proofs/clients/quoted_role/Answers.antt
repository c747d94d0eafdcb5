use Rattle.std.proofs.Common.{ap, sym}
use Rattle.json.specs.Print.{quoted}
use Rattle.serde_json.proofs.OnLiterals.{serde_json_on_literals}
use Rattle.mf_office.specs.Roles.{role_name}
use Rattle.mf_office.specs.declared.staff.Role.{Role}
use Rattle.mf_lists_replies.proofs.clients.quoted_role.Goals as goal

pub returns-in-Teller : goal.returns-in-Teller
unfolding serde_json_on_literals
returns-in-Teller c = sym (ap (λ (x : Role). quoted (role_name x)) c.in-Teller.is)

pub returns-in-Officer : goal.returns-in-Officer
unfolding serde_json_on_literals
returns-in-Officer c = sym (ap (λ (x : Role). quoted (role_name x)) c.in-Officer.is)

pub returns-in-Manager : goal.returns-in-Manager
unfolding serde_json_on_literals
returns-in-Manager c = sym (ap (λ (x : Role). quoted (role_name x)) c.in-Manager.is)
