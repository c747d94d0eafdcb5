use Rattle.std.proofs.Common.{ap, sym}
use Rattle.json.specs.Print.{quoted}
use Rattle.serde_json.proofs.OnLiterals.{serde_json_on_literals}
use Rattle.mf_alloc.specs.declared.row.Portion.{Portion}
use Rattle.mf_alloc.specs.Portions.{portion_name}
use Rattle.mf_wire_replies.proofs.showing.entries.quoted_portion.Goals as goal

pub returns-in-Penalty : goal.returns-in-Penalty
unfolding serde_json_on_literals
returns-in-Penalty c = sym (ap (λ (x : Portion). quoted (portion_name x)) c.in-Penalty.is)

pub returns-in-Fee : goal.returns-in-Fee
unfolding serde_json_on_literals
returns-in-Fee c = sym (ap (λ (x : Portion). quoted (portion_name x)) c.in-Fee.is)

pub returns-in-Interest : goal.returns-in-Interest
unfolding serde_json_on_literals
returns-in-Interest c = sym (ap (λ (x : Portion). quoted (portion_name x)) c.in-Interest.is)

pub returns-in-Principal : goal.returns-in-Principal
unfolding serde_json_on_literals
returns-in-Principal c = sym (ap (λ (x : Portion). quoted (portion_name x)) c.in-Principal.is)
