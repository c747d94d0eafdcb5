use Rattle.std.proofs.Common.{ap, sym}
use Rattle.json.specs.Print.{quoted}
use Rattle.serde_json.proofs.OnLiterals.{serde_json_on_literals}
use Rattle.mf_account.specs.declared.entry.Kind.{Kind}
use Rattle.mf_account.specs.Names.{entry_kind_name}
use Rattle.mf_wire_replies.proofs.showing.entries.quoted_kind.Goals as goal

pub returns-in-Repay : goal.returns-in-Repay
unfolding serde_json_on_literals
returns-in-Repay c = sym (ap (λ (x : Kind). quoted (entry_kind_name x)) c.in-Repay.is)

pub returns-in-Fee : goal.returns-in-Fee
unfolding serde_json_on_literals
returns-in-Fee c = sym (ap (λ (x : Kind). quoted (entry_kind_name x)) c.in-Fee.is)

pub returns-in-Penalty : goal.returns-in-Penalty
unfolding serde_json_on_literals
returns-in-Penalty c = sym (ap (λ (x : Kind). quoted (entry_kind_name x)) c.in-Penalty.is)

pub returns-in-Waive : goal.returns-in-Waive
unfolding serde_json_on_literals
returns-in-Waive c = sym (ap (λ (x : Kind). quoted (entry_kind_name x)) c.in-Waive.is)

pub returns-in-WriteOff : goal.returns-in-WriteOff
unfolding serde_json_on_literals
returns-in-WriteOff c = sym (ap (λ (x : Kind). quoted (entry_kind_name x)) c.in-WriteOff.is)

pub returns-in-Refund : goal.returns-in-Refund
unfolding serde_json_on_literals
returns-in-Refund c = sym (ap (λ (x : Kind). quoted (entry_kind_name x)) c.in-Refund.is)
