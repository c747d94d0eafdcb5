use Rattle.mf_store_audit.proofs.SuspectLemmas.{beyond_role}
use Rattle.mf_store_audit.proofs.suspects.is_beyond_role.Goals as goal

pub returns-in-Some-Some : goal.returns-in-Some-Some
returns-in-Some-Some c =
    beyond_role c.args.row.now c.args.member.now c.in-Some-Some.kind c.in-Some-Some.role c.from_number.result
    c.from_number-2.result c.may_enter.result c.in-Some-Some.is-0 c.in-Some-Some.is-1
    c.in-Some-Some.ensures.some c.in-Some-Some.ensures'.some c.from_number.ensures.every c.from_number-2.ensures.every
    c.may_enter.ensures
