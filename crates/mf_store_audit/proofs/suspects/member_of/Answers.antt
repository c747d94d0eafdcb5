use Rattle.std.proofs.Common.{◌≡◌, Some, true, rules, sym, subst}
use Rattle.mf_office.specs.Texts.{caller_of}
use Rattle.mf_store_audit.specs.Suspects.{is_named}
use Rattle.mf_store_audit.proofs.SuspectLemmas.{one_member}
use Rattle.mf_store_audit.proofs.suspects.member_of.Goals as goal

pub returns-clause-only : goal.returns-clause-only
returns-clause-only c up member there named =
    let caller : caller_of c.args.row.now.staff ≡ Some c.in_ok-caller.caller = search rules in
    one_member c.in_ok-caller.caller c.get.result c.get-2.result c.get.ensures.value c.get-2.ensures.value
    c.args.staff.now c.row_at.result member c.row_at.ensures.found c.row_at.ensures.none up there
    (subst (λ o. is_named o member ≡ true) caller named)
