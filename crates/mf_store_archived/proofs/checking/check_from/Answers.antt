use Rattle.mf_store_archived.proofs.CheckLemmas.{first_told, not_flawed, rows_of}
use Rattle.mf_store_archived.proofs.checking.check_from.Goals as goal

pub returns-in_default-clause-none : goal.returns-in_default-clause-none
returns-in_default-clause-none c begins lines tells =
    c.in_default.ensures.none begins tells.can_be.can_begin
    (first_told begins lines c.args.first.now c.args.rest.now tells)

pub returns-in-Ok-clause-whole : goal.returns-in-Ok-clause-whole
returns-in-Ok-clause-whole c =
    rows_of c.in-Some.begins c.in-Ok.ends c.args.first.now c.args.rest.now c.in-Some.ensures.some c.in-Some.ensures.can
    c.in-Ok.ensures.follow

pub returns-in-Err-clause-none : goal.returns-in-Err-clause-none
returns-in-Err-clause-none c begins lines tells =
    not_flawed begins c.in-Some.begins lines c.args.first.now c.args.rest.now c.in-Err.flaw tells
    c.in-Some.ensures.some c.in-Err.ensures.flawed
