use Rattle.std.proofs.Common.{sym, subst}
use Rattle.mf_store_journal.specs.Reading.{IsStanding}
use Rattle.mf_store_journal.specs.declared.reading.Standing.TheVariants.{At}
use Rattle.mf_store_journal.proofs.StandingLemmas.{at_line, unreadable}
use Rattle.mf_store_journal.proofs.reading.standing_in.Goals as goal

pub returns-in-None : goal.returns-in-None
returns-in-None c lines is = unreadable lines c.args.row.now is c.in-None.ensures.none

pub returns-in-Some : goal.returns-in-Some
returns-in-Some c lines is =
    subst (λ h. IsStanding lines (At h)) (sym c.head_at.ensures)
    (at_line lines c.args.row.now c.in-Some.kept is c.in-Some.ensures.row)
