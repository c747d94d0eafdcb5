use Rattle.std.proofs.Common.{rules}
use Rattle.std.proofs.lemmas.Int.{to_z-of_z}
use mir.Syntax.{w64}
use mir.Val.{SFits}
use Rattle.mf_store_commits.proofs.catalogue.charge_row.Goals as goal

pub returns-clause-row : goal.returns-clause-row
returns-clause-row c =
    let fits : SFits w64 c.in_ok-cents.cents = search rules in
    cc (to_z-of_z w64 c.in_ok-cents.cents fits, c.in_ok-cents.ensures.amount)
