use Rattle.std.proofs.Common.{rules}
use Rattle.std.proofs.lemmas.Int.{to_z-of_z}
use mir.Syntax.{w64}
use mir.Val.{SFits}
use Rattle.mf_store_commits.proofs.catalogue.product_row.Goals as goal

pub returns-clause-row : goal.returns-clause-row
returns-clause-row c =
    let least : SFits w64 c.in_ok-min_principal.min_principal = search rules in
    let most : SFits w64 c.in_ok-max_principal.max_principal = search rules in
    let low = to_z-of_z w64 c.in_ok-min_principal.min_principal least in
    let high = to_z-of_z w64 c.in_ok-max_principal.max_principal most in
    cc (low, high, c.in_ok-min_principal.ensures.amount, c.in_ok-max_principal.ensures.amount)
