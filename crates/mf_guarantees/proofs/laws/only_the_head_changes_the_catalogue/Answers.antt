use Rattle.std.proofs.Common.{◌≡◌, true, rules, arith}
use Rattle.std.proofs.lemmas.Grind.{common_steps}
use Rattle.std.specs.Prelude.{◌==◌}
use Rattle.std.proofs.lemmas.Bool.Decides.{nat_tests}
use Rattle.mf_guarantees.proofs.laws.only_the_head_changes_the_catalogue.Goals as goal

pub returns-clause-role : goal.returns-clause-role
returns-clause-role c = first_of (search rules, grind (arith, common_steps))

pub returns-clause-office : goal.returns-clause-office
returns-clause-office c = λ caller sender call i catalogue from known h.
    let is : (caller.office == 1) ≡ true = search (rules, from, known, h) in
    grind (arith, nat_tests, is)
