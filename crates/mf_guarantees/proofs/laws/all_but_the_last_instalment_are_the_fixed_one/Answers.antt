use Rattle.mf_guarantees.proofs.PartLemmas.{at_most_fixed, fixed_but_last}
use Rattle.mf_guarantees.proofs.laws.all_but_the_last_instalment_are_the_fixed_one.Goals as goal

pub returns-clause-fixed : goal.returns-clause-fixed
returns-clause-fixed c = λ terms principal n day i j limits fixed comes own later among some.
    fixed_but_last terms principal n day i j limits fixed comes own later some

pub returns-clause-no_more : goal.returns-clause-no_more
returns-clause-no_more c = at_most_fixed
