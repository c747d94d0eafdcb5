use Rattle.mf_guarantees.proofs.EnteredLemmas.{each_entered, each_taken_back}
use Rattle.mf_guarantees.proofs.laws.every_entry_was_allowed_when_it_was_made.Goals as goal

pub returns-clause-made : goal.returns-clause-made
returns-clause-made c = λ i lines loan place entry tree none there.
    each_entered loan place lines i entry tree none there

pub returns-clause-taken_back : goal.returns-clause-taken_back
returns-clause-taken_back c = λ i lines loan place tree stood reversed.
    each_taken_back loan place lines i tree stood reversed
