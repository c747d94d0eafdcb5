use Rattle.mf_guarantees.proofs.MoneyLemmas.{sound_after}
use Rattle.mf_guarantees.proofs.ShareLemmas.{line_within}
use Rattle.mf_guarantees.proofs.laws.no_entry_settles_more_than_its_amount.Goals as goal

pub returns : goal.returns
returns c = λ i lines loan account place told s r there is.
    line_within account place told (sound_after lines i loan account s r there) is
